-- What a scan has to read so that it finds the residual costs of a history.
use Rattle.std.specs.Prelude.{◌≡◌, ℕ, ◌+◌, ◌<◌, false, List, length, slice_index, slice_index_or}
use Rattle.cfn_model.specs.declared.step.Event.{Event}
use Rattle.cfn_model.specs.Network.{Network, arity, cells, dims_at, function_at, variable_at}
use Rattle.cfn_model.specs.Sums.{is_live, is_cut}
use Rattle.cfn_model.specs.Steps.{IsPlace}
use Rattle.cfn_scan.specs.declared.scan.Scan.{Scan}
use Rattle.cfn_scan.specs.declared.scan.Pin.{Pin}
use Rattle.cfn_scan.specs.declared.scan.Spot.{Spot}
use Rattle.cfn_scan.specs.Wrapped.{StandsFor}
use Rattle.cfn_scan.specs.Shifts.{shift, offset}

-- The start of a scope.
abbrev pub start : Spot
start = record { cell = 0; shift = 0; offset = 0; place = 0 }

-- A scan reads the words, flags and live values of a history.
pub record Reads (P : Network) (history : List Event) (f : ℕ) (scan : Scan) : Type 0 where
  pub function : f < length P.functions
  pub sizes : scan.sizes.now ≡ P.sizes
  pub table : scan.table.now ≡ (function_at P f).entries
  pub upper : scan.upper ≡ P.upper
  pub live : (x a : ℕ) → is_live scan.live.now.history x a ≡ is_live history x a
  pub flags : (c : ℕ) → c < cells (dims_at P f) → slice_index_or scan.flags.now c false ≡ is_cut history f c
  pub shifts : (i a : ℕ) → IsPlace P f i a → StandsFor (slice_index scan.shifts.now (offset (dims_at P f) i + a)) (shift history f i a)

-- What a scan may ask for: a value of the variable at a place of f, or nothing, since f has no such place.
abbrev pub MayAsk : Network → ℕ → Pin → Type 0
MayAsk P f pin = (p : ℕ) → p < arity P f → p ≡ pin.place → pin.value < slice_index P.sizes (variable_at P f p)
