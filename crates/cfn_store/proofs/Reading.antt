-- What a state's parts let a scan read.
use Rattle.std.proofs.Common.{◌≡◌, ℕ, ◌+◌, ◌<◌, ap, subst, sym, ◌∙◌, length}
use Rattle.std.specs.Prelude.{slice_index, slice_index_or, false}
use Rattle.cfn_model.specs.Network.{Network, dims_at, function_at}
use Rattle.cfn_model.specs.Sums.{is_live}
use Rattle.cfn_rows.specs.Jagged.{row_at}
use Rattle.cfn_rows.specs.Sets.{Sets}
use Rattle.cfn_scan.specs.Wrapped.{StandsFor}
use Rattle.cfn_scan.specs.Shifts.{shift, offset}
use Rattle.cfn_scan.specs.Reading.{Reads}
use Rattle.cfn_scan.specs.declared.scan.Scan.{Scan}
use Rattle.cfn_store.specs.declared.state.State.{State}
use Rattle.cfn_store.specs.State.{Keeps, history_of}
use Rattle.cfn_store.proofs.Along.{live_by_removals}

pub state_reads : (P : Network) (s : State) (f : ℕ) (scan : Scan) → f < length P.functions → Keeps P (history_of s) s → scan.sizes.now ≡ P.sizes → scan.table.now ≡ (function_at P f).entries → scan.upper ≡ P.upper → scan.live.now ≡ s.live → scan.flags.now ≡ row_at s.cuts.flags f → scan.shifts.now ≡ row_at s.sums.shifts f → Reads P (history_of s) f scan
state_reads P s f scan there keeps sizes table upper live flags shifts = record {
  function = there;
  sizes = sizes;
  table = table;
  upper = upper;
  live = λ x a. ap (λ (sets : Sets). is_live sets.history x a) live ∙ ap (λ h. is_live h x a) keeps.live ∙ live_by_removals (history_of s) x a;
  flags = λ c l. ap (λ row. slice_index_or row c false) flags ∙ keeps.cuts.said f c (record { function = there; cell = l });
  shifts = λ i a place. subst (λ row. StandsFor (slice_index row (offset (dims_at P f) i + a)) (shift (history_of s) f i a)) (sym shifts) (keeps.sums.shift f i a place);
}
