-- The tables that are not dense, written out.
use Rattle.std.specs.Prelude.{◌≡◌, ℕ, ◌<◌, List, length, slice_index, slice_index_or, Vec}
use Rattle.std.specs.Global.{Global}
use Rattle.cfn_model.specs.Network.{Network, function_at}
use Rattle.cfn_net.specs.declared.table.Table.{Table}
use Rattle.cfn_net.specs.Listed.{AreSparse}
use Rattle.cfn_net.specs.Tables.{IsForm, IsSparse, entries_of}
use Rattle.cfn_net.specs.Keeping.{table_at}

-- These entries stand at a place.
pub record StandsAt (spread : List (Vec ℕ Global)) (place : ℕ) (entries : List ℕ) : Type 0 where
  pub in_range : place < length spread
  pub same : (d : Vec ℕ Global) → (slice_index_or spread place d).items ≡ entries

-- The first tables that are not dense stand at their places.
abbrev pub AreSpread : List Table → ℕ → List ℕ → List (Vec ℕ Global) → Type 0
AreSpread tables first places spread = (t default : ℕ) → t < first → IsForm default (table_at tables t) → AreSparse default (entries_of (table_at tables t)) → StandsAt spread (slice_index places t) (entries_of (table_at tables t))

-- And so do the entries of the first functions that the network keeps no table of.
pub record IsExpanded (P : Network) (first : ℕ) (places : List ℕ) (spread : List (Vec ℕ Global)) : Type 0 where
  pub lengths : length places ≡ first
  pub each : (f : ℕ) → f < first → IsSparse (function_at P f) → StandsAt spread (slice_index places f) (function_at P f).entries
