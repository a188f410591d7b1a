-- The least floor of the table, and which leaves have one below a threshold.
use Rattle.std.specs.Prelude.{ℕ, min, List, [], ◌∷◌, Option, Some, None, Bool, true, false, not, ◌&&◌, ◌==◌, nat_lt}
use Rattle.cfn_leaves.specs.declared.entry.Mark.{Mark as HeldMark}
use Rattle.cfn_leaves.specs.declared.entry.Mark.TheVariants as held
use Rattle.cfn_leaves.specs.declared.entry.Entry.{Entry}

abbrev pub lesser : ℕ → Option Entry → ℕ
lesser k None = k
lesser k (Some e) = min k e.floor

abbrev pub least_floor : ℕ → List (Option Entry) → ℕ
least_floor k [] = k
least_floor k (o ∷ table) = least_floor (lesser k o) table

-- Whether a leaf is active, and whether an entry is that of an active leaf with a floor below a threshold.
abbrev pub active : HeldMark → Bool
active held.Free = true
active (held.Out worker grant) = not (grant == 0)

abbrev pub active_below : ℕ → Option Entry → Bool
active_below k None = false
active_below k (Some e) = active e.mark && nat_lt e.floor k
