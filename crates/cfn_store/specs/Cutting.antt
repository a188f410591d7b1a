-- Which tuples are cut, and what undoing a cut has to know.
use Rattle.std.specs.Prelude.{◌≡◌, ℕ, ◌<◌, Bool, false, not, List, [], ◌∷◌, length, reverse, slice_index_or}
use Rattle.cfn_model.specs.declared.step.Step.TheVariants.{Project, Extend, Lift, CutValue, CutTuple}
use Rattle.cfn_model.specs.declared.step.Event.{Event}
use Rattle.cfn_model.specs.declared.step.Event.TheVariants.{Did, Took, Refused}
use Rattle.cfn_model.specs.Network.{Network, cells, dims_at}
use Rattle.cfn_model.specs.Sums.{is_cut}
use Rattle.cfn_model.specs.Steps.{IsCell}
use Rattle.cfn_rows.specs.Jagged.{row_at}
use Rattle.cfn_store.specs.declared.cuts.Cuts.{Cuts}

-- For each cut of a tuple in a history, the newest first, whether the tuple was not cut before.
abbrev pub fresh : List Event → List Bool
fresh [] = []
fresh (Did (Project f i a m) ∷ history) = fresh history
fresh (Did (Extend f i a m) ∷ history) = fresh history
fresh (Did (Lift x m) ∷ history) = fresh history
fresh (Did (CutValue x a) ∷ history) = fresh history
fresh (Did (CutTuple f c) ∷ history) = not (is_cut history f c) ∷ fresh history
fresh (Took d ∷ history) = fresh history
fresh (Refused d ∷ history) = fresh history

-- The flag of the tuple of f with the number c.
abbrev pub flag_at : Cuts → ℕ → ℕ → Bool
flag_at cuts f c = slice_index_or (row_at cuts.flags f) c false

-- There is a flag for each tuple of each function.
pub record HasFlags (P : Network) (cuts : Cuts) : Type 0 where
  pub functions : length cuts.flags ≡ length P.functions
  pub tuples : (f : ℕ) → f < length P.functions → length (row_at cuts.flags f) ≡ cells (dims_at P f)

-- Flags say which tuples a history has cut, and the cuts that were fresh are known.
pub record IsCuts (P : Network) (history : List Event) (cuts : Cuts) : Type 0 where
  pub shape : HasFlags P cuts
  pub said : (f c : ℕ) → IsCell P f c → flag_at cuts f c ≡ is_cut history f c
  pub fresh_ones : reverse cuts.fresh.items ≡ fresh history
