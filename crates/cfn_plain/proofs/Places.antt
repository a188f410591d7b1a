-- A function that has a place is there.
use Rattle.std.proofs.Common.{ℕ, ◌<◌, length, inl, inr, ap, arith}
use Rattle.std.proofs.lemmas.Bool.{cases_lt}
use Rattle.std.proofs.lemmas.List.{get_or_past}
use Rattle.cfn_model.specs.Network.{Network, Function, no_function, arity}

pub is_there : (P : Network) (f i : ℕ) → i < arity P f → f < length P.functions
is_there P f i place = elim (cases_lt f (length P.functions)) [
  | inl there ↦ there
  | inr past ↦ absurd (omega (arith, place, ap (λ (g : Function). length g.scope) (get_or_past P.functions f no_function past)))
]
