-- Live values, by how many events have taken them.
use Rattle.std.proofs.Common.{◌≡◌, ℕ, ◌+◌, List, [], ◌∷◌, refl, ap, ◌∙◌, arith}
use Rattle.std.specs.Prelude.{Bool, true, false, not, ◌&&◌, ◌==◌, if◌then◌else◌}
use Rattle.cfn_model.specs.declared.step.Event.{Event}
use Rattle.cfn_model.specs.Sums.{removes, is_live}
use Rattle.cfn_tables.specs.Tables.{takers}

more : (b : Bool) (n : ℕ) → (((if b then 1 else 0) + n) == 0) ≡ (not b && (n == 0))
more true n = grind arith
more false n = grind arith

pub live_is : (history : List Event) (x a : ℕ) → (takers history x a == 0) ≡ is_live history x a
live_is [] x a = refl
live_is (event ∷ history) x a = more (removes event x a) (takers history x a) ∙ ap (λ b. not (removes event x a) && b) (live_is history x a)
