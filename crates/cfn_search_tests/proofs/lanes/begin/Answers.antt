use Rattle.std.proofs.Common.{◌≡◌, ℕ, Bool, true, false, List, [], ◌∷◌, Option, Some, None, nat_lt, if◌then◌else◌, min, refl, sym, ap, subst, arith, ltb-true}
use Rattle.cfn_model.specs.declared.report.Row.{Row}
use Rattle.cfn_model.specs.declared.step.Event.{Event}
use Rattle.cfn_model.specs.Network.{Network}
use Rattle.cfn_model.specs.Sums.{floor}
use Rattle.cfn_low.specs.Outcome.{fresh}
use Rattle.cfn_machine.specs.Parts.{IsAside}
use Rattle.cfn_machine.specs.Pool.{Free, Out, opening_pool}
use Rattle.cfn_search.specs.Searching.{IsSearch}
use Rattle.cfn_search_tests.proofs.lanes.begin.Goals as goal

-- a free leaf is not out, so at the usual opening none is set aside
free_or_out : (worker grant : ℕ) → Free ≡ Out worker grant → ⊥
free_or_out worker grant e = absurd cc

none_aside : (P : Network) (shares budget : ℕ) (path : List Event) → IsAside (opening_pool P shares budget).tree path → ⊥
none_aside P shares budget path aside = free_or_out aside.1 0 aside.2.1

-- and the first row has no upper number
no_upper : (u : ℕ) (b : Bool) → nat_lt u u ≡ b → (if b then Some u else None) ≡ None
no_upper u true below = absurd (let h = ltb-true _ _ below in omega (arith, h))
no_upper u false below = refl

row_with : ℕ → Option ℕ → List Row
row_with lower upper = record { lower = lower; upper = upper } ∷ []

opening : (P : Network) (shares budget : ℕ) → IsSearch (fresh P) (opening_pool P shares budget)
unfolding row_with
opening P shares budget = record {
  begun_is = refl;
  others = [];
  begin = ap (row_with (min P.upper (floor P []))) (no_upper P.upper (nat_lt P.upper P.upper) refl);
  aside = λ path. (λ there. absurd (let few = there.1 in omega (arith, few)), λ aside. absurd (none_aside P shares budget path aside));
}

pub returns-in-Ok-clause-search : goal.returns-in-Ok-clause-search
returns-in-Ok-clause-search g c =
    subst (IsSearch g.M.Incumbent.start) (sym c.in-Ok.ensures.pool)
    (subst (λ s. IsSearch s (opening_pool g.M.Incumbent.network c.args.holder.shares 1000)) (sym c.requires.start) (opening g.M.Incumbent.network c.args.holder.shares 1000))
