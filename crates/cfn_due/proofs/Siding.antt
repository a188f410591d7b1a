-- What supports of the values at one place go on over: also over the loss of values of the variable there.
use Rattle.std.proofs.Common.{ℕ, ◌<◌, inl, inr, List, [], ◌∷◌, length, refl, sym, arith}
use Rattle.std.proofs.lemmas.Bool.{and_parts}
use Rattle.std.proofs.lemmas.Int.{ints}
use Rattle.std.specs.Prelude.{not, ◌&&◌, ◌==◌, slice_index, IsTrue}
use Rattle.cfn_model.specs.declared.step.Step.{Step}
use Rattle.cfn_model.specs.declared.step.Step.TheVariants.{Project, Extend, Lift, CutValue, CutTuple}
use Rattle.cfn_model.specs.declared.step.Event.{Event}
use Rattle.cfn_model.specs.declared.step.Event.TheVariants.{Did, Took, Refused}
use Rattle.cfn_model.specs.Decisions.{variable_of, keeps}
use Rattle.cfn_model.specs.Network.{Network, variable_at}
use Rattle.cfn_model.specs.Sums.{removes, is_live}
use Rattle.cfn_model.specs.Steps.{after}
use Rattle.cfn_scan.specs.Exact.{HasNoDebts, IsExactAlong}
use Rattle.cfn_consistency.specs.Consistency.{HasSupport}
use Rattle.cfn_due.specs.Going.{GoesSide, GoesWithOne}
use Rattle.cfn_due.proofs.Agreeing.{first_false, tuple_kept}
use Rattle.cfn_due.proofs.Falling.{takes, support_stays, support_kept}
use Rattle.cfn_due.proofs.Staying.{extend_falls, first_debts}

-- one support
pub side_goes_on : (P : Network) (history : List Event) (event : Event) (f i a : ℕ) → f < length P.functions → HasNoDebts P (event ∷ history) → (GoesSide P event f i → ⊥) → IsTrue (is_live (event ∷ history) (variable_at P f i) a) → HasSupport P history f i a → HasSupport P (event ∷ history) f i a
side_goes_on P history (Did (Project g p b m)) f i a there debts stays live has =
    support_stays P history (Did (Project g p b m)) f i a there debts (λ tuple. takes ((g == f) && (slice_index tuple p == b)) m) (λ tuple l. l) has
side_goes_on P history (Did (Extend g p b m)) f i a there debts stays live has =
    support_stays P history (Did (Extend g p b m)) f i a there debts (extend_falls f g p b m stays) (λ tuple l. l) has
side_goes_on P history (Did (Lift x m)) f i a there debts stays live has =
    support_stays P history (Did (Lift x m)) f i a there debts (λ tuple. omega (arith, ints)) (λ tuple l. l) has
side_goes_on P history (Did (CutValue x b)) f i a there debts stays live has =
    support_kept P history (Did (CutValue x b)) f i a there debts (λ tuple. omega (arith, ints)) has
    (tuple_kept P history (Did (CutValue x b)) f i a has.tuple (λ c. refl) (λ j v l other. first_false x (variable_at P f j) (b == v) (λ e. stays (j, l, sym e, other))) has.at live has.live)
side_goes_on P history (Did (CutTuple g c)) f i a there debts stays live has =
    support_kept P history (Did (CutTuple g c)) f i a there debts (λ tuple. omega (arith, ints)) has
    (tuple_kept P history (Did (CutTuple g c)) f i a has.tuple (λ d. first_false g f (c == d) stays) (λ j v l other. refl) has.at live has.live)
side_goes_on P history (Took d) f i a there debts stays live has =
    support_kept P history (Took d) f i a there debts (λ tuple. omega (arith, ints)) has
    (tuple_kept P history (Took d) f i a has.tuple (λ c. refl) (λ j v l other. first_false (variable_of d) (variable_at P f j) (not (keeps d v)) (λ e. stays (j, l, sym e, other))) has.at live has.live)
side_goes_on P history (Refused d) f i a there debts stays live has =
    support_kept P history (Refused d) f i a there debts (λ tuple. omega (arith, ints)) has
    (tuple_kept P history (Refused d) f i a has.tuple (λ c. refl) (λ j v l other. first_false (variable_of d) (variable_at P f j) (keeps d v) (λ e. stays (j, l, sym e, other))) has.at live has.live)

-- what is live behind steps was live before them
live_before : (history : List Event) (steps : List Step) (x a : ℕ) → IsTrue (is_live (after steps history) x a) → IsTrue (is_live history x a)
live_before history [] x a live = live
live_before history (step ∷ steps) x a live = (and_parts (not (removes (Did step) x a)) (is_live history x a) (live_before (Did step ∷ history) steps x a live)).1

-- and along steps
pub side_goes_along : (P : Network) (history : List Event) (steps : List Step) (f i a : ℕ) → f < length P.functions → IsExactAlong P (after steps history) → (GoesWithOne (λ event j. GoesSide P event f j) steps i → ⊥) → IsTrue (is_live (after steps history) (variable_at P f i) a) → HasSupport P history f i a → HasSupport P (after steps history) f i a
side_goes_along P history [] f i a there exact stays live has = has
side_goes_along P history (step ∷ steps) f i a there exact stays live has =
    side_goes_along P (Did step ∷ history) steps f i a there exact (λ goes. stays (inr goes)) live
    (side_goes_on P history (Did step) f i a there (first_debts P history step steps exact) (λ goes. stays (inl goes)) (live_before (Did step ∷ history) steps (variable_at P f i) a live) has)
