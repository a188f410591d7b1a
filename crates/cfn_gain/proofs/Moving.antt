-- What one step does.
use Rattle.std.proofs.Common.{◌≡◌, ℕ, ◌+◌, ◌<◌, ◌≤◌, min, length, length-append, refl, sym, ap, ◌∙◌, subst, arith, []}
use Rattle.std.proofs.lemmas.Int.{ints}
use Rattle.std.specs.Prelude.{IsTrue, ◌∷◌, Ok, Err, pos, ◌+ℤ◌, ◌==◌, ◌&&◌}
use Rattle.cfn_model.specs.declared.step.Step.{Step}
use Rattle.cfn_model.specs.declared.step.Step.TheVariants.{Project, Lift}
use Rattle.cfn_model.specs.declared.step.Event.TheVariants.{Did}
use Rattle.cfn_model.specs.Network.{variable_at}
use Rattle.cfn_model.specs.Sums.{floor, lifted, unary, when, is_live}
use Rattle.cfn_model.specs.Steps.{Allowed, CanCutValue}
use Rattle.cfn_model.proofs.CallerLemmas.{eqb_same}
use Rattle.cfn_gain.specs.Passes.{IsLeast}
use Rattle.cfn_gain.proofs.Lifting.{can_lift, lift_to_threshold}
use Rattle.cfn_gain.proofs.Stepping.{history_step}
use Rattle.cfn_store.specs.Standing.{Standing, history, with_step}
use Rattle.cfn_gain.specs.declared.limits.Limits.{Limits}
use Rattle.cfn_gain.specs.declared.limits.Halt.TheVariants.{Dead}
use Rattle.cfn_gain.specs.Calls.{GoesOn, Does, Grows}
use Rattle.cfn_gain.proofs.Adding.{adds_step}

-- a step that lifts nothing leaves the floor
pub same_floor : (s : Standing) (step : Step) → lifted (Did step) ≡ 0 → floor s.network (history (with_step s step)) ≡ floor s.network (history s)
same_floor s step none = let is = ap (floor s.network) (history_step s step) in omega (arith, is, none)

pub step_does : (s now : Standing) (limits : Limits) (step : Step) → GoesOn s limits → Allowed s.network (history s) limits.threshold step → length s.block < limits.steps → lifted (Did step) ≡ 0 → now ≡ with_step s step → Does s now limits (Ok tt)
step_does s now limits step goes allowed less none is =
    subst (λ t. Does s t limits (Ok tt)) (sym is)
    (record { adds = adds_step s limits step goes allowed less; ends = (let below = goes.below in let same = same_floor s step none in omega (arith, below, same)) })

pub grows_step : (s now : Standing) (step : Step) → now ≡ with_step s step → Grows s now
grows_step s now step is = subst (λ t. Grows s t) (sym is) (let long = length-append s.block (step ∷ []) in omega (arith, long))

pub lift_does : (s now : Standing) (limits : Limits) (x least amount lacks : ℕ) → GoesOn s limits → x < length s.network.sizes → IsLeast s.network (history s) x least → 0 < least → floor s.network (history s) + lacks ≡ limits.threshold → amount ≡ min least lacks → least < lacks → length s.block < limits.steps → now ≡ with_step s (Lift x amount) → Does s now limits (Ok tt)
lift_does s now limits x least amount lacks goes there is some sum m short less made =
    subst (λ t. Does s t limits (Ok tt)) (sym made)
    (record {
      adds = adds_step s limits (Lift x amount) goes (there, omega (arith, m, some, short), can_lift s.network (history s) x least amount there is (omega (arith, m))) less;
      ends = (let f = ap (floor s.network) (history_step s (Lift x amount)) in omega (arith, f, sum, m, short));
    })

pub lift_dead : (s now : Standing) (limits : Limits) (x least amount lacks : ℕ) → GoesOn s limits → x < length s.network.sizes → IsLeast s.network (history s) x least → floor s.network (history s) + lacks ≡ limits.threshold → amount ≡ min least lacks → lacks ≤ least → length s.block < limits.steps → now ≡ with_step s (Lift x amount) → Does s now limits (Err Dead)
lift_dead s now limits x least amount lacks goes there is sum m long less made =
    let e : amount ≡ lacks = omega (arith, m, long) in let below = goes.below in
    subst (λ t. Does s t limits (Err Dead)) (sym made)
    (record {
      adds = adds_step s limits (Lift x amount) goes (there, omega (arith, e, sum, below), can_lift s.network (history s) x least amount there is (omega (arith, m))) less;
      ends = lift_to_threshold s limits.threshold x amount (omega (arith, e, sum));
    })

-- a project adds to the unary cost of its value
pub unary_projected : (s : Standing) (f i a m : ℕ) → unary s.network (history (with_step s (Project f i a m))) (variable_at s.network f i) a ≡ pos m +ℤ unary s.network (history s) (variable_at s.network f i) a
unary_projected s f i a m =
    let x = variable_at s.network f i in
    ap (λ h. unary s.network h x a) (history_step s (Project f i a m))
    ∙ ap (λ z. z +ℤ unary s.network (history s) x a) (ap (λ t. when (t && (a == a)) (pos m)) (eqb_same x x refl) ∙ ap (λ t. when t (pos m)) (eqb_same a a refl))

-- a value whose unary cost is what the floor lacks can be cut
pub cut_reaches : (s now : Standing) (k f i a m has lacks : ℕ) → now ≡ with_step s (Project f i a m) → floor s.network (history s) + lacks ≡ k → pos has ≡ unary s.network (history s) (variable_at s.network f i) a → lacks ≤ m + has → CanCutValue now.network (history now) k (variable_at s.network f i) a
cut_reaches s now k f i a m has lacks made sum is reached =
    subst (λ t. CanCutValue t.network (history t) k (variable_at s.network f i) a) (sym made)
    (let u = unary_projected s f i a m in let same = same_floor s (Project f i a m) refl in omega (arith, ints, u, same, sum, is, reached))

pub cut_reaches_at : (s now : Standing) (k f i a m has lacks x : ℕ) → x ≡ variable_at s.network f i → now ≡ with_step s (Project f i a m) → floor s.network (history s) + lacks ≡ k → (IsTrue (is_live (history s) x a) → pos has ≡ unary s.network (history s) x a) → IsTrue (is_live (history s) (variable_at s.network f i) a) → lacks ≤ m + has → CanCutValue now.network (history now) k x a
cut_reaches_at s now k f i a m has lacks x e made sum is live reached =
    subst (λ v. CanCutValue now.network (history now) k v a) (sym e)
    (cut_reaches s now k f i a m has lacks made sum (is (subst (λ v. IsTrue (is_live (history s) v a)) (sym e) live) ∙ ap (λ v. unary s.network (history s) v a) e) reached)
