-- Steps that can be made run, and a plan lifts once.
use Rattle.std.proofs.Common.{◌≡◌, ◌⊎◌, ℕ, zero, suc, ◌+◌, ◌*◌, ◌-◌, ◌<◌, ◌≤◌, inl, inr, List, [], ◌∷◌, ◌++◌, length, length-append, map, reverse, refl, sym, ap, ◌∙◌, subst, arith}
use Rattle.std.specs.Prelude.{slice_index_or, max, ◌/◌}
use Rattle.std.proofs.lemmas.List.{map-append, length-map, length-reverse, get_or-reverse, reverse-reverse}
use Rattle.std.proofs.Math.Nat.{le-div_iff_mul-le, mul-le-mul_left, le_trans}
use Rattle.std.proofs.lemmas.Bool.{cases_eq}
use Rattle.cfn_model.specs.declared.step.Step.{Step}
use Rattle.cfn_model.specs.declared.step.Step.TheVariants.{Project, Extend, Lift, CutValue, CutTuple}
use Rattle.cfn_model.specs.declared.step.Event.{Event}
use Rattle.cfn_model.specs.declared.step.Event.TheVariants.{Did}
use Rattle.cfn_model.specs.Network.{Network}
use Rattle.cfn_model.specs.Sums.{floor, is_live}
use Rattle.cfn_model.specs.Steps.{Allowed, Run, after}
use Rattle.cfn_gain.proofs.CallerLemmas.{history_step, adds_none}
use Rattle.cfn_store.specs.Standing.{Standing, history, with_step}
use Rattle.cfn_consistency.specs.declared.deletion.Deletion.{Deletion}
use Rattle.cfn_consistency.specs.declared.deletion.Reason.{Reason}
use Rattle.cfn_consistency.specs.declared.deletion.Reason.TheVariants.{Own, By}
use Rattle.cfn_consistency.specs.declared.deletion.Source.{Source}
use Rattle.cfn_consistency.specs.Virtual.{asked, scaled, gathering, Puts, ArePut, IsPlan}
use Rattle.cfn_gain.specs.declared.limits.Limits.{Limits}
use Rattle.cfn_gain.specs.Calls.{Adds}
use Rattle.cfn_vac.specs.Running.{CanMake, CanMakeAll, with_steps, amount_of, AreWithin, IsFactor, IsRefusal}
use Rattle.cfn_vac.specs.declared.run.Refusal.{Refusal}
use Rattle.cfn_vac.specs.declared.lifter.Lifting.{Lifting}
use Rattle.cfn_vac.specs.declared.lifter.Lifting.TheVariants.{Lifted, Closed, Blocked, Spent}
use Rattle.cfn_vac.specs.Lifts.{IsTried, IsLifted, lifts, RisesBy, TellsOf, Tells}
use Rattle.cfn_vac.proofs.Running.{history_grown}

allowed : (s : Standing) (k : ℕ) (step : Step) → CanMake s step → Allowed s.network (history s) k step
allowed s k (Project f i a m) can = (can.place, can.some, can.enough)
allowed s k (Extend f i a m) can = (can.place, can.some, can.enough)
allowed s k (Lift x m) can = (can.variable, can.some, can.enough)
allowed s k (CutValue x a) can = absurd can
allowed s k (CutTuple f c) can = absurd can

pub runs : (s : Standing) (k : ℕ) (steps : List Step) → CanMakeAll s steps → Run s.network (history s) steps k
runs s k [] all = tt
runs s k (step ∷ steps) all = (allowed s k step all.0, subst (λ h. Run s.network h steps k) (history_step s step) (runs (with_step s step) k steps all.1))

pub adds_all : (s now : Standing) (limits : Limits) (steps : List Step) → CanMakeAll s steps → now ≡ with_steps s steps → length steps ≤ s.spare → length steps ≤ limits.steps - length s.block → Adds s now limits
adds_all s now limits steps all is room most =
    let long = length-append s.block steps in
    subst (λ t. Adds s t limits) (sym is)
    (record {
      network = refl;
      base = refl;
      steps = steps;
      block = refl;
      runs = runs s limits.threshold steps all;
      spare = omega (arith, room);
      within = elim (cases_eq (length steps) 0) [
        | inl e ↦ inr (omega (arith, long, e))
        | inr e ↦ inl (omega (arith, long, most, e))
      ];
    })

pub floor_after : (P : Network) (steps : List Step) (history : List Event) → floor P (after steps history) ≡ lifts steps + floor P history
floor_after P [] history = omega arith
floor_after P (step ∷ steps) history = let r = floor_after P steps (Did step ∷ history) in omega (arith, r)

pub lifted_all : (Fact : ℕ → Type 0) (s now : Standing) (factor : ℕ) (plan : List Step) → Fact factor → 0 < factor → RisesBy plan → now ≡ with_steps s (map (scaled factor) plan) → IsLifted Fact s now plan
lifted_all Fact s now factor plan fact some rises is = record {
  factor = factor;
  some = some;
  is = fact;
  made = is;
  rise = ap (λ (t : Standing). floor t.network (history t)) is ∙ ap (floor s.network) (history_grown s (map (scaled factor) plan)) ∙ floor_after s.network (map (scaled factor) plan) (history s) ∙ ap (λ n. n + floor s.network (history s)) (rises factor);
}

-- steps that can be made take no value
live_made : (s : Standing) (step : Step) (x a : ℕ) → CanMake s step → is_live (Did step ∷ history s) x a ≡ is_live (history s) x a
live_made s (Project f i b m) x a can = refl
live_made s (Extend f i b m) x a can = refl
live_made s (Lift y m) x a can = refl
live_made s (CutValue y b) x a can = absurd can
live_made s (CutTuple f c) x a can = absurd can

live_after : (s : Standing) (steps : List Step) (x a : ℕ) → CanMakeAll s steps → is_live (after steps (history s)) x a ≡ is_live (history s) x a
live_after s [] x a all = refl
live_after s (step ∷ steps) x a all =
    ap (λ h. is_live (after steps h) x a) (sym (history_step s step)) ∙ live_after (with_step s step) steps x a all.1 ∙ ap (λ h. is_live h x a) (history_step s step) ∙ live_made s step x a all.0

pub live_as_before : (s now : Standing) (steps : List Step) (x a : ℕ) → CanMakeAll s steps → now ≡ with_steps s steps → is_live (history now) x a ≡ is_live (history s) x a
live_as_before s now steps x a all is = ap (λ (t : Standing). is_live (history t) x a) is ∙ ap (λ h. is_live h x a) (history_grown s steps) ∙ live_after s steps x a all

-- what is gathered lifts nothing
lifts_more : (one other : List Step) → lifts (one ++ other) ≡ lifts one + lifts other
lifts_more [] other = omega arith
lifts_more (step ∷ one) other = let r = lifts_more one other in omega (arith, r)

lifts_gathering : (factor f i a amount : ℕ) (sources : List Source) → lifts (map (scaled factor) (gathering f i a amount sources)) ≡ 0
lifts_gathering factor f i a amount [] = refl
lifts_gathering factor f i a amount (s ∷ sources) = let r = lifts_gathering factor f i a amount sources in omega (arith, r)

lifts_puts : (P : Network) (history : List Event) (q factor : ℕ) (d : Deletion) (reason : Reason) (earlier : List Deletion) (later steps : List Step) → Puts P history q d reason earlier later steps → lifts (map (scaled factor) steps) ≡ lifts (map (scaled factor) later)
lifts_puts P history q factor d Own earlier later steps is = ap (λ l. lifts (map (scaled factor) l)) is
lifts_puts P history q factor d (By f i) earlier later steps (inl is) = ap (λ l. lifts (map (scaled factor) l)) is.1
lifts_puts P history q factor d (By f i) earlier later steps (inr is) =
    let s = is.1 in
    let g = gathering f i d.value (asked P later d.variable d.value) s.0 in
    ap (λ l. lifts (map (scaled factor) l)) s.2 ∙ ap lifts (map-append (scaled factor) g later) ∙ lifts_more (map (scaled factor) g) (map (scaled factor) later)
    ∙ (let none = lifts_gathering factor f i d.value (asked P later d.variable d.value) s.0 in omega (arith, none))

lifts_put : (P : Network) (history : List Event) (q factor : ℕ) (deletions : List Deletion) (later steps : List Step) → ArePut P history q deletions later steps → lifts (map (scaled factor) steps) ≡ lifts (map (scaled factor) later)
lifts_put P history q factor [] later steps is = ap (λ l. lifts (map (scaled factor) l)) is
lifts_put P history q factor (d ∷ earlier) later steps is = lifts_put P history q factor earlier is.0 steps is.2 ∙ lifts_puts P history q factor d d.reason earlier later is.0 is.1

pub plan_rises : (P : Network) (history : List Event) (q : ℕ) (deletions : List Deletion) (x : ℕ) (plan : List Step) → IsPlan P history q deletions x plan → RisesBy plan
plan_rises P history q deletions x plan is factor = lifts_put P history q factor (reverse deletions) (Lift x 1 ∷ []) plan is ∙ (let e : factor * 1 + 0 ≡ factor = omega arith in e)

-- what making the steps of a plan tells
pub made_adds : (s now : Standing) (limits : Limits) (factor : ℕ) (steps : List Step) → CanMakeAll s (map (scaled factor) (reverse steps)) → now ≡ with_steps s (map (scaled factor) (reverse steps))
    → limits.steps ≤ length s.block + s.spare → length steps ≤ limits.steps - length s.block → Adds s now limits
made_adds s now limits factor steps all is room short =
    let n = length-map (reverse steps) (scaled factor) ∙ length-reverse steps in
    adds_all s now limits (map (scaled factor) (reverse steps)) all is (omega (arith, n, room, short)) (omega (arith, n, short))

pub same_adds : (s now : Standing) (limits : Limits) → now ≡ s → Adds s now limits
same_adds s now limits is = subst (λ t. Adds s t limits) (sym is) (adds_none s limits)

pub blocked_tells : (Fact : ℕ → Type 0) (s now : Standing) (limits : Limits) (factor : ℕ) (plan : List Step) (refusal : Refusal) (result : Lifting) → factor ≡ 1 → IsRefusal s factor plan refusal → now ≡ s → result ≡ Blocked refusal.number refusal.step (amount_of refusal.step) refusal.capacity → TellsOf Fact limits s now plan result
blocked_tells Fact s now limits factor plan refusal result one is same result_is = subst (TellsOf Fact limits s now plan) (sym result_is) (subst (λ k. IsRefusal s k plan refusal) one is, refl, same)

-- a step that is there is read with any default
same_read : (steps : List Step) (k : ℕ) (d e : Step) → k < length steps → slice_index_or steps k d ≡ slice_index_or steps k e
same_read [] k d e h = absurd (omega (arith, h))
same_read (step ∷ steps) zero d e h = refl
same_read (step ∷ steps) (suc k) d e h = same_read steps k d e (omega (arith, h))

pub same_amount : (steps : List Step) (k amount : ℕ) (d e : Step) → k < length steps → amount ≡ amount_of (slice_index_or steps k d) → amount ≡ amount_of (slice_index_or steps k e)
same_amount steps k amount d e h is = is ∙ ap amount_of (same_read steps k d e h)

-- the greatest amount so far
pub record IsGreatestYet (steps : List Step) (n greatest : ℕ) : Type 0 where
  pub some : 0 < greatest
  pub within : (k : ℕ) (d : Step) → k < n → amount_of (slice_index_or steps k d) ≤ greatest
  pub reached : (greatest ≡ 1) ⊎ ((k : ℕ) × (k < n) × ((d : Step) → amount_of (slice_index_or steps k d) ≡ greatest))

pub greatest_start : (steps : List Step) → IsGreatestYet steps 0 1
greatest_start steps = record { some = omega arith; within = λ k d h. absurd (omega (arith, h)); reached = inl refl }

pub greatest_more : (steps : List Step) (n greatest amount new : ℕ) → IsGreatestYet steps n greatest → ((d : Step) → amount ≡ amount_of (slice_index_or steps n d)) → new ≡ max amount greatest → IsGreatestYet steps (n + 1) new
greatest_more steps n greatest amount new old is m = record {
  some = (let some = old.some in omega (arith, m, some));
  within = λ k d h. elim (cases_eq k n) [
    | inl e ↦ (let a = is d in let b = ap (λ j. amount_of (slice_index_or steps j d)) e in omega (arith, m, a, b))
    | inr e ↦ (let b = old.within k d (omega (arith, h, e)) in omega (arith, m, b))
  ];
  reached = elim (cases_eq new greatest) [
    | inl e ↦ before e old.reached
    | inr e ↦ inr (n, omega arith, λ d. (let a = is d in omega (arith, m, a, e)))
  ];
}
  where
    before : new ≡ greatest → (greatest ≡ 1) ⊎ ((k : ℕ) × (k < n) × ((d : Step) → amount_of (slice_index_or steps k d) ≡ greatest)) → (new ≡ 1) ⊎ ((k : ℕ) × (k < n + 1) × ((d : Step) → amount_of (slice_index_or steps k d) ≡ new))
    before e (inl one) = inl (e ∙ one)
    before e (inr at) = inr (at.0, (let h = at.1 in omega (arith, h)), λ d. at.2 d ∙ sym e)

-- and how many times it goes into q
times_within : (q greatest factor amount : ℕ) → 0 < greatest → factor ≤ q / greatest → amount ≤ greatest → factor * amount ≤ q
times_within q greatest factor amount some le less = le_trans (mul-le-mul_left factor less) ((le-div_iff_mul-le some).0 le)

pub factor_of : (steps : List Step) (n q greatest factor : ℕ) → length steps ≤ n → n ≤ length steps → IsGreatestYet steps n greatest → factor ≡ max (q / greatest) 1 → IsFactor q steps factor
factor_of steps n q greatest factor all least g is = record {
  some = omega (arith, is);
  within = λ more k d h. times_within q greatest factor (amount_of (slice_index_or steps k d)) g.some (omega (arith, is, more)) (g.within k d (omega (arith, h, all)));
  most = λ more le fits. (let low = (le-div_iff_mul-le g.some).1 (reach more le fits g.reached) in omega (arith, is, low));
}
  where
    reach : (more : ℕ) → more ≤ q → AreWithin q steps more → (greatest ≡ 1) ⊎ ((k : ℕ) × (k < n) × ((d : Step) → amount_of (slice_index_or steps k d) ≡ greatest)) → more * greatest ≤ q
    reach more le fits (inl one) = subst (λ m. more * m ≤ q) (sym one) (omega (arith, le))
    reach more le fits (inr at) = subst (λ m. more * m ≤ q) (at.2 (Lift 0 0)) (fits at.0 (Lift 0 0) (let h = at.1 in omega (arith, h, least)))

-- in whichever order the steps stand
within_reverse : (q factor : ℕ) (steps : List Step) → AreWithin q steps factor → AreWithin q (reverse steps) factor
within_reverse q factor steps all k d h =
    let long = length-reverse steps in
    subst (λ step. factor * amount_of step ≤ q) (sym (get_or-reverse steps k d (omega (arith, h, long)))) (all (length steps - 1 - k) d (omega (arith, h, long)))

pub factor_reverse : (q factor : ℕ) (steps : List Step) → IsFactor q steps factor → IsFactor q (reverse steps) factor
factor_reverse q factor steps is = record {
  some = is.some;
  within = λ more. within_reverse q factor steps (is.within more);
  most = λ more le fits. is.most more le (subst (λ l. AreWithin q l more) (reverse-reverse steps) (within_reverse q more (reverse steps) fits));
}

-- the factor that was tried first
pub tried_first : (s : Standing) (q factor : ℕ) (steps : List Step) → IsFactor q steps factor → IsTried s q (reverse steps) factor
tried_first s q factor steps is = record { greatest = factor; is = factor_reverse q factor steps is; tried = inl refl }

-- and 1 where it is too great
tells_of : (One Other : ℕ → Type 0) (limits : Limits) (s now : Standing) (plan : List Step) (lifting : Lifting) → ((factor : ℕ) → One factor → Other factor) → TellsOf One limits s now plan lifting → TellsOf Other limits s now plan lifting
tells_of One Other limits s now plan Lifted on tells = record { factor = tells.factor; some = tells.some; is = on tells.factor tells.is; made = tells.made; rise = tells.rise }
tells_of One Other limits s now plan Closed on tells = tells
tells_of One Other limits s now plan (Blocked number step demand capacity) on tells = tells
tells_of One Other limits s now plan Spent on tells = tells

pub tells_once : (s mid now : Standing) (limits : Limits) (q factor : ℕ) (steps : List Step) (refusal : Refusal) (lifting : Lifting) → IsFactor q steps factor → IsRefusal s factor (reverse steps) refusal → mid ≡ s → TellsOf (λ n. n ≡ 1) limits mid now (reverse steps) lifting → Tells q limits s now (reverse steps) lifting
tells_once s mid now limits q factor steps refusal lifting is refused same tells =
    tells_of (λ n. n ≡ 1) (IsTried s q (reverse steps)) limits s now (reverse steps) lifting
    (λ n one. record { greatest = factor; is = factor_reverse q factor steps is; tried = inr (one, (refusal, refused)) })
    (subst (λ t. TellsOf (λ n. n ≡ 1) limits t now (reverse steps) lifting) same tells)
