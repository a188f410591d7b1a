-- Costly values are cut one after another.
use Rattle.std.proofs.Common.{◌≡◌, ℕ, ◌+◌, ◌-◌, ◌<◌, ◌≤◌, min, inl, inr, List, [], ◌∷◌, ◌++◌, map, length, append_assoc, refl, sym, ap, ◌∙◌, subst, arith}
use Rattle.std.proofs.lemmas.List.{map-append}
use Rattle.std.proofs.lemmas.Bool.{cases_eq}
use Rattle.std.proofs.lemmas.Int.{ints}
use Rattle.std.specs.Prelude.{Result, Ok, Err, IsErrAnd, IsFalse, ℤ, pos, ◌+ℤ◌, ◌<ℤ◌, Bool, true, false, IsTrue}
use Rattle.cfn_model.specs.declared.step.Event.{Event}
use Rattle.cfn_model.specs.declared.step.Step.TheVariants.{Lift, CutValue}
use Rattle.cfn_model.specs.Network.{Network}
use Rattle.cfn_model.specs.Sums.{floor, unary, is_live}
use Rattle.cfn_model.specs.Steps.{IsValue, CanCutValue}
use Rattle.cfn_store.specs.Standing.{Standing, history, with_step}
use Rattle.cfn_gain.specs.declared.limits.Limits.{Limits}
use Rattle.cfn_gain.specs.declared.limits.Halt.{Halt}
use Rattle.cfn_gain.specs.declared.limits.Halt.TheVariants.{Dead, Spent}
use Rattle.cfn_gain.specs.Calls.{GoesOn, Adds, Does, Shows, Grows, Passing}
use Rattle.cfn_rows.specs.Sets.{AreLive}
use Rattle.cfn_store.specs.Rooms.{sets_of}
use Rattle.cfn_gain.specs.Passes.{IsLeast}
use Rattle.cfn_gain.proofs.Stepping.{append_none, history_step}
use Rattle.cfn_gain.specs.Levels.{AreBelow, IsLevel, AreAllCostly, AddsCuts, AddsLift, LiftsFirst}
use Rattle.cfn_gain.proofs.Adding.{passing_grown, passing_start, unchanged, adds_none, no_shorter, on_ok}
use Rattle.cfn_gain.proofs.Moving.{same_floor, grows_step}

-- the live values of x below n stay below the threshold
abbrev pub AreBelowTo : Network → List Event → ℕ → ℕ → ℕ → Type 0
AreBelowTo P history k x n = (a : ℕ) → a < n → IsValue P x a → IsTrue (is_live history x a) → (pos (floor P history) +ℤ unary P history x a) <ℤ pos k

pub record IsCutting (before now : Standing) (limits : Limits) (x lacks n : ℕ) : Type 0 where
  pub sum : floor now.network (history now) + lacks ≡ limits.threshold
  pub passing : Passing before now limits (AreBelowTo before.network (history before) limits.threshold x n)

pub cutting_start : (s : Standing) (limits : Limits) (x lacks : ℕ) → GoesOn s limits → floor s.network (history s) + lacks ≡ limits.threshold → IsCutting s s limits x lacks 0
cutting_start s limits x lacks goes sum = record { sum = sum; passing = passing_start s limits (AreBelowTo s.network (history s) limits.threshold x 0) goes (λ a h. absurd (omega (arith, h))) }

-- a value that is not live, or costs less than the floor lacks, stays
pub cutting_kept : (before now : Standing) (limits : Limits) (x lacks n : ℕ) → IsCutting before now limits x lacks n → (IsTrue (is_live (history now) x n) → unary now.network (history now) x n <ℤ pos lacks) → IsCutting before now limits x lacks (n + 1)
cutting_kept before now limits x lacks n c here = record {
  sum = c.sum;
  passing = record {
    goes = c.passing.goes;
    adds = c.passing.adds;
    fact = λ same. (let is = unchanged before now limits c.passing.adds same in
        λ a h value live. elim (cases_eq a n) [
          | inl e ↦ subst (λ b. (pos (floor before.network (history before)) +ℤ unary before.network (history before) x b) <ℤ pos limits.threshold) (sym e)
              (below_here is (subst (λ b. IsTrue (is_live (history before) x b)) e live))
          | inr e ↦ c.passing.fact same a (omega (arith, h, e)) value live
        ]);
  };
}
  where
    below_here : now ≡ before → IsTrue (is_live (history before) x n) → (pos (floor before.network (history before)) +ℤ unary before.network (history before) x n) <ℤ pos limits.threshold
    below_here is live =
        subst (λ t. (pos (floor t.network (history t)) +ℤ unary t.network (history t) x n) <ℤ pos limits.threshold) is
        (let u = here (subst (λ t. IsTrue (is_live (history t) x n)) (sym is) live) in let sum = c.sum in omega (arith, ints, u, sum))

pub cutting_cut : (before now next : Standing) (limits : Limits) (x lacks n : ℕ) → IsCutting before now limits x lacks n → Does now next limits (Ok tt) → next ≡ with_step now (CutValue x n) → IsCutting before next limits x lacks (n + 1)
cutting_cut before now next limits x lacks n c does is = record {
  sum = (let same = ap (λ t. floor t.network (history t)) is ∙ same_floor now (CutValue x n) refl in let sum = c.sum in omega (arith, same, sum));
  passing = passing_grown before now next limits _ _ c.passing does.adds does.ends (grows_step now next (CutValue x n) is);
}

pub cutting_reaches : (s : Standing) (k x a lacks has : ℕ) → floor s.network (history s) + lacks ≡ k → pos has ≡ unary s.network (history s) x a → lacks ≤ has → CanCutValue s.network (history s) k x a
cutting_reaches s k x a lacks has sum is reached = omega (arith, ints, sum, is, reached)

pub cost_below : (lacks n : ℕ) (u : ℤ) → n < lacks → pos n ≡ u → u <ℤ pos lacks
cost_below lacks n u h is = omega (arith, ints, h, is)

pub not_live : {A : Type 0} (b : Bool) → b ≡ false → b ≡ true → A
not_live true h k = absurd cc
not_live false h k = absurd cc

-- a variable without a live value
false_of : (b : Bool) → (b ≡ true → ⊥) → IsFalse b
false_of true h = absurd (h refl)
false_of false h = refl

pub emptied : (s : Standing) (limits : Limits) (x : ℕ) (values : List ℕ) → x < length s.network.sizes → AreLive (sets_of s) x values → length values ≡ 0 → Does s s limits (Err Dead)
emptied s limits x values there are none = record {
  adds = adds_none s limits;
  ends = inr (x, there, λ a h. false_of (is_live (history s) x a) (λ live. (let found = are.all a (record { variable = there; value = h }) live in let within = found.1 in absurd (omega (arith, none, within)))));
}

-- where nothing is lifted nor cut a variable is level
pub level_of : (s next : Standing) (k x : ℕ) (result : Result (Unit {0}) Halt) → IsLeast s.network (history s) x 0 → Shows s next result (AreBelow s.network (history s) k x) → Shows s next result (IsLevel s.network (history s) k x)
level_of s next k x result least = on_ok result (λ below same. record { below = below same; free = (least.value, record { value = least.is; live = least.live; free = least.cost }) })

pub level_grown : (s mid next : Standing) (limits : Limits) (x : ℕ) (result : Result (Unit {0}) Halt) (Fact Other : Type 0) → Grows s mid → Adds mid next limits → Shows mid next result Fact → Shows s next result Other
level_grown s mid next limits x result Fact Other grows adds = on_ok result (λ fact same. let more = no_shorter mid next limits adds in absurd (omega (arith, grows, more, same)))

-- where each live value costs something, so does the one of least cost
pub level_costs : (s : Standing) (x least : ℕ) → IsLeast s.network (history s) x least → AreAllCostly s.network (history s) x → least ≡ 0 → ⊥
level_costs s x least is costly none = let one = costly.each is.value is.is is.live in let cost = is.cost in absurd (omega (arith, ints, one, cost, none))

-- cuts of one variable
pub cuts_none : (s : Standing) (x : ℕ) → AddsCuts s s x
cuts_none s x = record { values = []; block = append_none s.block }

pub cuts_more : (before now next : Standing) (x a : ℕ) → AddsCuts before now x → next ≡ with_step now (CutValue x a) → AddsCuts before next x
cuts_more before now next x a cuts made = record {
  values = cuts.values ++ a ∷ [];
  block = ap (λ t. t.block) made ∙ ap (λ b. b ++ CutValue x a ∷ []) cuts.block ∙ append_assoc before.block (map (CutValue x) cuts.values) (CutValue x a ∷ [])
      ∙ ap (λ b. before.block ++ b) (sym (map-append (CutValue x) cuts.values (a ∷ [])));
}

-- a lift behind which values are cut
lift_first : (before mid now : Standing) (x amount : ℕ) → mid ≡ with_step before (Lift x amount) → AddsCuts mid now x → AddsLift before now x amount
lift_first before mid now x amount made cuts = record {
  values = cuts.values;
  block = cuts.block ∙ ap (λ t. t.block ++ map (CutValue x) cuts.values) made ∙ append_assoc before.block (Lift x amount ∷ []) (map (CutValue x) cuts.values);
}

same_least : (s : Standing) (x one other : ℕ) → IsLeast s.network (history s) x one → IsLeast s.network (history s) x other → one ≡ other
same_least s x one other a b = let to = a.most b.value b.is b.live in let back = b.most a.value a.is a.live in let is = a.cost in let was = b.cost in omega (arith, ints, to, back, is, was)

pub lifts_first : (before mid now : Standing) (limits : Limits) (x least found : ℕ) (result : Result (Unit {0}) Halt) → IsLeast before.network (history before) x found → IsLeast before.network (history before) x least → mid ≡ with_step before (Lift x found)
    → floor mid.network (history mid) < limits.threshold → AddsCuts mid now x → LiftsFirst before now limits x least result
lifts_first before mid now limits x least found result is its made below cuts =
    let e = same_least before x found least is its in
    let rise = ap (λ t. floor t.network (history t)) made ∙ ap (floor before.network) (history_step before (Lift x found)) in
    inl (lift_first before mid now x (min least (limits.threshold - floor before.network (history before)))
    (subst (λ m. mid ≡ with_step before (Lift x m)) (omega (arith, e, rise, below)) made) cuts)

-- a lift of what the floor lacks, or none
pub lifts_halts : (before now : Standing) (limits : Limits) (x least found : ℕ) (halt : Halt) (halted result : Result (Unit {0}) Halt) → halted ≡ Err halt → IsLeast before.network (history before) x found → IsLeast before.network (history before) x least
    → (halted ≡ Err Dead → now ≡ with_step before (Lift x (limits.threshold - floor before.network (history before)))) → (halted ≡ Err Dead → limits.threshold ≤ floor before.network (history before) + found)
    → (halted ≡ Err Spent → now ≡ before) → IsErrAnd result (λ h. h ≡ halt) → LiftsFirst before now limits x least result
lifts_halts before now limits x least found Dead halted result e is its dead short spent ends =
    let same = same_least before x found least is its in let most = short e in
    inl (lift_first before now now x (min least (limits.threshold - floor before.network (history before)))
    (subst (λ m. now ≡ with_step before (Lift x m)) (omega (arith, same, most)) (dead e)) (cuts_none now x))
lifts_halts before now limits x least found Spent halted (Ok done) e is its dead short spent ends = absurd ends
lifts_halts before now limits x least found Spent halted (Err h) e is its dead short spent ends = inr (ap Err ends, spent e)

-- a variable with no live value, or whose live values have nothing in common, has nothing to lift
pub lifts_none : {A : Type 0} (s : Standing) (x least found : ℕ) → IsLeast s.network (history s) x found → IsLeast s.network (history s) x least → 0 < least → found ≡ 0 → A
lifts_none s x least found is its some none = let e = same_least s x found least is its in absurd (omega (arith, e, some, none))

pub none_least : {A : Type 0} (s : Standing) (x least : ℕ) (values : List ℕ) → AreLive (sets_of s) x values → length values ≡ 0 → IsLeast s.network (history s) x least → A
none_least s x least values are none is = let found = are.all is.value (record { variable = is.is.variable; value = is.is.value }) is.live in let within = found.1 in absurd (omega (arith, none, within))
