-- In a valid tree no assignment below the threshold has a closed leaf, and the bound is at most every cost.
use Rattle.std.proofs.Common.{◌≡◌, ℕ, zero, suc, ◌<◌, ◌≤◌, inl, inr, List, [], ◌∷◌, length, refl, sym, ap, ◌∙◌, subst, arith, eqb-true}
use Rattle.std.proofs.lemmas.Bool.{cases_lt, cases_Bool, and_parts}
use Rattle.std.proofs.lemmas.Int.{ints}
use Rattle.std.proofs.lemmas.List.Sums.{get_or-le-sum_by}
use Rattle.std.specs.Prelude.{ℤ, pos, ◌+ℤ◌, ◌≤ℤ◌, neg_ℤ, Bool, true, false, not, ◌&&◌, ◌||◌, ◌==◌, IsTrue, slice_index, nat_lt, Option, Some, None}
use Rattle.cfn_model.specs.declared.step.Step.{Step}
use Rattle.cfn_model.specs.declared.step.Step.TheVariants.{Project, Extend, Lift, CutValue, CutTuple}
use Rattle.cfn_model.specs.declared.step.Decision.{Decision}
use Rattle.cfn_model.specs.declared.step.Event.{Event}
use Rattle.cfn_model.specs.declared.step.Event.TheVariants.{Did, Took, Refused}
use Rattle.cfn_model.specs.Network.{Function, Network, IsNetwork, Fits, restrict, scope_at, arity, variable_at, no_function, entry, entry_at, dims, dims_at, cell, total}
use Rattle.cfn_model.specs.Decisions.{variable_of, keeps, holds}
use Rattle.cfn_model.specs.Sums.{when, floor, unary, residual, is_live, is_cut, all_live, is_live_tuple}
use Rattle.cfn_model.specs.Steps.{AllInRange, Allowed, Run, after}
use Rattle.cfn_model.specs.Tree.{Tree, Open, Closed, Split, IsOpen, IsClosed, leaf, leaf_history, CanClose, Valid, bound}
use Rattle.cfn_model.specs.Certificate.{Solution, Certificate, Good, IsSolution, IsBest, threshold}
use Rattle.cfn_model.specs.Laws.{Bounds, ClosedLeaves, EachLeaf, LowerBounds, Optimum, NoneBelow}
use Rattle.cfn_model.proofs.Sum.{sum_below-not_negative, sum_below-at_least}
use Rattle.cfn_model.proofs.Equivalence.{equivalence}

-- what fits, place by place
pub fits_at : (sizes values : List ℕ) (x : ℕ) → Fits sizes values → x < length sizes → slice_index values x < slice_index sizes x
fits_at [] [] x fits h = absurd (omega arith)
fits_at [] (v ∷ values) x fits h = absurd fits
fits_at (d ∷ sizes) [] x fits h = absurd fits
fits_at (d ∷ sizes) (v ∷ values) zero fits h = fits.0
fits_at (d ∷ sizes) (v ∷ values) (suc x) fits h = fits_at sizes values x fits.1 (omega arith)

-- an assignment's tuple fits its scope
pub restrict_fits : (sizes values scope : List ℕ) → Fits sizes values → ((i : ℕ) → i < length scope → slice_index scope i < length sizes) → Fits (dims sizes scope) (restrict scope values)
restrict_fits sizes values [] fits within = tt
restrict_fits sizes values (x ∷ scope) fits within = (fits_at sizes values x fits (within 0 (omega arith)), restrict_fits sizes values scope fits (λ i h. within (suc i) (omega arith)))

-- what holds of an assignment along its path through a tree
pub record Along (P : Network) (history : List Event) (values : List ℕ) : Type 0 where
  pub in_range : AllInRange P history
  pub live : (x : ℕ) → x < length P.sizes → is_live history x (slice_index values x) ≡ true
  pub uncut : (f : ℕ) → f < length P.functions → is_cut history f (cell (dims_at P f) (restrict (scope_at P f) values)) ≡ false
  pub unary_costs : (x : ℕ) → x < length P.sizes → pos 0 ≤ℤ unary P history x (slice_index values x)
  pub residual_costs : (f : ℕ) → f < length P.functions → pos 0 ≤ℤ residual P history f (restrict (scope_at P f) values)

-- the floor, and the floor with one unary or residual cost, are at most the total
module _ (P : Network) (history : List Event) (values : List ℕ) (network : IsNetwork P) (fits : Fits P.sizes values) (along : Along P history values) where
  pub floor_below : floor P history ≤ total P values
  floor_below =
      let e = equivalence P history values network fits along.in_range in
      let u = sum_below-not_negative (λ x. unary P history x (slice_index values x)) (length P.sizes) along.unary_costs in
      let r = sum_below-not_negative (λ f. residual P history f (restrict (scope_at P f) values)) (length P.functions) along.residual_costs in
      omega (arith, ints, e, u, r)

  pub unary_below : (x : ℕ) → x < length P.sizes → (pos (floor P history) +ℤ unary P history x (slice_index values x)) ≤ℤ pos (total P values)
  unary_below x h =
      let e = equivalence P history values network fits along.in_range in
      let u = sum_below-at_least (λ x. unary P history x (slice_index values x)) (length P.sizes) x along.unary_costs h in
      let r = sum_below-not_negative (λ f. residual P history f (restrict (scope_at P f) values)) (length P.functions) along.residual_costs in
      omega (arith, ints, e, u, r)

  pub residual_below : (f : ℕ) → f < length P.functions → (pos (floor P history) +ℤ residual P history f (restrict (scope_at P f) values)) ≤ℤ pos (total P values)
  residual_below f h =
      let e = equivalence P history values network fits along.in_range in
      let u = sum_below-not_negative (λ x. unary P history x (slice_index values x)) (length P.sizes) along.unary_costs in
      let r = sum_below-at_least (λ f. residual P history f (restrict (scope_at P f) values)) (length P.functions) f along.residual_costs h in
      omega (arith, ints, e, u, r)

  scope_live : (scope : List ℕ) → ((i : ℕ) → i < length scope → slice_index scope i < length P.sizes) → all_live history scope (restrict scope values) ≡ true
  scope_live [] within = refl
  scope_live (x ∷ scope) within =
      ap (λ b. b && all_live history scope (restrict scope values)) (along.live x (within 0 (omega arith))) ∙ scope_live scope (λ i h. within (suc i) (omega arith))

  -- the assignment's tuple of each function is live where the total is below the upper bound
  pub tuple_live : (f : ℕ) → f < length P.functions → total P values < P.upper → IsTrue (is_live_tuple P history f (restrict (scope_at P f) values))
  tuple_live f h below =
      let part : entry_at P f (restrict (scope_at P f) values) ≤ total P values = get_or-le-sum_by (λ (g : Function). entry P.sizes g (restrict g.scope values)) P.functions f no_function h in
      let small : nat_lt (entry_at P f (restrict (scope_at P f) values)) P.upper ≡ true = is_lt _ _ (omega (arith, part)) in
      all_three _ _ _ (scope_live (scope_at P f) (network.functions f h).variables) small (along.uncut f h)
    where
      is_lt : (a b : ℕ) → a < b → nat_lt a b ≡ true
      is_lt a b h = grind arith

      all_three : (a b c : Bool) → a ≡ true → b ≡ true → c ≡ false → (a && b && not c) ≡ true
      all_three a b c h k l = rw h (rw k (rw l refl))

at_none : (P : Network) (values : List ℕ) → Along P [] values
at_none P values = record {
  in_range = tt;
  live = λ x h. refl;
  uncut = λ f h. refl;
  unary_costs = λ x h. omega (arith, ints);
  residual_costs = λ f h. when_not_negative (nat_lt 0 (arity P f)) (entry_at P f (restrict (scope_at P f) values));
}
  where
    when_not_negative : (b : Bool) (n : ℕ) → pos 0 ≤ℤ when b (pos n)
    when_not_negative true n = omega (arith, ints)
    when_not_negative false n = omega (arith, ints)

pub both_same : (a b c d : ℕ) → ((a == b) && (c == d)) ≡ true → (a ≡ b) × (c ≡ d)
both_same a b c d h = let p = and_parts (a == b) (c == d) h in (eqb-true a b p.0, eqb-true c d p.1)

-- what an event adds keeps a cost from being negative, where it is large enough at the test
kept_by : (b : Bool) (m : ℕ) (z : ℤ) → pos 0 ≤ℤ z → (b ≡ true → pos m ≤ℤ z) → pos 0 ≤ℤ (when b (neg_ℤ (pos m)) +ℤ z)
kept_by true m z h enough = let e = enough refl in omega (arith, ints, e)
kept_by false m z h enough = omega (arith, ints)

raised_by : (b : Bool) (m : ℕ) (z : ℤ) → pos 0 ≤ℤ z → pos 0 ≤ℤ (when b (pos m) +ℤ z)
raised_by true m z h = omega (arith, ints)
raised_by false m z h = omega (arith, ints)

still_live : (b c : Bool) → (b ≡ true → ⊥) → c ≡ true → (not b && c) ≡ true
still_live true c never h = absurd (never refl)
still_live false c never h = h

still_uncut : (b c : Bool) → (b ≡ true → ⊥) → c ≡ false → (b || c) ≡ false
still_uncut true c never h = absurd (never refl)
still_uncut false c never h = h

-- what is said of an assignment that costs less than the threshold: its leaf is open, with a floor of at most its total
pub record AtLeaf (P : Network) (history : List Event) (tree : Tree) (values : List ℕ) (k : ℕ) : Type 0 where
  pub open_leaf : IsOpen (leaf values tree)
  pub floor_below : floor P (leaf_history values history tree) ≤ total P values
  pub bound_below : bound P history tree k ≤ total P values

-- at a split it is said of the side that the assignment takes
split_case : (P : Network) (history : List Event) (block : List Step) (d : Decision) (first second : Tree) (values : List ℕ) (k : ℕ)
    → (holds d values ≡ true → AtLeaf P (Took d ∷ after block history) first values k) → (holds d values ≡ false → AtLeaf P (Refused d ∷ after block history) second values k)
    → AtLeaf P history (Split block d first second) values k
split_case P history block d first second values k left right = elim (cases_Bool (holds d values)) [
  | inl is ↦ (let l = left is in record {
    open_leaf = rw is l.open_leaf;
    floor_below = rw is l.floor_below;
    bound_below = omega (arith, l.bound_below);
  })
  | inr not ↦ (let r = right not in record {
    open_leaf = rw not r.open_leaf;
    floor_below = rw not r.floor_below;
    bound_below = omega (arith, r.bound_below);
  })
]

-- the bound is at most the threshold
pub bound_low : (P : Network) (history : List Event) (tree : Tree) (k : ℕ) → bound P history tree k ≤ k
bound_low P history (Open block) k = omega arith
bound_low P history (Closed block) k = omega arith
bound_low P history (Split block d first second) k = let l = bound_low P (Took d ∷ after block history) first k in omega (arith, l)

both_ways : {b : Bool} → b ≡ true → b ≡ false → ⊥
both_ways h k = cc

not_both : (b : Bool) → b ≡ true → not b ≡ true → ⊥
not_both true h k = let c : false ≡ true = k in cc
not_both false h k = let c : false ≡ true = h in cc

module _ (P : Network) (values : List ℕ) (k : ℕ) (network : IsNetwork P) (fits : Fits P.sizes values) (low : k ≤ P.upper) (cheap : total P values < k) where
  step_kept : (history : List Event) (step : Step) → Along P history values → Allowed P history k step → Along P (Did step ∷ history) values
  step_kept history (Project f i a m) along allowed = record {
    in_range = (allowed.0, along.in_range);
    live = along.live;
    uncut = along.uncut;
    unary_costs = λ x h. raised_by _ m _ (along.unary_costs x h);
    residual_costs = λ g h. kept_by ((f == g) && (slice_index (restrict (scope_at P g) values) i == a)) m _ (along.residual_costs g h) (λ test.
        let same = both_same f g (slice_index (restrict (scope_at P g) values) i) a test in
        let can : (tuple : List ℕ) → Fits (dims_at P g) tuple → slice_index tuple i ≡ a → IsTrue (is_live_tuple P history g tuple) → pos m ≤ℤ residual P history g tuple = subst (λ g. (tuple : List ℕ) → Fits (dims_at P g) tuple → slice_index tuple i ≡ a → IsTrue (is_live_tuple P history g tuple) → pos m ≤ℤ residual P history g tuple) same.0 allowed.2 in
        can (restrict (scope_at P g) values) (restrict_fits P.sizes values (scope_at P g) fits (network.functions g h).variables) same.1 (tuple_live P history values network fits along g h (omega arith)));
  }
  step_kept history (Extend f i a m) along allowed = record {
    in_range = (allowed.0, along.in_range);
    live = along.live;
    uncut = along.uncut;
    unary_costs = λ x h. kept_by ((variable_at P f i == x) && (a == slice_index values x)) m _ (along.unary_costs x h) (λ test.
        let same = both_same (variable_at P f i) x a (slice_index values x) test in
        let can : IsTrue (is_live history x (slice_index values x)) → pos m ≤ℤ unary P history x (slice_index values x) = subst (λ y. IsTrue (is_live history y (slice_index values x)) → pos m ≤ℤ unary P history y (slice_index values x)) same.0 (subst (λ b. IsTrue (is_live history (variable_at P f i) b) → pos m ≤ℤ unary P history (variable_at P f i) b) same.1 allowed.2) in
        can (along.live x h));
    residual_costs = λ g h. raised_by _ m _ (along.residual_costs g h);
  }
  step_kept history (Lift y m) along allowed = record {
    in_range = (allowed.0, along.in_range);
    live = along.live;
    uncut = along.uncut;
    unary_costs = λ x h. kept_by (y == x) m _ (along.unary_costs x h) (λ test.
        let same = eqb-true y x test in
        subst (λ y. (a : ℕ) → a < slice_index P.sizes y → IsTrue (is_live history y a) → pos m ≤ℤ unary P history y a) same allowed.2 (slice_index values x) (fits_at P.sizes values x fits h) (along.live x h));
    residual_costs = λ g h. let r = along.residual_costs g h in omega (arith, ints, r);
  }
  step_kept history (CutValue y a) along allowed = record {
    in_range = (allowed.0, along.in_range);
    live = λ x h. still_live ((y == x) && (a == slice_index values x)) _ (λ test.
        let same = both_same y x a (slice_index values x) test in
        let reached : pos k ≤ℤ (pos (floor P history) +ℤ unary P history x (slice_index values x)) = subst (λ y. pos k ≤ℤ (pos (floor P history) +ℤ unary P history y (slice_index values x))) same.0 (subst (λ b. pos k ≤ℤ (pos (floor P history) +ℤ unary P history y b)) same.1 allowed.1) in
        let below = unary_below P history values network fits along x h in
        omega (arith, ints, reached, below)) (along.live x h);
    uncut = along.uncut;
    unary_costs = λ x h. let u = along.unary_costs x h in omega (arith, ints, u);
    residual_costs = λ g h. let r = along.residual_costs g h in omega (arith, ints, r);
  }
  step_kept history (CutTuple f c) along allowed = record {
    in_range = (allowed.0, along.in_range);
    live = along.live;
    uncut = λ g h. still_uncut ((f == g) && (c == cell (dims_at P g) (restrict (scope_at P g) values))) _ (λ test.
        let same = both_same f g c (cell (dims_at P g) (restrict (scope_at P g) values)) test in
        let can : (tuple : List ℕ) → Fits (dims_at P g) tuple → cell (dims_at P g) tuple ≡ c → pos k ≤ℤ (pos (floor P history) +ℤ residual P history g tuple) = subst (λ g. (tuple : List ℕ) → Fits (dims_at P g) tuple → cell (dims_at P g) tuple ≡ c → pos k ≤ℤ (pos (floor P history) +ℤ residual P history g tuple)) same.0 allowed.1 in
        let reached = can (restrict (scope_at P g) values) (restrict_fits P.sizes values (scope_at P g) fits (network.functions g h).variables) (sym same.1) in
        let below = residual_below P history values network fits along g h in
        omega (arith, ints, reached, below)) (along.uncut g h);
    unary_costs = λ x h. let u = along.unary_costs x h in omega (arith, ints, u);
    residual_costs = λ g h. let r = along.residual_costs g h in omega (arith, ints, r);
  }

  run_kept : (history : List Event) (block : List Step) → Along P history values → Run P history block k → Along P (after block history) values
  run_kept history [] along run = along
  run_kept history (step ∷ block) along run = run_kept (Did step ∷ history) block (step_kept history step along run.0) run.1

  took_kept : (history : List Event) (d : Decision) → Along P history values → holds d values ≡ true → Along P (Took d ∷ history) values
  took_kept history d along is = record {
    in_range = (tt, along.in_range);
    live = λ y h. still_live ((variable_of d == y) && not (keeps d (slice_index values y))) _ (λ test.
        let p = and_parts (variable_of d == y) (not (keeps d (slice_index values y))) test in
        not_both (keeps d (slice_index values y)) (sym (ap (λ x. keeps d (slice_index values x)) (eqb-true (variable_of d) y p.0)) ∙ is) p.1) (along.live y h);
    uncut = along.uncut;
    unary_costs = λ y h. let u = along.unary_costs y h in omega (arith, ints, u);
    residual_costs = λ g h. let r = along.residual_costs g h in omega (arith, ints, r);
  }

  refused_kept : (history : List Event) (d : Decision) → Along P history values → holds d values ≡ false → Along P (Refused d ∷ history) values
  refused_kept history d along is = record {
    in_range = (tt, along.in_range);
    live = λ y h. still_live ((variable_of d == y) && keeps d (slice_index values y)) _ (λ test.
        let p = and_parts (variable_of d == y) (keeps d (slice_index values y)) test in
        both_ways p.1 (sym (ap (λ x. keeps d (slice_index values x)) (eqb-true (variable_of d) y p.0)) ∙ is)) (along.live y h);
    uncut = along.uncut;
    unary_costs = λ y h. let u = along.unary_costs y h in omega (arith, ints, u);
    residual_costs = λ g h. let r = along.residual_costs g h in omega (arith, ints, r);
  }

  contradiction : (history : List Event) → Along P history values → CanClose P history k → ⊥
  contradiction history along (inl reached) = let f = floor_below P history values network fits along in omega (arith, f)
  contradiction history along (inr wiped) =
      let live = along.live wiped.0 wiped.1 in
      let dead = wiped.2 (slice_index values wiped.0) (fits_at P.sizes values wiped.0 fits wiped.1) in
      both_ways live dead

  at_leaf : (tree : Tree) (history : List Event) → Along P history values → Valid P history tree k → AtLeaf P history tree values k
  at_leaf (Open block) history along valid =
      let f = floor_below P (after block history) values network fits (run_kept history block along valid) in
      record { open_leaf = tt; floor_below = f; bound_below = omega (arith, f) }
  at_leaf (Closed block) history along valid = absurd (contradiction (after block history) (run_kept history block along valid.0) valid.1)
  at_leaf (Split block d first second) history along valid =
      let here = run_kept history block along valid.0 in
      split_case P history block d first second values k
      (λ is. at_leaf first (Took d ∷ after block history) (took_kept (after block history) d here is) valid.2)
      (λ is. at_leaf second (Refused d ∷ after block history) (refused_kept (after block history) d here is) valid.3)

pub bounds : Bounds
bounds P tree k values network low valid fits = elim (cases_lt (total P values) k) [
  | inl cheap ↦ (let l = at_leaf P values k network fits low cheap tree [] (at_none P values) valid in let b = bound_low P [] tree k in omega (arith, l.bound_below, b))
  | inr dear ↦ (let b = bound_low P [] tree k in omega (arith, b))
]

open_not_closed : (tree : Tree) → IsOpen tree → IsClosed tree → ⊥
open_not_closed (Open block) opened closed = closed
open_not_closed (Closed block) opened closed = opened
open_not_closed (Split block d first second) opened closed = opened

pub closed_leaves : ClosedLeaves
closed_leaves P tree k values network low valid fits cheap closed =
    open_not_closed (leaf values tree) (at_leaf P values k network fits low (omega arith) tree [] (at_none P values) valid).open_leaf closed

pub each_leaf : EachLeaf
each_leaf P tree k values network low valid fits = elim (cases_lt (total P values) k) [
  | inl cheap ↦ (let l = at_leaf P values k network fits low cheap tree [] (at_none P values) valid in inl (l.open_leaf, l.floor_below))
  | inr dear ↦ inr (omega (arith, low, dear))
]

threshold_low : (P : Network) (c : Certificate) → Good P c → threshold c ≤ P.upper
threshold_low P c good = by_best c.best refl
  where
    by_best : (best : Option Solution) → c.best ≡ best → threshold c ≤ P.upper
    by_best None is = rw is (omega (arith, good.upper))
    by_best (Some b) is = let s : IsSolution P b = subst (IsBest P) is good.best in rw is (omega (arith, s.below))

pub lower_bounds : LowerBounds
lower_bounds P c values network good fits =
    omega (arith, good.lower, bounds P c.tree (threshold c) values network (threshold_low P c good) good.valid fits)

pub optimum : Optimum
optimum P c best network good is same =
    let s : IsSolution P best = subst (IsBest P) is good.best in
    record {
      reached = (best.values, s.fits, s.cost);
      below = s.below;
      bound = λ values fits. omega (arith, same, lower_bounds P c values network good fits);
    }

pub none_below : NoneBelow
none_below P c values network good same fits = omega (arith, same, lower_bounds P c values network good fits)

-- what fits has a value for each size
pub fits_length : (sizes values : List ℕ) → Fits sizes values → length values ≡ length sizes
fits_length [] [] fits = refl
fits_length [] (v ∷ values) fits = absurd fits
fits_length (d ∷ sizes) [] fits = absurd fits
fits_length (d ∷ sizes) (v ∷ values) fits = ap suc (fits_length sizes values fits.1)
