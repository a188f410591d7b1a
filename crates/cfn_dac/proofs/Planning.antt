-- What goes to a value.
use Rattle.std.proofs.Common.{◌≡◌, ℕ, ◌+◌, ◌-◌, ◌<◌, ◌≤◌, ◌^◌, min, set, get_or-set_same, get_or-set_other, Bool, true, false, inl, inr, List, length, refl, sym, ap, ◌∙◌, subst, arith}
use Rattle.std.proofs.lemmas.Bool.{cases_eq}
use Rattle.std.proofs.lemmas.Int.{ints}
use Rattle.std.specs.Prelude.{ℤ, pos, ◌+ℤ◌, ◌≤ℤ◌, ◌<ℤ◌, slice_index, IsTrue}
use Rattle.cfn_model.specs.declared.step.Event.{Event}
use Rattle.cfn_model.specs.Network.{Network, IsNetwork}
use Rattle.cfn_model.specs.Sums.{unary, is_live}
use Rattle.cfn_rows.specs.Sets.{AreLive}
use Rattle.cfn_scan.specs.Exact.{IsExactAlong}
use Rattle.cfn_scan.specs.Extremes.{IsPicked, IsPickedBetween}
use Rattle.cfn_store.specs.Standing.{Standing, history}
use Rattle.cfn_store.specs.Rooms.{sets_of}
use Rattle.cfn_scan.proofs.CallerLemmas.{tuple_at, exact_now}
use Rattle.cfn_dac.specs.declared.pair.Pair.{Pair}
use Rattle.cfn_dac.specs.Full.{IsPair, AreFullBelow, first_of, second_of, total}
use Rattle.cfn_dac.specs.Shifts.{AreHeld, AreReached}
use Rattle.cfn_dac.specs.Moves.{IsLiveTuple, IsTotalBetween, IsLeastTotal, IsAmount, Reaches, Covers}
use Rattle.cfn_dac.proofs.Places.{cases_lt, not_both, first_value, second_value, place_of}

-- no total of a live tuple is below 0
pub not_negative : (P : Network) (history : List Event) (pair : Pair) (tuple : List ℕ) → IsNetwork P → IsExactAlong P history → IsPair P pair → IsLiveTuple P history pair.function tuple → pos 0 ≤ℤ total P history pair tuple
not_negative P history pair tuple net exact is live =
    let now = exact_now P history exact in
    let at = tuple_at P history pair.function pair.other tuple is.other live.fits live.live in
    let r = now.no_debts.residual pair.function tuple is.function live.fits live.live in
    let u = now.no_debts.unary (second_of P pair) (slice_index tuple pair.other) (second_value P pair (slice_index tuple pair.other) net (place_of P pair.function pair.other (slice_index tuple pair.other) is.function is.other at.0)) at.1 in
    omega (arith, ints, r, u)

-- the least total of the tuples with the second values at the places below n of a list
pub record IsLeastTo (P : Network) (history : List Event) (pair : Pair) (a : ℕ) (values : List ℕ) (n least : ℕ) : Type 0 where
  pub bound : (tuple : List ℕ) (j : ℕ) → j < n → IsPickedBetween P history pair.function pair.place a pair.other (slice_index values j) tuple → pos least ≤ℤ total P history pair tuple
  pub reached : least < 2 ^ 64 - 1 → (tuple : List ℕ) × IsPicked P history pair.function pair.place a tuple × (total P history pair tuple ≡ pos least)

at_most : (a b : ℕ) (z : ℤ) → a ≤ b → pos b ≤ℤ z → pos a ≤ℤ z
at_most a b z le h = omega (arith, ints, h)

pub least_more : (P : Network) (history : List Event) (pair : Pair) (a : ℕ) (values : List ℕ) (n least word new : ℕ) → IsLeastTo P history pair a values n least → IsTotalBetween P history pair a (slice_index values n) word → new ≡ min least word → IsLeastTo P history pair a values (n + 1) new
least_more P history pair a values n least word new old is m = record {
  bound = λ tuple j h picked. elim (cases_eq j n) [
    | inl e ↦ at_most new word (total P history pair tuple) (omega (arith, m)) (is.bound tuple (subst (λ k. IsPickedBetween P history pair.function pair.place a pair.other (slice_index values k) tuple) e picked))
    | inr d ↦ at_most new least (total P history pair tuple) (omega (arith, m)) (old.bound tuple j (omega (arith, h, d)) picked)
  ];
  reached = λ small. elim (cases_lt word least) [
    | inl less ↦
        (let e : new ≡ word = omega (arith, m, less) in
        let t = is.reached (omega (arith, e, small)) in
        (t.0, record { fits = t.1.fits; value = t.1.one; live = t.1.live }, t.2 ∙ ap pos (sym e)))
    | inr more ↦
        (let e : new ≡ least = omega (arith, m, more) in
        let t = old.reached (omega (arith, e, small)) in
        (t.0, t.1, t.2 ∙ ap pos (sym e)))
  ];
}

pub least_all : (s : Standing) (pair : Pair) (a : ℕ) (values : List ℕ) (n least : ℕ) → IsNetwork s.network → IsPair s.network pair → AreLive (sets_of s) (second_of s.network pair) values → length values ≤ n → IsLeastTo s.network (history s) pair a values n least → IsLeastTotal s.network (history s) pair a least
least_all s pair a values n least net is are all old = record {
  bound = λ tuple picked.
      (let at = tuple_at s.network (history s) pair.function pair.other tuple is.other picked.fits picked.live in
      let value = second_value s.network pair (slice_index tuple pair.other) net (place_of s.network pair.function pair.other (slice_index tuple pair.other) is.function is.other at.0) in
      let found = are.all (slice_index tuple pair.other) (record { variable = value.variable; value = value.value }) at.1 in
      old.bound tuple found.0 (omega (arith, found.1, all)) (record { fits = picked.fits; one = picked.value; other = sym found.2; live = picked.live }));
  reached = old.reached;
}

-- where a total is 0 it is the least
pub least_zero : (P : Network) (history : List Event) (pair : Pair) (a b : ℕ) → IsNetwork P → IsExactAlong P history → IsPair P pair → IsTotalBetween P history pair a b 0 → IsLeastTotal P history pair a 0
least_zero P history pair a b net exact is zero_is = record {
  bound = λ tuple picked. not_negative P history pair tuple net exact is (record { fits = picked.fits; live = picked.live });
  reached = λ small. (let t = zero_is.reached small in (t.0, record { fits = t.1.fits; value = t.1.one; live = t.1.live }, t.2));
}

-- the amount of a value that is not live, and of one that costs alpha or more
amount_none : (P : Network) (history : List Event) (pair : Pair) (alpha a : ℕ) → IsNetwork P → IsExactAlong P history → IsPair P pair → (IsTrue (is_live history (first_of P pair) a) → unary P history (first_of P pair) a <ℤ pos alpha → ⊥) → (IsTrue (is_live history (first_of P pair) a) → Reaches P history pair alpha a 0) → IsAmount P history pair alpha a 0
amount_none P history pair alpha a net exact is none reaches = record {
  bound = λ tuple picked. not_negative P history pair tuple net exact is (record { fits = picked.fits; live = picked.live });
  within = λ some. absurd (omega (arith, some));
  reaches = reaches;
  full = λ zero_is live below. absurd (none live below);
}

pub amount_dead : (P : Network) (history : List Event) (pair : Pair) (alpha a : ℕ) → IsNetwork P → IsExactAlong P history → IsPair P pair → is_live history (first_of P pair) a ≡ false → IsAmount P history pair alpha a 0
amount_dead P history pair alpha a net exact is dead = amount_none P history pair alpha a net exact is (λ live below. not_both (is_live history (first_of P pair) a) live dead) (λ live. not_both (is_live history (first_of P pair) a) live dead)

costs_more : (u : ℤ) (has alpha : ℕ) → pos has ≡ u → alpha ≤ has → u <ℤ pos alpha → ⊥
costs_more u has alpha e le h = absurd (omega (arith, ints, e, le, h))

comes_to : (u : ℤ) (has alpha : ℕ) → pos has ≡ u → alpha ≤ has → pos alpha ≤ℤ (u +ℤ pos 0)
comes_to u has alpha e le = omega (arith, ints, e, le)

pub amount_costly : (P : Network) (history : List Event) (pair : Pair) (alpha a has : ℕ) → IsNetwork P → IsExactAlong P history → IsPair P pair → (IsTrue (is_live history (first_of P pair) a) → pos has ≡ unary P history (first_of P pair) a) → alpha ≤ has → IsAmount P history pair alpha a 0
amount_costly P history pair alpha a has net exact is cost le = amount_none P history pair alpha a net exact is (λ live below. costs_more (unary P history (first_of P pair) a) has alpha (cost live) le below) (λ live. inl (comes_to (unary P history (first_of P pair) a) has alpha (cost live) le))

-- and of another
pub amount_some : (P : Network) (history : List Event) (pair : Pair) (alpha a has least amount : ℕ) → IsTrue (is_live history (first_of P pair) a) → pos has ≡ unary P history (first_of P pair) a → has < alpha → alpha < 2 ^ 64 → IsLeastTotal P history pair a least → amount ≡ min least (alpha - has) → IsAmount P history pair alpha a amount
amount_some P history pair alpha a has least amount live cost below small is m = record {
  bound = λ tuple picked. at_most amount least (total P history pair tuple) (omega (arith, m)) (is.bound tuple picked);
  within = λ some. record { live = live; amount = omega (arith, m); cost = omega (arith, ints, cost, m, below) };
  reaches = λ alive. elim (cases_lt least (alpha - has)) [
    | inl less ↦
        (let e : amount ≡ least = omega (arith, m, less) in
        let t = is.reached (omega (arith, less, small)) in
        inr (omega (arith, e, less), record { tuple = t.0; picked = t.1; is = t.2 ∙ ap pos (sym e) }))
    | inr more ↦ inl (omega (arith, ints, cost, m, more, below))
  ];
  full = λ none l b.
      (let zero_is : least ≡ 0 = omega (arith, none, m, below) in
      let t = is.reached (omega (arith, zero_is)) in
      record { tuple = t.0; fits = t.1.fits; at = t.1.value; live = t.1.live; free = t.2 ∙ ap pos zero_is });
}

-- amounts for the values below n, and whether one of them is above 0
pub record ArePlanned (P : Network) (history : List Event) (pair : Pair) (alpha : ℕ) (moves : List ℕ) (n : ℕ) (some : Bool) : Type 0 where
  pub amounts : (a : ℕ) → a < n → IsAmount P history pair alpha a (slice_index moves a)
  pub yes : some ≡ true → (a : ℕ) × (a < n) × (0 < slice_index moves a)
  pub no : some ≡ false → (a : ℕ) → a < n → slice_index moves a ≡ 0

pub planned_more : (P : Network) (history : List Event) (pair : Pair) (alpha : ℕ) (moves after : List ℕ) (n amount : ℕ) (some now : Bool) → ArePlanned P history pair alpha moves n some → IsAmount P history pair alpha n amount → n < length moves → after ≡ set moves n amount → (0 < amount → now ≡ true) → (amount ≡ 0 → now ≡ some) → ArePlanned P history pair alpha after (n + 1) now
planned_more P history pair alpha moves after n amount some now old is within written yes_now no_now = record {
  amounts = λ a h. elim (cases_eq a n) [
    | inl e ↦ subst (λ k. IsAmount P history pair alpha a k) (sym (at_here a e)) (subst (λ k. IsAmount P history pair alpha k amount) (sym e) is)
    | inr d ↦ subst (λ k. IsAmount P history pair alpha a k) (sym (at_other a d)) (old.amounts a (omega (arith, h, d)))
  ];
  yes = λ e. elim (cases_eq amount 0) [
    | inl none ↦
        (let t = old.yes (sym (no_now none) ∙ e) in
        (t.0, omega (arith, t.1), subst (λ k. 0 < k) (sym (at_other t.0 (λ d. (let l = t.1 in omega (arith, l, d))))) t.2))
    | inr d ↦ (n, omega arith, subst (λ k. 0 < k) (sym (at_here n refl)) (omega (arith, d)))
  ];
  no = λ e a h. elim (cases_eq a n) [
    | inl same ↦ at_here a same ∙ none_here e
    | inr d ↦ at_other a d ∙ old.no (sym (no_now (none_here e)) ∙ e) a (omega (arith, h, d))
  ];
}
  where
    at_here : (a : ℕ) → a ≡ n → slice_index after a ≡ amount
    at_here a e = ap (λ xs. slice_index xs a) written ∙ ap (slice_index (set moves n amount)) e ∙ get_or-set_same moves n amount 0 within

    at_other : (a : ℕ) → (a ≡ n → ⊥) → slice_index after a ≡ slice_index moves a
    at_other a d = ap (λ xs. slice_index xs a) written ∙ get_or-set_other moves n a amount 0 d

    none_here : now ≡ false → amount ≡ 0
    none_here e = elim (cases_eq amount 0) [
      | inl none ↦ none
      | inr d ↦ absurd (not_both now (yes_now (omega (arith, d))) e)
    ]

-- amounts for all values are a plan
first_place : (P : Network) (pair : Pair) (tuple : List ℕ) (history : List Event) → IsPair P pair → IsLiveTuple P history pair.function tuple → slice_index tuple pair.place < slice_index P.sizes (first_of P pair)
first_place P pair tuple history is live = (tuple_at P history pair.function pair.place tuple is.place live.fits live.live).0

pub plan_covers : (P : Network) (history : List Event) (pair : Pair) (alpha : ℕ) (moves : List ℕ) (n : ℕ) (some : Bool) → IsPair P pair → slice_index P.sizes (first_of P pair) ≤ n → ArePlanned P history pair alpha moves n some → Covers P history pair moves 0
plan_covers P history pair alpha moves n some is all planned = record {
  done = λ tuple live h. absurd (omega (arith, h));
  rest = λ tuple live h. (let l = first_place P pair tuple history is live in (planned.amounts (slice_index tuple pair.place) (omega (arith, l, all))).bound tuple (record { fits = live.fits; value = refl; live = live.live }));
}

pub plan_none : (P : Network) (history : List Event) (pair : Pair) (alpha : ℕ) (moves : List ℕ) (n : ℕ) (some : Bool) → IsNetwork P → slice_index P.sizes (first_of P pair) ≤ n → ArePlanned P history pair alpha moves n some → some ≡ false → AreFullBelow P history pair alpha
plan_none P history pair alpha moves n some net all planned e a place live below =
    let v = first_value P pair a net place in let l = v.value in
    (planned.amounts a (omega (arith, l, all))).full (planned.no e a (omega (arith, l, all))) live below

pub plan_held : (P : Network) (history : List Event) (pair : Pair) (moves : List ℕ) → Covers P history pair moves 0 → AreHeld P history pair moves 0
plan_held P history pair moves covers tuple live h = covers.rest tuple live (omega arith)

pub plan_reached : (P : Network) (history : List Event) (pair : Pair) (alpha : ℕ) (moves : List ℕ) (n : ℕ) (some : Bool) → IsNetwork P → slice_index P.sizes (first_of P pair) ≤ n → ArePlanned P history pair alpha moves n some → AreReached P history pair alpha moves 0
plan_reached P history pair alpha moves n some net all planned = record {
  done = λ a place live h. absurd (omega (arith, h));
  rest = λ a place live h. (let v = first_value P pair a net place in let l = v.value in (planned.amounts a (omega (arith, l, all))).reaches live);
}
