-- Amounts that are added to values.
use Rattle.std.proofs.Common.{◌≡◌, ◌≢◌, ℕ, ◌+◌, ◌<◌, ◌≤◌, List, length, get_or, set, refl, sym, ap, ◌∙◌, inl, inr, arith, get_or-set_same, get_or-set_other}
use Rattle.std.proofs.lemmas.Bool.{cases_eq, cases_lt}
use Rattle.std.proofs.lemmas.Int.{ints}
use Rattle.std.proofs.lemmas.List.{length-set, get_or_past}
use Rattle.std.specs.Prelude.{true, false, ◌==◌, ℤ, pos, ◌+ℤ◌, if◌then◌else◌}
use Rattle.cfn_model.specs.Sums.{when}
use Rattle.cfn_model.proofs.CallerLemmas.{when_true, when_false, eqb_same, eqb_other}
use Rattle.cfn_tables.specs.declared.side.Side.{Side}
use Rattle.cfn_tables.specs.Sides.{is_on}
use Rattle.cfn_tables.specs.Values.{Gains, Takes}

pub gains_one : (costs : List ℤ) (a : ℕ) (amount z : ℤ) → a < length costs → z ≡ (get_or costs a (pos 0) +ℤ amount) → Gains (λ b. when (a == b) amount) costs (set costs a z)
gains_one costs a amount z there is = record {
  size = length-set costs a z;
  each = λ b l. elim (cases_eq a b) [
    | inl same ↦ (let w = when_true (a == b) amount (eqb_same a b same) in
        let e = ap (λ i. get_or (set costs a z) i (pos 0)) (sym same) ∙ get_or-set_same costs a z (pos 0) there in
        let s = ap (λ i. get_or costs i (pos 0)) same in
        omega (arith, ints, w, e, s, is))
    | inr other ↦ (let w = when_false (a == b) amount (eqb_other a b other) in
        let e = get_or-set_other costs a b z (pos 0) (λ e. other (sym e)) in
        omega (arith, ints, w, e))
  ];
}

-- the values below a number have been taken as often as said, and the others are as before
pub record TakenBelow (times : ℕ → ℕ) (old new : List ℕ) (n : ℕ) : Type 0 where
  pub size : length new ≡ length old
  pub done : (b : ℕ) → b < n → b < length old → get_or new b 0 ≡ times b + get_or old b 0
  pub rest : (b : ℕ) → n ≤ b → get_or new b 0 ≡ get_or old b 0

abbrev pub one_if : ℕ → ℕ → ℕ
one_if a b = if a == b then 1 else 0

pub one_here : (a n : ℕ) → a ≡ n → one_if a n ≡ 1
one_here a n same = let e = eqb_same a n same in rw e refl

pub one_apart : (a n : ℕ) → a ≢ n → one_if a n ≡ 0
one_apart a n other = let e = eqb_other a n other in rw e refl

-- the values on a side of a decision, each once
abbrev pub one_on : Side → ℕ → ℕ
one_on side b = if is_on side b then 1 else 0

on_side : (side : Side) (n : ℕ) → is_on side n ≡ true → one_on side n ≡ 1
on_side side n is = rw is refl

off_side : (side : Side) (n : ℕ) → is_on side n ≡ false → one_on side n ≡ 0
off_side side n is = rw is refl

pub taken_none : (times : ℕ → ℕ) (old : List ℕ) → TakenBelow times old old 0
taken_none times old = record { size = refl; done = λ b l m. absurd (omega arith); rest = λ b l. refl }

-- the next value is passed over, or taken
pub taken_over : (side : Side) (old new : List ℕ) (n : ℕ) → is_on side n ≡ false → TakenBelow (one_on side) old new n → TakenBelow (one_on side) old new (n + 1)
taken_over side old new n off t = record {
  size = t.size;
  done = λ b l m. elim (cases_eq b n) [
    | inl here ↦ (let z = ap (one_on side) here ∙ off_side side n off in let r = t.rest b (omega arith) in omega (arith, z, r))
    | inr other ↦ t.done b (omega arith) m
  ];
  rest = λ b l. t.rest b (omega arith);
}

pub taken_more : (side : Side) (old mid new : List ℕ) (n : ℕ) → is_on side n ≡ true → n < length old → Takes (one_if n) mid new → TakenBelow (one_on side) old mid n → TakenBelow (one_on side) old new (n + 1)
taken_more side old mid new n on there k t = record {
  size = k.size ∙ t.size;
  done = λ b l m. elim (cases_eq n b) [
    | inl here ↦ (let z = ap (one_on side) (sym here) ∙ on_side side n on in let r = t.rest b (omega arith) in let w = one_here n b here in let e = k.each b (omega (arith, t.size)) in omega (arith, z, r, w, e))
    | inr other ↦ (let w = one_apart n b other in let e = k.each b (omega (arith, t.size)) in let d = t.done b (omega arith) m in omega (arith, w, e, d))
  ];
  rest = λ b l. elim (cases_lt b (length mid)) [
    | inl m ↦ (let w = one_apart n b (λ e. omega arith) in let e = k.each b m in let r = t.rest b (omega arith) in omega (arith, w, e, r))
    | inr m ↦ get_or_past new b 0 (omega (arith, k.size)) ∙ sym (get_or_past mid b 0 m) ∙ t.rest b (omega arith)
  ];
}

-- the same where values are given back
pub record GivenBelow (times : ℕ → ℕ) (old new : List ℕ) (n : ℕ) : Type 0 where
  pub size : length new ≡ length old
  pub done : (b : ℕ) → b < n → b < length old → get_or old b 0 ≡ times b + get_or new b 0
  pub rest : (b : ℕ) → n ≤ b → get_or new b 0 ≡ get_or old b 0

pub given_none : (times : ℕ → ℕ) (old : List ℕ) → GivenBelow times old old 0
given_none times old = record { size = refl; done = λ b l m. absurd (omega arith); rest = λ b l. refl }

pub given_over : (side : Side) (old new : List ℕ) (n : ℕ) → is_on side n ≡ false → GivenBelow (one_on side) old new n → GivenBelow (one_on side) old new (n + 1)
given_over side old new n off t = record {
  size = t.size;
  done = λ b l m. elim (cases_eq b n) [
    | inl here ↦ (let z = ap (one_on side) here ∙ off_side side n off in let r = t.rest b (omega arith) in omega (arith, z, r))
    | inr other ↦ t.done b (omega arith) m
  ];
  rest = λ b l. t.rest b (omega arith);
}

pub given_more : (side : Side) (old mid new : List ℕ) (n : ℕ) → is_on side n ≡ true → n < length old → Takes (one_if n) new mid → GivenBelow (one_on side) old mid n → GivenBelow (one_on side) old new (n + 1)
given_more side old mid new n on there k t = record {
  size = sym k.size ∙ t.size;
  done = λ b l m. elim (cases_eq n b) [
    | inl here ↦ (let z = ap (one_on side) (sym here) ∙ on_side side n on in let r = t.rest b (omega arith) in let w = one_here n b here in let e = k.each b (omega (arith, t.size, k.size)) in omega (arith, z, r, w, e))
    | inr other ↦ (let w = one_apart n b other in let e = k.each b (omega (arith, t.size, k.size)) in let d = t.done b (omega arith) m in omega (arith, w, e, d))
  ];
  rest = λ b l. elim (cases_lt b (length mid)) [
    | inl m ↦ (let w = one_apart n b (λ e. omega arith) in let e = k.each b (omega (arith, k.size)) in let r = t.rest b (omega arith) in omega (arith, w, e, r))
    | inr m ↦ get_or_past new b 0 (omega (arith, k.size)) ∙ sym (get_or_past mid b 0 m) ∙ t.rest b (omega arith)
  ];
}
