-- Which variables of a function are open.
use Rattle.std.proofs.Common.{◌≡◌, ◌⊎◌, ℕ, ◌+◌, ◌<◌, ◌≤◌, true, false, inl, inr, List, length, ap, ◌∙◌, arith}
use Rattle.std.proofs.lemmas.Bool.{cases_eq}
use Rattle.std.proofs.lemmas.Bool.Decides.{nat_tests}
use Rattle.std.specs.Prelude.{nat_le, slice_index, IsTrue, IsFalse}
use Rattle.cfn_model.specs.declared.step.Event.{Event}
use Rattle.cfn_model.specs.Network.{Network, arity, variable_at}
use Rattle.cfn_rows.specs.Sets.{live_count as count_of_live}
use Rattle.cfn_consistency.specs.Openness.{live_count, is_open, open_count}
use Rattle.cfn_store.specs.Standing.{Standing, history}
use Rattle.cfn_store.specs.Rooms.{sets_of}
use Rattle.cfn_dac.specs.Opens.{AreTheOpen, NoneOpenFrom, IsNextOpen}
use Rattle.cfn_dac.proofs.Places.{cases_lt, not_both}
use Rattle.cfn_dac.proofs.Counting.{same_count, at_most_one, at_most_two, some_three}

two_or_more : (n : ℕ) → 2 ≤ n → nat_le 2 n ≡ true
two_or_more n h = grind (arith, nat_tests)

less_than_two : (n : ℕ) → n < 2 → nat_le 2 n ≡ false
less_than_two n h = grind (arith, nat_tests)

pub is_open_by : (s : Standing) (x n : ℕ) → n ≡ count_of_live (sets_of s) x → 2 ≤ n → is_open s.network (history s) x ≡ true
is_open_by s x n is two = two_or_more (live_count s.network (history s) x) (let e = same_count (history s) x (slice_index s.network.sizes x) in omega (arith, is, two, e))

pub is_closed_by : (s : Standing) (x n : ℕ) → n ≡ count_of_live (sets_of s) x → n < 2 → is_open s.network (history s) x ≡ false
is_closed_by s x n is one = less_than_two (live_count s.network (history s) x) (let e = same_count (history s) x (slice_index s.network.sizes x) in omega (arith, is, one, e))

-- a closed place more
pub closed_more : (P : Network) (history : List Event) (f start place : ℕ) → ((k : ℕ) → start ≤ k → k < place → IsFalse (is_open P history (variable_at P f k))) → IsFalse (is_open P history (variable_at P f place)) → (k : ℕ) → start ≤ k → k < place + 1 → IsFalse (is_open P history (variable_at P f k))
closed_more P history f start place before here k from below = elim (cases_eq k place) [
  | inl e ↦ ap (λ p. is_open P history (variable_at P f p)) e ∙ here
  | inr d ↦ before k from (omega (arith, below, d))
]

-- a place before the first open one is not open, nor is one before a number at which the next begins
before_first : (P : Network) (history : List Event) (f start i k : ℕ) → IsNextOpen P history f start i → start ≤ k → IsTrue (is_open P history (variable_at P f k)) → i ≤ k
before_first P history f start i k next from open_k = elim (cases_lt k i) [
  | inl less ↦ not_both (is_open P history (variable_at P f k)) open_k (next.first k from less)
  | inr more ↦ more
]

-- at most one is open where none is, and where none is behind the first
pub few_none : (P : Network) (history : List Event) (f : ℕ) → NoneOpenFrom P history f 0 → open_count P history f ≤ 1
few_none P history f none = at_most_one (λ i. is_open P history (variable_at P f i)) (arity P f) 0 (λ k h open_k. not_both (is_open P history (variable_at P f k)) open_k (none k (omega arith) h))

pub few_one : (P : Network) (history : List Event) (f i : ℕ) → IsNextOpen P history f 0 i → NoneOpenFrom P history f (i + 1) → open_count P history f ≤ 1
few_one P history f i one none = at_most_one (λ k. is_open P history (variable_at P f k)) (arity P f) i (λ k h open_k. at k h open_k)
  where
    at : (k : ℕ) → k < arity P f → is_open P history (variable_at P f k) ≡ true → k ≡ i
    at k h open_k = elim (cases_eq k i) [
      | inl e ↦ e
      | inr d ↦ (let l = before_first P history f 0 i k one (omega arith) open_k in not_both (is_open P history (variable_at P f k)) open_k (none k (omega (arith, l, d)) h))
    ]

-- exactly two are
pub are_two : (P : Network) (history : List Event) (f i j : ℕ) → f < length P.functions → IsNextOpen P history f 0 i → IsNextOpen P history f (i + 1) j → NoneOpenFrom P history f (j + 1) → AreTheOpen P history f i j
are_two P history f i j there one two none = record {
  pair = record {
    active = record {
      function = there;
      some = let h = one.place in omega (arith, h);
      few = at_most_two (λ k. is_open P history (variable_at P f k)) (arity P f) i j at;
    };
    one = (one.place, one.here);
    other = (two.place, two.here);
    different = λ e. (let h = two.from in absurd (omega (arith, e, h)));
  };
  order = let h = two.from in omega (arith, h);
}
  where
    at : (k : ℕ) → k < arity P f → is_open P history (variable_at P f k) ≡ true → (k ≡ i) ⊎ (k ≡ j)
    at k h open_k = elim (cases_eq k i) [
      | inl e ↦ inl e
      | inr d ↦
          (let l = before_first P history f 0 i k one (omega arith) open_k in
          elim (cases_eq k j) [
            | inl e ↦ inr e
            | inr c ↦ (let m = before_first P history f (i + 1) j k two (omega (arith, l, d)) open_k in not_both (is_open P history (variable_at P f k)) open_k (none k (omega (arith, m, c)) h))
          ])
    ]

-- three are
pub are_many : (P : Network) (history : List Event) (f i j k : ℕ) → IsNextOpen P history f 0 i → IsNextOpen P history f (i + 1) j → IsNextOpen P history f (j + 1) k → 2 < open_count P history f
are_many P history f i j k one two three =
    let a = two.from in let b = three.from in
    some_three (λ p. is_open P history (variable_at P f p)) (arity P f) i j k (omega (arith, a)) (omega (arith, b)) three.place one.here two.here three.here
