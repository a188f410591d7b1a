-- A walk over the live values of a variable, and what a peak shows.
use Rattle.std.proofs.Common.{◌≡◌, ℕ, ◌+◌, ◌<◌, ◌≤◌, ◌⊎◌, inl, inr, List, length, sym, ◌∙◌, ap, subst, arith}
use Rattle.std.proofs.lemmas.Bool.{cases_eq, false≢true}
use Rattle.std.proofs.lemmas.Int.{ints}
use Rattle.std.specs.Prelude.{pos, ◌+ℤ◌, ◌≤ℤ◌, slice_index, Bool, true, false, IsTrue}
use Rattle.cfn_model.specs.declared.step.Event.{Event}
use Rattle.cfn_model.specs.Network.{Network}
use Rattle.cfn_model.specs.Sums.{floor, unary, is_live}
use Rattle.cfn_consistency.specs.Consistency.{IsFree}
use Rattle.cfn_rows.specs.Sets.{AreLive}
use Rattle.cfn_store.specs.Peaks.{HasPeak, AreLow}
use Rattle.cfn_store.specs.Rooms.{sets_of}
use Rattle.cfn_store.specs.Standing.{Standing, history}
use Rattle.cfn_gain.specs.Levels.{IsLevel}

-- none of the first live values costs more than the peak, and one costs nothing where that was seen
pub record PeakTo (s : Standing) (x : ℕ) (values : List ℕ) (n peak : ℕ) (seen : Bool) : Type 0 where
  pub within : (i : ℕ) → i < n → unary s.network (history s) x (slice_index values i) ≤ℤ pos peak
  pub free : seen ≡ true → (a : ℕ) × IsFree s.network (history s) x a

pub peak_start : (s : Standing) (x : ℕ) (values : List ℕ) → PeakTo s x values 0 0 false
peak_start s x values = record { within = λ i h. absurd (omega (arith, h)); free = λ is. absurd (false≢true is) }

-- one live value more
at_most : (s : Standing) (x : ℕ) (values : List ℕ) (n word peak next : ℕ) (seen : Bool) → PeakTo s x values n peak seen → pos word ≡ unary s.network (history s) x (slice_index values n) → peak ≤ next → word ≤ next
    → (i : ℕ) → i < n + 1 → unary s.network (history s) x (slice_index values i) ≤ℤ pos next
at_most s x values n word peak next seen to cost more there i h = elim (cases_eq i n) [
  | inl e ↦ subst (λ j. unary s.network (history s) x (slice_index values j) ≤ℤ pos next) (sym e) (omega (arith, ints, cost, there))
  | inr d ↦ (let w = to.within i (omega (arith, h, d)) in omega (arith, ints, w, more))
]

pub peak_more : (s : Standing) (x : ℕ) (values : List ℕ) (n word peak next : ℕ) (seen then : Bool) → AreLive (sets_of s) x values → n < length values → PeakTo s x values n peak seen → pos word ≡ unary s.network (history s) x (slice_index values n)
    → peak ≤ next → word ≤ next → (then ≡ true → (seen ≡ true) ⊎ (word ≡ 0)) → PeakTo s x values (n + 1) next then
peak_more s x values n word peak next seen then are there to cost more here either = record {
  within = at_most s x values n word peak next seen to cost more here;
  free = λ is. elim (either is) [
    | inl before ↦ to.free before
    | inr none ↦ (let v = are.live n there in (slice_index values n, record { value = record { variable = v.0.variable; value = v.0.value }; live = v.1; free = sym cost ∙ ap pos none }))
  ];
}

pub peak_all : (s : Standing) (x : ℕ) (values : List ℕ) (n peak : ℕ) (seen : Bool) → AreLive (sets_of s) x values → length values ≤ n → PeakTo s x values n peak seen → seen ≡ true → HasPeak s.network (history s) x peak
peak_all s x values n peak seen are all to is = (let free = to.free is in record {
  within = λ a value live. (let at = are.all a (record { variable = value.variable; value = value.value }) live in
      subst (λ b. unary s.network (history s) x b ≤ℤ pos peak) at.2 (to.within at.0 (omega (arith, at.1, all))));
  free = free.0;
  value = free.1.value;
  live = free.1.live;
  nothing = free.1.free;
})

-- a variable whose peak is below what the floor lacks
pub level_by : (P : Network) (history : List Event) (x peak lacks k : ℕ) → floor P history + lacks ≡ k → peak < lacks → HasPeak P history x peak → IsLevel P history k x
level_by P history x peak lacks k sum below has = record {
  below = λ a value live. (let w = has.within a value live in omega (arith, ints, w, sum, below));
  free = (has.free, record { value = has.value; live = has.live; free = has.nothing });
}
