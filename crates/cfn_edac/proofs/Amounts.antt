-- What a value asks, one neighbour after another, and which value asks least.
use Rattle.std.proofs.Common.{◌≡◌, ◌⊎◌, ℕ, suc, ◌+◌, ◌<◌, ◌≤◌, ◌^◌, min, inl, inr, List, [], ◌∷◌, ◌++◌, length, length-append, refl, sym, ap, ◌∙◌, subst, arith}
use Rattle.std.proofs.lemmas.Bool.{cases_eq}
use Rattle.std.proofs.lemmas.Int.{ints}
use Rattle.std.proofs.lemmas.List.{get_or_append_left}
use Rattle.std.proofs.lemmas.List.Sums.{sum_by-cons, sum_by_push, get_or-le-sum_by}
use Rattle.std.proofs.Math.Seq.{get_or-append_seam}
use Rattle.std.specs.Prelude.{ℤ, pos, ◌≤ℤ◌, sum, slice_index, IsTrue}
use Rattle.cfn_model.specs.declared.step.Event.{Event}
use Rattle.cfn_model.specs.Network.{Network}
use Rattle.cfn_model.specs.Sums.{unary, is_live}
use Rattle.cfn_model.specs.Steps.{IsValue}
use Rattle.cfn_rows.specs.Sets.{AreLive}
use Rattle.cfn_store.specs.Standing.{Standing, history}
use Rattle.cfn_store.specs.Rooms.{sets_of}
use Rattle.cfn_dac.specs.declared.pair.Pair.{Pair}
use Rattle.cfn_edac.specs.Neighbours.{IsGood, pair_at}
use Rattle.cfn_edac.specs.Asking.{cap, Finds, Asks, IsCheapestBy}

-- of no neighbour it asks its unary cost
pub asks_start : (P : Network) (history : List Event) (x : ℕ) (pairs : List Pair) (a own : ℕ) → pos own ≡ unary P history x a → own < 2 ^ 64 → Asks P history x pairs a 0 own
asks_start P history x pairs a own is small = record {
  own = own;
  own_is = is;
  found = [];
  size = refl;
  each = λ k h. absurd (omega (arith, h));
  sum = omega (arith, small);
}

-- one neighbour more
pub asks_more : (P : Network) (history : List Event) (x : ℕ) (pairs : List Pair) (a n amount more new : ℕ) → Asks P history x pairs a n amount → Finds P history (pair_at pairs n) a more → new ≡ min cap (amount + more) → Asks P history x pairs a (n + 1) new
asks_more P history x pairs a n amount more new old finds is = record {
  own = old.own;
  own_is = old.own_is;
  found = old.found ++ more ∷ [];
  size = length-append old.found (more ∷ []) ∙ ap (λ i. i + 1) old.size;
  each = λ k h. elim (cases_eq k n) [
    | inl e ↦ subst (λ i. Finds P history (pair_at pairs i) a (slice_index (old.found ++ more ∷ []) i)) (sym e)
        (subst (Finds P history (pair_at pairs n) a) (sym (get_or-append_seam old.found more [] 0) ∙ ap (slice_index (old.found ++ more ∷ [])) old.size) finds)
    | inr d ↦
        (let less : k < n = omega (arith, h, d) in
        subst (Finds P history (pair_at pairs k) a) (sym (get_or_append_left old.found (more ∷ []) 0 k (subst (λ i. k < i) (sym old.size) less))) (old.each k less))
  ];
  sum = let before = old.sum in let push = sum_by_push (λ i. i) old.found more in omega (arith, is, before, push);
}

-- what a value finds in a neighbour is one amount
finds_least : (P : Network) (history : List Event) (pair : Pair) (a one other : ℕ) → Finds P history pair a one → Finds P history pair a other → one ≤ other
finds_least P history pair a one other first second = elim (cases_eq other cap) [
  | inl e ↦ (let small = first.capped in omega (arith, small, e))
  | inr d ↦
      (let small = second.capped in
      let t = second.is.reached (omega (arith, small, d)) in
      below one other _ (first.is.bound t.0 t.1) t.2)
]
  where
    below : (m n : ℕ) (z : ℤ) → pos m ≤ℤ z → z ≡ pos n → m ≤ n
    below m n z le e = omega (arith, ints, le, e)

-- a longer list of no lesser terms has no lesser sum
sum_grows : (xs ys : List ℕ) → length xs ≤ length ys → ((k : ℕ) → k < length xs → slice_index xs k ≤ slice_index ys k) → sum xs ≤ sum ys
sum_grows [] ys h each = omega arith
sum_grows (x ∷ xs) [] h each = absurd (omega (arith, h))
sum_grows (x ∷ xs) (y ∷ ys) h each =
    let first : x ≤ y = each 0 (omega arith) in
    let rest = sum_grows xs ys (omega (arith, h)) (λ k l. each (suc k) (omega (arith, l))) in
    let one = sum_by-cons (λ i. i) x xs in let other = sum_by-cons (λ i. i) y ys in
    omega (arith, first, rest, one, other)

-- of more neighbours it asks no less
pub asks_grow : (P : Network) (history : List Event) (x : ℕ) (pairs : List Pair) (a n m amount other : ℕ) → n ≤ m → Asks P history x pairs a n amount → Asks P history x pairs a m other → amount ≤ other
asks_grow P history x pairs a n m amount other le one two =
    let size_one = one.size in let size_two = two.size in
    let own = same one.own two.own _ one.own_is two.own_is in
    let grown = sum_grows one.found two.found (omega (arith, size_one, size_two, le)) (λ k h. finds_least P history (pair_at pairs k) a _ _ (one.each k (omega (arith, size_one, h))) (two.each k (omega (arith, size_one, h, le)))) in
    let sum_one = one.sum in let sum_two = two.sum in
    omega (arith, own, grown, sum_one, sum_two)
  where
    same : (m n : ℕ) (z : ℤ) → pos m ≡ z → pos n ≡ z → m ≡ n
    same m n z e d = omega (arith, ints, e, d)

-- a value that asks nothing is good
pub good_of_asks : (P : Network) (history : List Event) (x : ℕ) (pairs : List Pair) (a : ℕ) → IsValue P x a → IsTrue (is_live history x a) → Asks P history x pairs a (length pairs) 0 → IsGood P history x pairs a
good_of_asks P history x pairs a value live asks =
    let all = asks.sum in
    let own : asks.own ≡ 0 = omega (arith, all) in
    record {
      free = record { value = value; live = live; free = sym asks.own_is ∙ ap pos own };
      full = λ k h.
          (let term = get_or-le-sum_by (λ i. i) asks.found k 0 (subst (λ n. k < n) (sym asks.size) h) in
          let none : slice_index asks.found k ≡ 0 = omega (arith, all, term) in
          let t = (asks.each k h).is.reached (omega (arith, none)) in
          record { tuple = t.0; fits = t.1.fits; at = t.1.value; live = t.1.live; free = t.2 ∙ ap pos none });
    }

-- of the first n live values this one asks least
pub record IsCheapestYet (s : Standing) (x : ℕ) (pairs : List Pair) (values : List ℕ) (n best least : ℕ) : Type 0 where
  pub value : IsValue s.network x best
  pub live : IsTrue (is_live (history s) x best)
  pub asks : Asks s.network (history s) x pairs best (length pairs) least
  pub before : (j other : ℕ) → j < n → Asks s.network (history s) x pairs (slice_index values j) (length pairs) other → (least ≤ other) × (other ≡ least → best ≤ slice_index values j)

-- a value that asks less than the best, or as much and is less, and one that does not
module _ (s : Standing) (x : ℕ) (pairs : List Pair) (values : List ℕ) (n best least asked : ℕ) (old : IsCheapestYet s x pairs values n best least) (is : asked ≤ least → Asks s.network (history s) x pairs (slice_index values n) (length pairs) asked) where
  one_amount : (j other : ℕ) → j ≡ n → asked ≤ least → Asks s.network (history s) x pairs (slice_index values j) (length pairs) other → asked ≤ other
  one_amount j other e h asks = asks_grow s.network (history s) x pairs (slice_index values n) (length pairs) (length pairs) asked other (omega arith) (is h) (subst (λ i. Asks s.network (history s) x pairs (slice_index values i) (length pairs) other) e asks)

  pub cheapest_new : (asked < least) ⊎ ((asked ≡ least) × (slice_index values n < best)) → IsValue s.network x (slice_index values n) → IsTrue (is_live (history s) x (slice_index values n)) → IsCheapestYet s x pairs values (n + 1) (slice_index values n) asked
  cheapest_new better value live = record {
    value = value;
    live = live;
    asks = is (most_of better);
    before = λ j other h asks. elim (cases_eq j n) [
      | inl e ↦ (one_amount j other e (most_of better) asks, (λ same. (let v = ap (slice_index values) e in omega (arith, v))))
      | inr d ↦ among better j other (old.before j other (omega (arith, h, d)) asks)
    ];
  }
    where
      most_of : (asked < least) ⊎ ((asked ≡ least) × (slice_index values n < best)) → asked ≤ least
      most_of (inl h) = omega (arith, h)
      most_of (inr tie) = let e = tie.0 in omega (arith, e)

      among : (asked < least) ⊎ ((asked ≡ least) × (slice_index values n < best)) → (j other : ℕ) → (least ≤ other) × (other ≡ least → best ≤ slice_index values j) → (asked ≤ other) × (other ≡ asked → slice_index values n ≤ slice_index values j)
      among (inl h) j other was = let low = was.0 in (omega (arith, h, low), (λ same. absurd (omega (arith, h, low, same))))
      among (inr tie) j other was =
          let low = was.0 in let e = tie.0 in let less = tie.1 in
          (omega (arith, e, low), (λ same. (let b = was.1 (omega (arith, same, e)) in omega (arith, b, less))))

  pub cheapest_kept : (least < asked) ⊎ ((asked ≡ least) × (best ≤ slice_index values n)) → (least < asked → (amount : ℕ) → Asks s.network (history s) x pairs (slice_index values n) (length pairs) amount → least < amount) → IsCheapestYet s x pairs values (n + 1) best least
  cheapest_kept worse above = record {
    value = old.value;
    live = old.live;
    asks = old.asks;
    before = λ j other h asks. elim (cases_eq j n) [
      | inl e ↦ here worse j other e asks
      | inr d ↦ old.before j other (omega (arith, h, d)) asks
    ];
  }
    where
      here : (least < asked) ⊎ ((asked ≡ least) × (best ≤ slice_index values n)) → (j other : ℕ) → j ≡ n → Asks s.network (history s) x pairs (slice_index values j) (length pairs) other → (least ≤ other) × (other ≡ least → best ≤ slice_index values j)
      here (inl h) j other e asks =
          let more = above h other (subst (λ i. Asks s.network (history s) x pairs (slice_index values i) (length pairs) other) e asks) in
          (omega (arith, more), (λ same. absurd (omega (arith, more, same))))
      here (inr tie) j other e asks =
          let same = tie.0 in let low = tie.1 in
          let least_is = one_amount j other e (omega (arith, same)) asks in
          (omega (arith, least_is, same), (λ again. (let v = ap (slice_index values) e in omega (arith, v, low))))

-- one value alone
pub cheapest_begins : (s : Standing) (x : ℕ) (pairs : List Pair) (values : List ℕ) (least : ℕ) → IsValue s.network x (slice_index values 0) → IsTrue (is_live (history s) x (slice_index values 0)) → Asks s.network (history s) x pairs (slice_index values 0) (length pairs) least → IsCheapestYet s x pairs values 1 (slice_index values 0) least
cheapest_begins s x pairs values least value live asks = record {
  value = value;
  live = live;
  asks = asks;
  before = λ j other h its.
      (let e : j ≡ 0 = omega (arith, h) in
      let v = ap (slice_index values) e in
      (asks_grow s.network (history s) x pairs (slice_index values 0) (length pairs) (length pairs) least other (omega arith) asks (subst (λ i. Asks s.network (history s) x pairs (slice_index values i) (length pairs) other) e its), (λ same. omega (arith, v))));
}

-- all live values
pub cheapest_all : (s : Standing) (x : ℕ) (pairs : List Pair) (values : List ℕ) (n best least : ℕ) → AreLive (sets_of s) x values → length values ≤ n → IsCheapestYet s x pairs values n best least → IsCheapestBy s.network (history s) x pairs best
cheapest_all s x pairs values n best least are all yet = record {
  value = yet.value;
  live = yet.live;
  amount = least;
  asks = yet.asks;
  least = λ b other value live asks.
      (let at = are.all b (record { variable = value.variable; value = value.value }) live in
      (yet.before at.0 other (omega (arith, at.1, all)) (subst (λ v. Asks s.network (history s) x pairs v (length pairs) other) (sym at.2) asks)).0);
  first = λ b value live asks.
      (let at = are.all b (record { variable = value.variable; value = value.value }) live in
      subst (λ v. best ≤ v) at.2
      ((yet.before at.0 least (omega (arith, at.1, all)) (subst (λ v. Asks s.network (history s) x pairs v (length pairs) least) (sym at.2) asks)).1 refl));
}
