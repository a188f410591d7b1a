-- The second-least unary cost.
use Rattle.std.proofs.Common.{◌≡◌, ◌≢◌, ℕ, ◌+◌, ◌<◌, ◌≤◌, min, max, inl, inr, List, length, sym, ap, ◌∙◌, subst, arith}
use Rattle.std.proofs.lemmas.Bool.{cases_eq}
use Rattle.std.proofs.lemmas.Int.{ints}
use Rattle.std.specs.Prelude.{slice_index, ℤ, pos, ◌≤ℤ◌}
use Rattle.cfn_model.specs.Sums.{unary}
use Rattle.cfn_rows.specs.Sets.{AreLive}
use Rattle.cfn_store.specs.Standing.{Standing, history}
use Rattle.cfn_store.specs.Rooms.{sets_of}
use Rattle.cfn_branch.specs.Choosing.{IsChoice, IsSecondLeast}
use Rattle.cfn_branch.proofs.Ordering.{order}

-- among the values at the places below n the ones at i and j have the least and the second-least cost
pub record AreTwoLeast (s : Standing) (x : ℕ) (values : List ℕ) (n least second : ℕ) : Type 0 where
  pub i : ℕ
  pub j : ℕ
  pub one : i < n
  pub other : j < n
  pub different : i ≢ j
  pub order : least ≤ second
  pub least_is : pos least ≡ unary s.network (history s) x (slice_index values i)
  pub second_is : pos second ≡ unary s.network (history s) x (slice_index values j)
  pub most : (k : ℕ) → k < n → k ≢ i → pos second ≤ℤ unary s.network (history s) x (slice_index values k)

pub choice_at : (s : Standing) (x : ℕ) (values : List ℕ) (k : ℕ) → AreLive (sets_of s) x values → k < length values → IsChoice s x (slice_index values k)
choice_at s x values k are h = let v = are.live k h in record { value = record { variable = v.0.variable; value = v.0.value }; live = v.1 }

abbrev pub cost_at : Standing → ℕ → List ℕ → ℕ → ℤ
cost_at s x values k = unary s.network (history s) x (slice_index values k)

lower : (a b : ℕ) (z : ℤ) → a ≤ b → pos b ≤ℤ z → pos a ≤ℤ z
lower a b z le h = omega (arith, ints, h)

lower_is : (a b : ℕ) (z : ℤ) → a ≤ b → pos b ≡ z → pos a ≤ℤ z
lower_is a b z le h = omega (arith, ints, h)

least_of : (a b c : ℕ) → a ≡ min b c → b ≤ c → a ≡ b
least_of a b c is h = omega (arith, is, h)

-- the first two values
pub two_begin : (s : Standing) (x : ℕ) (values : List ℕ) (a b least second : ℕ) → pos a ≡ cost_at s x values 0 → pos b ≡ cost_at s x values 1 → least ≡ min a b → second ≡ max a b → AreTwoLeast s x values 2 least second
two_begin s x values a b least second of_a of_b is_least is_second = elim (order b a) [
  | inl less ↦
      (let l : least ≡ b = omega (arith, is_least, less) in
      let m : second ≡ a = omega (arith, is_second, less) in
      record {
        i = 1;
        j = 0;
        one = omega arith;
        other = omega arith;
        different = λ e. omega (arith, e);
        order = omega (arith, l, m, less);
        least_is = ap pos l ∙ of_b;
        second_is = ap pos m ∙ of_a;
        most = λ k below differs. (let e : 0 ≡ k = omega (arith, below, differs) in lower_is second a _ (omega (arith, m)) (of_a ∙ ap (cost_at s x values) e));
      })
  | inr most ↦
      (let l : least ≡ a = omega (arith, is_least, most) in
      let m : second ≡ b = omega (arith, is_second, most) in
      record {
        i = 0;
        j = 1;
        one = omega arith;
        other = omega arith;
        different = λ e. omega (arith, e);
        order = omega (arith, l, m, most);
        least_is = ap pos l ∙ of_a;
        second_is = ap pos m ∙ of_b;
        most = λ k below differs. (let e : 1 ≡ k = omega (arith, below, differs) in lower_is second b _ (omega (arith, m)) (of_b ∙ ap (cost_at s x values) e));
      })
]

-- one value more
module _ (s : Standing) (x : ℕ) (values : List ℕ) (n least second cost new_least new_second : ℕ) (two : AreTwoLeast s x values n least second) (of_cost : pos cost ≡ cost_at s x values n) (is_least : new_least ≡ min least cost) (is_second : new_second ≡ min second (max cost least)) where
  -- it costs as much as the second one
  no_less : second ≤ cost → AreTwoLeast s x values (n + 1) new_least new_second
  no_less most =
      let o = two.order in
      let l : new_least ≡ least = omega (arith, is_least, most, o) in
      let m : new_second ≡ second = omega (arith, is_second, most, o) in
      let one = two.one in let other = two.other in
      record {
        i = two.i;
        j = two.j;
        one = omega (arith, one);
        other = omega (arith, other);
        different = two.different;
        order = omega (arith, l, m, o);
        least_is = ap pos l ∙ two.least_is;
        second_is = ap pos m ∙ two.second_is;
        most = λ k below differs. elim (cases_eq k n) [
          | inl same ↦ lower_is new_second cost _ (omega (arith, m, most)) (of_cost ∙ ap (cost_at s x values) (sym same))
          | inr before ↦ lower new_second second _ (omega (arith, m)) (two.most k (omega (arith, below, before)) differs)
        ];
      }

  -- it costs less than that, and no less than the least
  between : cost < second → least ≤ cost → AreTwoLeast s x values (n + 1) new_least new_second
  between less most =
      let l : new_least ≡ least = omega (arith, is_least, most) in
      let m : new_second ≡ cost = omega (arith, is_second, less, most) in
      let one = two.one in
      record {
        i = two.i;
        j = n;
        one = omega (arith, one);
        other = omega arith;
        different = λ e. omega (arith, e, one);
        order = omega (arith, l, m, most);
        least_is = ap pos l ∙ two.least_is;
        second_is = ap pos m ∙ of_cost;
        most = λ k below differs. elim (cases_eq k n) [
          | inl same ↦ lower_is new_second cost _ (omega (arith, m)) (of_cost ∙ ap (cost_at s x values) (sym same))
          | inr before ↦ lower new_second second _ (omega (arith, m, less)) (two.most k (omega (arith, below, before)) differs)
        ];
      }

  -- it costs less than the least
  below_all : cost < least → AreTwoLeast s x values (n + 1) new_least new_second
  below_all less =
      let o = two.order in
      let l : new_least ≡ cost = omega (arith, is_least, less) in
      let m : new_second ≡ least = omega (arith, is_second, less, o) in
      let one = two.one in
      record {
        i = n;
        j = two.i;
        one = omega arith;
        other = omega (arith, one);
        different = λ e. omega (arith, e, one);
        order = omega (arith, l, m, less);
        least_is = ap pos l ∙ of_cost;
        second_is = ap pos m ∙ two.least_is;
        most = λ k below differs. elim (cases_eq k two.i) [
          | inl same ↦ lower_is new_second least _ (omega (arith, m)) (two.least_is ∙ ap (cost_at s x values) (sym same))
          | inr other ↦ lower new_second second _ (omega (arith, m, o)) (two.most k (omega (arith, below, differs)) other)
        ];
      }

  pub two_next : AreTwoLeast s x values (n + 1) new_least new_second
  two_next = elim (order cost least) [
    | inl less ↦ below_all less
    | inr most ↦ (elim (order cost second) [
      | inl less ↦ between less most
      | inr more ↦ no_less more
    ])
  ]

-- all values
pub all_two : (s : Standing) (x : ℕ) (values : List ℕ) (n least second : ℕ) → AreLive (sets_of s) x values → length values ≤ n → n ≤ length values → AreTwoLeast s x values n least second → IsSecondLeast s x second
all_two s x values n least second are most few two =
    let one = two.one in let other = two.other in let o = two.order in
    let at_i : two.i < length values = omega (arith, one, few) in
    let at_j : two.j < length values = omega (arith, other, few) in
    record {
      least = slice_index values two.i;
      second = slice_index values two.j;
      one = choice_at s x values two.i are at_i;
      other = choice_at s x values two.j are at_j;
      different = λ e. two.different (are.once two.i two.j at_i at_j e);
      order = subst (λ z. z ≤ℤ cost_at s x values two.j) two.least_is (lower_is least second _ o two.second_is);
      is = sym two.second_is;
      most = λ a choice differs.
          (let found = are.all a (record { variable = choice.value.variable; value = choice.value.value }) choice.live in
          subst (λ v. pos second ≤ℤ unary s.network (history s) x v) found.2 (two.most found.0 (let h = found.1 in omega (arith, h, most)) (λ e. differs (sym found.2 ∙ ap (slice_index values) e))));
    }
