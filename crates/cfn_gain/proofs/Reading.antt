-- What is read of a variable's live values.
use Rattle.std.proofs.Common.{◌≡◌, ◌⊎◌, ℕ, zero, suc, ◌+◌, ◌<◌, ◌≤◌, min, inl, inr, List, length, sym, ap, ◌∙◌, subst, arith}
use Rattle.std.proofs.lemmas.Bool.{cases_eq}
use Rattle.std.proofs.lemmas.Int.{ints}
use Rattle.std.specs.Prelude.{ℤ, pos, ◌≤ℤ◌, IsTrue, slice_index}
use Rattle.cfn_model.specs.Network.{Network}
use Rattle.cfn_model.specs.Sums.{unary, is_live}
use Rattle.cfn_model.specs.Steps.{IsValue}
use Rattle.cfn_rows.specs.Sets.{AreLive}
use Rattle.cfn_store.specs.Standing.{Standing, history}
use Rattle.cfn_store.specs.Rooms.{sets_of}
use Rattle.cfn_gain.specs.Passes.{HasLive, IsLeast}

-- what the values at the places below i have in common
pub record IsLeastTo (s : Standing) (x : ℕ) (values : List ℕ) (i least : ℕ) : Type 0 where
  pub value : ℕ
  pub is : IsValue s.network x value
  pub live : IsTrue (is_live (history s) x value)
  pub cost : unary s.network (history s) x value ≡ pos least
  pub most : (j : ℕ) → j < i → pos least ≤ℤ unary s.network (history s) x (slice_index values j)

pub value_at : (s : Standing) (x : ℕ) (values : List ℕ) (j : ℕ) → AreLive (sets_of s) x values → j < length values → IsValue s.network x (slice_index values j)
value_at s x values j are h = let v = (are.live j h).0 in record { variable = v.variable; value = v.value }

which : (a b : ℕ) → (a ≤ b) ⊎ (b ≤ a)
which a zero = inr (omega arith)
which a (suc b) = elim (which a b) [
  | inl h ↦ inl (omega (arith, h))
  | inr h ↦ (elim (cases_eq a b) [
    | inl e ↦ inl (omega (arith, e))
    | inr e ↦ inr (omega (arith, h, e))
  ])
]

lower : (a b : ℕ) (z : ℤ) → a ≤ b → pos b ≤ℤ z → pos a ≤ℤ z
lower a b z le h = omega (arith, ints, h)

lower_is : (a b : ℕ) (z : ℤ) → a ≤ b → pos b ≡ z → pos a ≤ℤ z
lower_is a b z le h = omega (arith, ints, h)

pub next_least : (s : Standing) (x : ℕ) (values : List ℕ) (i least word new : ℕ) → AreLive (sets_of s) x values → i < length values → IsLeastTo s x values i least → pos word ≡ unary s.network (history s) x (slice_index values i) → new ≡ min least word → IsLeastTo s x values (i + 1) new
next_least s x values i least word new are h l is new_is = elim (which least word) [
  | inl le ↦
      (let e : new ≡ least = omega (arith, new_is, le) in
      record {
        value = l.value;
        is = l.is;
        live = l.live;
        cost = l.cost ∙ ap pos (sym e);
        most = λ j k. most j k (omega (arith, e)) (omega (arith, e, le));
      })
  | inr le ↦
      (let e : new ≡ word = omega (arith, new_is, le) in
      record {
        value = slice_index values i;
        is = value_at s x values i are h;
        live = (are.live i h).1;
        cost = sym is ∙ ap pos (sym e);
        most = λ j k. most j k (omega (arith, e, le)) (omega (arith, e));
      })
]
  where
    most : (j : ℕ) → j < i + 1 → new ≤ least → new ≤ word → pos new ≤ℤ unary s.network (history s) x (slice_index values j)
    most j k a b = elim (cases_eq j i) [
      | inl same ↦ lower_is new word _ b (is ∙ ap (λ p. unary s.network (history s) x (slice_index values p)) (sym same))
      | inr other ↦ lower new least _ a (l.most j (omega (arith, k, other)))
    ]

pub first_least : (s : Standing) (x : ℕ) (values : List ℕ) (word : ℕ) → AreLive (sets_of s) x values → 0 < length values → pos word ≡ unary s.network (history s) x (slice_index values 0) → IsLeastTo s x values 0 word
first_least s x values word are h is = record {
  value = slice_index values 0;
  is = value_at s x values 0 are h;
  live = (are.live 0 h).1;
  cost = sym is;
  most = λ j k. absurd (omega (arith, k));
}

pub all_least : (s : Standing) (x : ℕ) (values : List ℕ) (i least : ℕ) → AreLive (sets_of s) x values → length values ≤ i → IsLeastTo s x values i least → IsLeast s.network (history s) x least
all_least s x values i least are h l = record {
  value = l.value;
  is = l.is;
  live = l.live;
  cost = l.cost;
  most = λ a value live.
      (let found = are.all a (record { variable = value.variable; value = value.value }) live in
      subst (λ b. pos least ≤ℤ unary s.network (history s) x b) found.2 (l.most found.0 (omega (arith, h, found.1))));
}

-- a list of live values that is not empty has one
pub has_live : (s : Standing) (P : Network) (x : ℕ) (values : List ℕ) → s.network ≡ P → AreLive (sets_of s) x values → 0 < length values → HasLive P (history s) x
has_live s P x values same are h = record { value = slice_index values 0; is = subst (λ Q. IsValue Q x (slice_index values 0)) same (value_at s x values 0 are h); live = (are.live 0 h).1 }
