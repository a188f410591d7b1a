-- Numbers are put behind those that wait.
use Rattle.std.proofs.Common.{◌≡◌, ◌⊎◌, ℕ, ◌+◌, ◌-◌, ◌<◌, ◌≤◌, inl, inr, Bool, true, false, ◌||◌, List, [], ◌∷◌, ◌++◌, length, append_assoc, refl, sym, ap, ◌∙◌, subst, arith, eq-eqb}
use Rattle.std.proofs.lemmas.Bool.{cases_eq, false≢true}
use Rattle.std.specs.Prelude.{if◌then◌else◌}
use Rattle.cfn_model.specs.Network.{Network, arity, variable_at}
use Rattle.cfn_model.proofs.CallerLemmas.{eqb_other}
use Rattle.cfn_queue.specs.Waiting.{Waiting, is_in, with_item}
use Rattle.cfn_queue.proofs.CallerLemmas.{in_behind}
use Rattle.cfn_incidence.specs.declared.incidence.Place.{Place}
use Rattle.cfn_incidence.specs.Places.{StandsAt, place_in, place_at, ArePlaces}
use Rattle.cfn_incidence.proofs.CallerLemmas.{stands_in, two_there}
use Rattle.cfn_due.specs.Dues.{waits}
use Rattle.cfn_due.specs.Going.{IsOn, IsUpper, IsNear, ArePut}
use Rattle.cfn_due.specs.Remembered.{AllWait}

not_false : (b : Bool) → (b ≡ false → ⊥) → b ≡ true
not_false true h = refl
not_false false h = absurd (h refl)

none_behind : (items : List ℕ) → items ≡ items ++ []
none_behind [] = refl
none_behind (x ∷ items) = ap (λ l. x ∷ l) (none_behind items)

-- what waits goes on to wait where more is put
pub stays : (old new : Waiting) (Goes : ℕ → Type 0) (i : ℕ) → ArePut old new Goes → waits old i ≡ true → waits new i ≡ true
stays old new Goes i put was =
    not_false (waits new i) (λ not. false≢true (sym not ∙ put.left i (λ goes. false≢true (sym not ∙ put.put i goes)) ∙ was))

pub all_stay : (old new : Waiting) (Goes Other : ℕ → Type 0) → ArePut old new Goes → AllWait old Other → AllWait new Other
all_stay old new Goes Other put all i other = stays old new Goes i put (all i other)

-- all that goes waits already
pub put_none : (queue : Waiting) (Goes : ℕ → Type 0) → AllWait queue Goes → ArePut queue queue Goes
put_none queue Goes all = record {
  size = refl;
  behind = ([], none_behind queue.items);
  put = all;
  left = λ i stay. refl;
}

-- one number is put
pub put_one : (queue : Waiting) (x : ℕ) → ArePut queue (with_item queue x) (λ i. x ≡ i)
put_one queue x = by (is_in x queue.items) refl
  where
    behind_all : Waiting
    behind_all = record { size = queue.size; items = queue.items ++ x ∷ [] }

    or_true : (b : Bool) → (b || true) ≡ true
    or_true true = refl
    or_true false = refl

    or_false : (b : Bool) → (b || false) ≡ b
    or_false true = refl
    or_false false = refl

    by : (b : Bool) → is_in x queue.items ≡ b → ArePut queue (if b then queue else behind_all) (λ i. x ≡ i)
    by true is = put_none queue (λ i. x ≡ i) (λ i same. subst (λ j. is_in j queue.items ≡ true) same is)
    by false is = record {
      size = refl;
      behind = (x ∷ [], refl);
      put = λ i same. in_behind i x queue.items ∙ ap (λ b. is_in i queue.items || b) (eq-eqb i x (sym same)) ∙ or_true (is_in i queue.items);
      left = λ i stay. in_behind i x queue.items ∙ ap (λ b. is_in i queue.items || b) (eqb_other i x (λ e. stay (sym e))) ∙ or_false (is_in i queue.items);
    }

-- numbers are put, and then others
pub put_then : (old middle new : Waiting) (First Second Goes : ℕ → Type 0) → ArePut old middle First → ArePut middle new Second → ((i : ℕ) → Goes i → First i ⊎ Second i) → ((i : ℕ) → First i → Goes i) → ((i : ℕ) → Second i → Goes i) → ArePut old new Goes
put_then old middle new First Second Goes first second either one other = record {
  size = second.size ∙ first.size;
  behind = (let a = first.behind in let b = second.behind in
      (a.0 ++ b.0, b.1 ∙ ap (λ l. l ++ b.0) a.1 ∙ append_assoc old.items a.0 b.0));
  put = λ i goes. elim (either i goes) [
    | inl a ↦ stays middle new Second i second (first.put i a)
    | inr b ↦ second.put i b
  ];
  left = λ i stay. second.left i (λ b. stay (other i b)) ∙ first.left i (λ a. stay (one i a));
}

-- the same said in other words
pub put_same : (old new : Waiting) (Goes Other : ℕ → Type 0) → ArePut old new Goes → ((i : ℕ) → Goes i → Other i) → ((i : ℕ) → Other i → Goes i) → ArePut old new Other
put_same old new Goes Other put there back = record {
  size = put.size;
  behind = put.behind;
  put = λ i other. put.put i (back i other);
  left = λ i stay. put.left i (λ goes. stay (there i goes));
}

-- one of the first n is at hand or before
split_last : (n j : ℕ) → j < n + 1 → (j < n) ⊎ (n ≡ j)
split_last n j h = elim (cases_eq n j) [
  | inl e ↦ inr e
  | inr d ↦ inl (omega (arith, h, d))
]

-- nothing goes yet, and then one more
pub none_put : (queue : Waiting) (Fact : ℕ → ℕ → Type 0) → ArePut queue queue (λ i. (j : ℕ) × (j < 0) × Fact j i)
none_put queue Fact = put_none queue (λ i. (j : ℕ) × (j < 0) × Fact j i) (λ i none. absurd (let h = none.1 in omega (arith, h)))

pub more_put : (old middle new : Waiting) (Fact : ℕ → ℕ → Type 0) (n : ℕ) → ArePut old middle (λ i. (j : ℕ) × (j < n) × Fact j i) → ArePut middle new (Fact n) → ArePut old new (λ i. (j : ℕ) × (j < n + 1) × Fact j i)
more_put old middle new Fact n first second =
    put_then old middle new (λ i. (j : ℕ) × (j < n) × Fact j i) (Fact n) (λ i. (j : ℕ) × (j < n + 1) × Fact j i) first second
    (λ i goes. elim (split_last n goes.0 goes.1) [
      | inl less ↦ inl (goes.0, less, goes.2)
      | inr e ↦ inr (subst (λ j. Fact j i) (sym e) goes.2)
    ])
    (λ i goes. (goes.0, (let h = goes.1 in omega (arith, h)), goes.2))
    (λ i goes. (n, omega arith, goes))

-- a fact of i and one of the first n places
abbrev pub Among : List Place → (Place → ℕ → Type 0) → ℕ → ℕ → Type 0
Among places At n i = (j : ℕ) × (j < n) × At (place_at places j) i

-- all places of x
places_end : (P : Network) (x : ℕ) (places : List Place) (old new : Waiting) (n : ℕ) (At : Place → ℕ → Type 0) (Goes : ℕ → Type 0) → ArePlaces P x places → n ≡ length places → ArePut old new (Among places At n) → ((p : Place) (i : ℕ) → StandsAt P x p → At p i → Goes i) → ((i : ℕ) → Goes i → (p : Place) × StandsAt P x p × At p i) → ArePut old new Goes
places_end P x places old new n At Goes are whole put there back =
    put_same old new (Among places At n) Goes put
    (λ i among. there (place_at places among.0) i (are.stands among.0 (let h = among.1 in omega (arith, h, whole))) among.2)
    (λ i goes. (let at = back i goes in let found = are.all at.0 at.1 in let h = found.1 in (found.0, omega (arith, h, whole), subst (λ p. At p i) (sym found.2) at.2)))

-- the function of a place
abbrev pub IsOfPlace : Place → ℕ → Type 0
IsOfPlace p f = p.function ≡ f

pub functions_end : (P : Network) (x : ℕ) (places : List Place) (old new : Waiting) (n : ℕ) → ArePlaces P x places → n ≡ length places → ArePut old new (Among places IsOfPlace n) → ArePut old new (IsOn P x)
functions_end P x places old new n are whole put =
    places_end P x places old new n IsOfPlace (IsOn P x) are whole put
    (λ p f at e. subst (IsOn P x) e (p.place, at.place, at.is))
    (λ f on. (place_in P f on.0, stands_in P x f on.0 on.1 on.2, refl))

-- the function of a place at which x is not the lower one of two variables
abbrev pub IsUpperOf : ℕ → Place → ℕ → Type 0
IsUpperOf x p f = (p.function ≡ f) × (p.other ≤ x)

pub upper_put : (x : ℕ) (p : Place) (old new : Waiting) → p.other ≤ x → new ≡ with_item old p.function → ArePut old new (IsUpperOf x p)
upper_put x p old new up is =
    subst (λ queue. ArePut old queue (IsUpperOf x p)) (sym is)
    (put_same old (with_item old p.function) (λ f. p.function ≡ f) (IsUpperOf x p) (put_one old p.function) (λ f e. (e, up)) (λ f goes. goes.0))

pub lower_passed : (x : ℕ) (p : Place) (queue : Waiting) → x < p.other → ArePut queue queue (IsUpperOf x p)
lower_passed x p queue lower = put_none queue (IsUpperOf x p) (λ f goes. absurd (let up = goes.1 in omega (arith, up, lower)))

pub uppers_end : (P : Network) (x : ℕ) (places : List Place) (old new : Waiting) (n : ℕ) → ArePlaces P x places → n ≡ length places → ArePut old new (Among places (IsUpperOf x) n) → ArePut old new (IsUpper P x)
uppers_end P x places old new n are whole put =
    places_end P x places old new n (IsUpperOf x) (IsUpper P x) are whole put
    (λ p f at goes. subst (IsUpper P x) goes.0 (p.place, at.place, at.is, λ two. subst (λ y. y ≤ x) (at.other two) goes.1))
    (λ f upper. (let at = stands_in P x f upper.0 upper.1 upper.2 in (place_in P f upper.0, at, (refl, up at upper.3))))
  where
    up : {p : Place} → StandsAt P x p → (arity P p.function ≡ 2 → variable_at P p.function (1 - p.place) ≤ x) → p.other ≤ x
    up {p = p} at lower = elim (cases_eq (arity P p.function) 2) [
      | inl two ↦ subst (λ y. y ≤ x) (sym (at.other two)) (lower two)
      | inr more ↦ subst (λ y. p.other ≤ y) (at.alone more) (omega arith)
    ]

-- x stands at one of the first n places of f
abbrev pub IsWithin : Network → ℕ → ℕ → ℕ → Type 0
IsWithin P f n x = (i : ℕ) × (i < n) × (variable_at P f i ≡ x)

-- y is in the scope of the function of a place
abbrev pub IsBeside : Network → Place → ℕ → Type 0
IsBeside P p y = IsOn P y p.function

-- where x waits, and there are two variables, the other one is all that is to be put
pub other_put : (P : Network) (x : ℕ) (p : Place) (old new : Waiting) → StandsAt P x p → (p.other ≡ x → ⊥) → waits old x ≡ true → ArePut old new (λ y. p.other ≡ y) → ArePut old new (IsBeside P p)
other_put P x p old new at apart here put = record {
  size = put.size;
  behind = put.behind;
  put = λ y on. elim (cases_eq on.0 p.place) [
    | inl same ↦ stays old new (λ z. p.other ≡ z) y put (subst (λ z. waits old z ≡ true) (sym at.is ∙ ap (variable_at P p.function) (sym same) ∙ on.2) here)
    | inr other ↦ put.put y (at.other two ∙ ap (variable_at P p.function) (let h = on.1 in let l = at.place in omega (arith, h, l, two, other)) ∙ on.2)
  ];
  left = λ y off. put.left y (λ e. off (1 - p.place, omega (arith, two), sym (at.other two) ∙ e));
}
  where
    two : arity P p.function ≡ 2
    two = two_there P x p at apart

pub near_end : (P : Network) (x : ℕ) (places : List Place) (old first new : Waiting) (n : ℕ) → ArePlaces P x places → n ≡ length places → first ≡ with_item old x → ArePut first new (Among places (IsBeside P) n) → ArePut old new (IsNear P x)
near_end P x places old first new n are whole start put =
    put_then old first new (λ y. x ≡ y) (λ y. (f : ℕ) × IsOn P x f × IsOn P y f) (IsNear P x)
    (subst (λ queue. ArePut old queue (λ y. x ≡ y)) (sym start) (put_one old x))
    (places_end P x places first new n (IsBeside P) (λ y. (f : ℕ) × IsOn P x f × IsOn P y f) are whole put
    (λ p y at on. (p.function, (p.place, at.place, at.is), on))
    (λ y both. (let on = both.1 in (place_in P both.0 on.0, stands_in P x both.0 on.0 on.1 on.2, both.2))))
    (λ y near. near) (λ y e. inl e) (λ y both. inr both)
