-- Paths, marks and leaves can be told apart.
use Rattle.std.proofs.Common.{◌≡◌, ◌≢◌, ℕ, ◌<◌, ◌≤◌, ◌⊎◌, inl, inr, List, [], ◌∷◌, refl, sym, ap, ap₂, ◌∙◌, arith, if◌then◌else◌, ◌==◌}
use Rattle.std.proofs.lemmas.Bool.{cases_lt, cases_eq}
use Rattle.cfn_model.specs.declared.step.Step.TheVariants.{Project, Extend, Lift, CutValue, CutTuple}
use Rattle.cfn_model.specs.declared.step.Decision.TheVariants.{Is, Most}
use Rattle.cfn_model.specs.declared.step.Event.{Event}
use Rattle.cfn_model.specs.declared.step.Event.TheVariants.{Did, Took, Refused}
use Rattle.cfn_model.specs.Network.{Network}
use Rattle.cfn_model.specs.Sums.{floor}
use Rattle.cfn_model.specs.Steps.{after}
use Rattle.cfn_machine.specs.Pool.{Mark, Free, Out, PoolTree, Leaf, Shut, Fork, IsLeaf, behind, Replaced}

-- an event as numbers, and back
data Numbers : Type 0 where
  Five : (kind one two three four : ℕ) → Numbers

numbers_of : Event → Numbers
numbers_of (Did (Project f i a m)) = Five 0 f i a m
numbers_of (Did (Extend f i a m)) = Five 1 f i a m
numbers_of (Did (Lift x m)) = Five 2 x m 0 0
numbers_of (Did (CutValue x a)) = Five 3 x a 0 0
numbers_of (Did (CutTuple f c)) = Five 4 f c 0 0
numbers_of (Took (Is x a)) = Five 5 x a 0 0
numbers_of (Took (Most x v)) = Five 6 x v 0 0
numbers_of (Refused (Is x a)) = Five 7 x a 0 0
numbers_of (Refused (Most x v)) = Five 8 x v 0 0

event_of : Numbers → Event
event_of (Five kind one two three four) =
    if kind == 0 then Did (Project one two three four)
    else if kind == 1 then Did (Extend one two three four)
    else if kind == 2 then Did (Lift one two)
    else if kind == 3 then Did (CutValue one two)
    else if kind == 4 then Did (CutTuple one two)
    else if kind == 5 then Took (Is one two)
    else if kind == 6 then Took (Most one two)
    else if kind == 7 then Refused (Is one two)
    else Refused (Most one two)

there_and_back : (e : Event) → event_of (numbers_of e) ≡ e
unfolding numbers_of event_of
there_and_back (Did (Project f i a m)) = refl
there_and_back (Did (Extend f i a m)) = refl
there_and_back (Did (Lift x m)) = refl
there_and_back (Did (CutValue x a)) = refl
there_and_back (Did (CutTuple f c)) = refl
there_and_back (Took (Is x a)) = refl
there_and_back (Took (Most x v)) = refl
there_and_back (Refused (Is x a)) = refl
there_and_back (Refused (Most x v)) = refl

first_same : {a b c d e v w x y z : ℕ} → Five a b c d e ≡ Five v w x y z → (a ≡ v) × (b ≡ w) × (c ≡ x) × (d ≡ y) × (e ≡ z)
first_same h = ((cc), (cc), (cc), (cc), (cc))

same_numbers : (m n : Numbers) → (m ≡ n) ⊎ (m ≢ n)
same_numbers (Five a b c d e) (Five v w x y z) = elim (cases_eq a v) [
  | inr other ↦ inr (λ same. other (first_same same).0)
  | inl kinds ↦ elim (cases_eq b w) [
    | inr other ↦ inr (λ same. other (first_same same).1)
    | inl ones ↦ elim (cases_eq c x) [
      | inr other ↦ inr (λ same. other (first_same same).2)
      | inl twos ↦ elim (cases_eq d y) [
        | inr other ↦ inr (λ same. other (first_same same).3)
        | inl threes ↦ elim (cases_eq e z) [
          | inr other ↦ inr (λ same. other (first_same same).4)
          | inl fours ↦ inl (cc)
        ]
      ]
    ]
  ]
]

same_event : (d e : Event) → (d ≡ e) ⊎ (d ≢ e)
same_event d e = elim (same_numbers (numbers_of d) (numbers_of e)) [
  | inl same ↦ inl (sym (there_and_back d) ∙ ap event_of same ∙ there_and_back e)
  | inr other ↦ inr (λ same. other (ap numbers_of same))
]

head_same : {d e : Event} {g h : List Event} → d ∷ g ≡ e ∷ h → d ≡ e
head_same h = cc

tail_same : {d e : Event} {g h : List Event} → d ∷ g ≡ e ∷ h → g ≡ h
tail_same h = cc

same_path : (g h : List Event) → (g ≡ h) ⊎ (g ≢ h)
same_path [] [] = inl refl
same_path [] (e ∷ h) = inr (λ same. (cc))
same_path (d ∷ g) [] = inr (λ same. (cc))
same_path (d ∷ g) (e ∷ h) = elim (same_event d e) [
  | inr other ↦ inr (λ same. other (head_same same))
  | inl heads ↦ elim (same_path g h) [ inr other ↦ inr (λ same. other (tail_same same)) | inl tails ↦ inl (ap₂ (λ x y. x ∷ y) heads tails) ]
]

out_worker : {a b c d : ℕ} → Out a b ≡ Out c d → a ≡ c
out_worker h = cc

out_grant : {a b c d : ℕ} → Out a b ≡ Out c d → b ≡ d
out_grant h = cc

same_mark : (m k : Mark) → (m ≡ k) ⊎ (m ≢ k)
same_mark Free Free = inl refl
same_mark Free (Out w g) = inr (λ same. (cc))
same_mark (Out w g) Free = inr (λ same. (cc))
same_mark (Out w g) (Out v h) = elim (cases_eq w v) [
  | inr other ↦ inr (λ same. other (out_worker same))
  | inl workers ↦ elim (cases_eq g h) [ inr other ↦ inr (λ same. other (out_grant same)) | inl grants ↦ inl (ap₂ Out workers grants) ]
]

-- whether a leaf is there, on some path and on this one
pub find_some : (tree : PoolTree) (history : List Event) (n : ℕ) (mark : Mark) →
    ((path : List Event) × IsLeaf tree history n mark path) ⊎ ((path : List Event) → IsLeaf tree history n mark path → ⊥)
find_some (Leaf number m block) history n mark = elim (cases_eq number n) [
  | inr other ↦ inr (λ path at. other at.0)
  | inl numbers ↦ elim (same_mark m mark) [ inr other ↦ inr (λ path at. other at.1) | inl marks ↦ inl (after block history, (numbers, marks, refl)) ]
]
find_some (Shut block) history n mark = inr (λ path at. at)
find_some (Fork block d first second) history n mark = elim (find_some first (Took d ∷ after block history) n mark) [
  | inl here ↦ inl (here.0, inl here.1)
  | inr none ↦ elim (find_some second (Refused d ∷ after block history) n mark) [
    | inl here ↦ inl (here.0, inr here.1)
    | inr never ↦ inr (λ path at. elim at [ inl here ↦ none path here | inr here ↦ never path here ])
  ]
]

pub find_this : (tree : PoolTree) (history : List Event) (n : ℕ) (mark : Mark) (path : List Event) → IsLeaf tree history n mark path ⊎ (IsLeaf tree history n mark path → ⊥)
find_this (Leaf number m block) history n mark path = elim (cases_eq number n) [
  | inr other ↦ inr (λ at. other at.0)
  | inl numbers ↦ elim (same_mark m mark) [
    | inr other ↦ inr (λ at. other at.1)
    | inl marks ↦ elim (same_path path (after block history)) [ inr other ↦ inr (λ at. other at.2) | inl paths ↦ inl (numbers, marks, paths) ]
  ]
]
find_this (Shut block) history n mark path = inr (λ at. at)
find_this (Fork block d first second) history n mark path = elim (find_this first (Took d ∷ after block history) n mark path) [
  | inl here ↦ inl (inl here)
  | inr none ↦ elim (find_this second (Refused d ∷ after block history) n mark path) [
    | inl here ↦ inl (inr here)
    | inr never ↦ inr (λ at. elim at [ inl here ↦ none here | inr here ↦ never here ])
  ]
]

-- another tree can take the place of a leaf
pub can_replace : (place tree : PoolTree) (history : List Event) (n : ℕ) (mark : Mark) (path : List Event) → IsLeaf tree history n mark path →
    (new : PoolTree) × Replaced tree history n mark path place new
can_replace place (Leaf number m block) history n mark path at = (behind block place, (at.0, at.1, at.2, refl))
can_replace place (Shut block) history n mark path at = absurd at
can_replace place (Fork block d first second) history n mark path (inl at) =
    let below = can_replace place first (Took d ∷ after block history) n mark path at in (Fork block d below.0 second, inl (below.0, below.1, refl))
can_replace place (Fork block d first second) history n mark path (inr at) =
    let below = can_replace place second (Refused d ∷ after block history) n mark path at in (Fork block d first below.0, inr (below.0, below.1, refl))

-- one free leaf goes before another: its floor is less, or its number where the floors are equal
abbrev pub Precedes : Network → ℕ → List Event → ℕ → List Event → Type 0
Precedes P n path m other = (floor P path < floor P other) ⊎ ((floor P path ≡ floor P other) × (n ≤ m))

pub record IsFirstOf (P : Network) (tree : PoolTree) (history : List Event) (n : ℕ) (path : List Event) : Type 0 where
  pub leaf : IsLeaf tree history n Free path
  pub first : (m : ℕ) (other : List Event) → IsLeaf tree history m Free other → Precedes P n path m other

precedes_total : (P : Network) (n m : ℕ) (path other : List Event) → Precedes P n path m other ⊎ Precedes P m other n path
precedes_total P n m path other = elim (cases_lt (floor P path) (floor P other)) [
  | inl less ↦ inl (inl less)
  | inr more ↦ elim (cases_eq (floor P path) (floor P other)) [
    | inr different ↦ inr (inl (omega arith))
    | inl same ↦ elim (cases_lt n m) [ inl low ↦ inl (inr (same, omega arith)) | inr high ↦ inr (inr (sym same, high)) ]
  ]
]

pub precedes_then : (P : Network) (n m l : ℕ) (path other last : List Event) → Precedes P n path m other → Precedes P m other l last → Precedes P n path l last
precedes_then P n m l path other last (inl h) (inl k) = inl (omega arith)
precedes_then P n m l path other last (inl h) (inr k) = inl (omega (arith, k.0))
precedes_then P n m l path other last (inr h) (inl k) = inl (omega (arith, h.0))
precedes_then P n m l path other last (inr h) (inr k) = inr (h.0 ∙ k.0, omega (arith, h.1, k.1))

pub find_first : (P : Network) (tree : PoolTree) (history : List Event) →
    ((n : ℕ) × (path : List Event) × IsFirstOf P tree history n path) ⊎ ((n : ℕ) (path : List Event) → IsLeaf tree history n Free path → ⊥)
find_first P (Leaf number Free block) history = inl (
  number,
  after block history,
  record {
    leaf = (refl, refl, refl);
    first = λ m other at. inr (ap (floor P) (sym at.2), omega (arith, at.0));
  },
)
find_first P (Leaf number (Out w g) block) history = inr (λ n path at. (let e = at.1 in cc))
find_first P (Shut block) history = inr (λ n path at. at)
find_first P (Fork block d first second) history = elim (find_first P first (Took d ∷ after block history)) [
  | inr none ↦ elim (find_first P second (Refused d ∷ after block history)) [
    | inr never ↦ inr (λ n path at. elim at [ inl here ↦ none n path here | inr here ↦ never n path here ])
    | inl there ↦ inl (
      there.0,
      there.1,
      record {
        leaf = inr there.2.leaf;
        first = λ m other at. elim at [ inl here ↦ absurd (none m other here) | inr here ↦ there.2.first m other here ];
      },
    )
  ]
  | inl here ↦ elim (find_first P second (Refused d ∷ after block history)) [
    | inr never ↦ inl (
      here.0,
      here.1,
      record {
        leaf = inl here.2.leaf;
        first = λ m other at. elim at [ inl in_first ↦ here.2.first m other in_first | inr in_second ↦ absurd (never m other in_second) ];
      },
    )
    | inl there ↦ elim (precedes_total P here.0 there.0 here.1 there.1) [
      | inl before ↦ inl (
        here.0,
        here.1,
        record {
          leaf = inl here.2.leaf;
          first = λ m other at. elim at [ inl in_first ↦ here.2.first m other in_first | inr in_second ↦ precedes_then P here.0 there.0 m here.1 there.1 other before (there.2.first m other in_second) ];
        },
      )
      | inr behind ↦ inl (
        there.0,
        there.1,
        record {
          leaf = inr there.2.leaf;
          first = λ m other at. elim at [ inl in_first ↦ precedes_then P there.0 here.0 m there.1 here.1 other behind (here.2.first m other in_first) | inr in_second ↦ there.2.first m other in_second ];
        },
      )
    ]
  ]
]
