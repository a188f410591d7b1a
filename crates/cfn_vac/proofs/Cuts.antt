-- What cuts of values leave: costs, what is cut of tuples, and each value that is not among them.
use Rattle.std.proofs.Common.{◌≡◌, ℕ, suc, ◌+◌, ◌<◌, ◌≤◌, inl, inr, List, [], ◌∷◌, length, Bool, true, false, not, ◌&&◌, refl, sym, ap, ◌∙◌, arith}
use Rattle.std.proofs.lemmas.Int.{ints}
use Rattle.std.proofs.lemmas.Bool.{cases_eq}
use Rattle.std.specs.Prelude.{slice_index, ◌==◌, ℤ, pos, ◌+ℤ◌, IsTrue, nat_lt, if◌then◌else◌}
use Rattle.cfn_model.specs.declared.step.Step.TheVariants.{CutValue}
use Rattle.cfn_model.specs.declared.step.Event.{Event}
use Rattle.cfn_model.specs.declared.step.Event.TheVariants.{Did}
use Rattle.cfn_model.specs.Network.{Network, cell, dims_at, arity, scope_at, variable_at, entry_at}
use Rattle.cfn_model.specs.Sums.{residual, is_live, is_live_tuple, all_live, is_cut}
use Rattle.cfn_model.proofs.CallerLemmas.{eqb_same, eqb_other}
use Rattle.cfn_consistency.specs.declared.deletion.Deletion.{Deletion}
use Rattle.cfn_consistency.specs.Virtual.{without, Deletes}

-- two histories have the same costs and cut tuples
pub record IsLike (P : Network) (one other : List Event) : Type 0 where
  pub costs : (f : ℕ) (tuple : List ℕ) → residual P one f tuple ≡ residual P other f tuple
  pub cuts : (f c : ℕ) → is_cut one f c ≡ is_cut other f c

pub like_same : (P : Network) (one : List Event) → IsLike P one one
like_same P one = record { costs = λ f tuple. refl; cuts = λ f c. refl }

nothing : (z : ℤ) → (pos 0 +ℤ z) ≡ z
nothing z = omega (arith, ints)

pub like_cut : (P : Network) (one other : List Event) (x a : ℕ) → IsLike P one other → IsLike P (Did (CutValue x a) ∷ one) other
like_cut P one other x a like = record { costs = λ f tuple. nothing (residual P one f tuple) ∙ like.costs f tuple; cuts = λ f c. like.cuts f c }

pub like_without : (P : Network) (deletions : List Deletion) (now history : List Event) → IsLike P now history → IsLike P (without deletions now) history
like_without P [] now history like = like
like_without P (d ∷ deletions) now history like = like_without P deletions (Did (CutValue d.variable d.value) ∷ now) history (like_cut P now history d.variable d.value like)

-- a value that is live behind a cut was live before it, and is another; and one that is another stays live
both : (a b : Bool) → (a && b) ≡ true → (a ≡ true) × (b ≡ true)
both true true e = (refl, refl)
both true false e = absurd cc
both false b e = absurd cc

live_if : (a b : Bool) → a ≡ false → b ≡ true → (not a && b) ≡ true
live_if a b e l = rw e (rw l refl)

apart_if : (x a y b : ℕ) → ((x ≡ y) → (a ≡ b) → ⊥) → ((x == y) && (a == b)) ≡ false
apart_if x a y b h = elim (cases_eq x y) [
  | inl e ↦ rw (eqb_same x y e) (rw (eqb_other a b (h e)) refl)
  | inr d ↦ rw (eqb_other x y d) refl
]

gone_if : (x a y b : ℕ) (l : Bool) → x ≡ y → a ≡ b → (not ((x == y) && (a == b)) && l) ≡ false
gone_if x a y b l e d = rw (eqb_same x y e) (rw (eqb_same a b d) refl)

pub live_before : (history : List Event) (x a y b : ℕ) → is_live (Did (CutValue x a) ∷ history) y b ≡ true → is_live history y b ≡ true
live_before history x a y b live = (both (not ((x == y) && (a == b))) (is_live history y b) live).1

pub live_still : (history : List Event) (x a y b : ℕ) → is_live history y b ≡ true → ((x ≡ y) → (a ≡ b) → ⊥) → is_live (Did (CutValue x a) ∷ history) y b ≡ true
live_still history x a y b live apart = live_if ((x == y) && (a == b)) (is_live history y b) (apart_if x a y b apart) live

pub dead_now : (history : List Event) (x a y b : ℕ) → x ≡ y → a ≡ b → is_live (Did (CutValue x a) ∷ history) y b ≡ false
dead_now history x a y b e d = gone_if x a y b (is_live history y b) e d

-- what is live without deletions is none of them, and what is none of them stays live
pub live_without : (deletions : List Deletion) (history : List Event) (y b : ℕ) → is_live history y b ≡ true → (Deletes deletions y b → ⊥) → is_live (without deletions history) y b ≡ true
live_without [] history y b live none = live
live_without (d ∷ deletions) history y b live none =
    live_without deletions (Did (CutValue d.variable d.value) ∷ history) y b
    (live_still history d.variable d.value y b live (λ e f. none (inl (e, f)))) (λ more. none (inr more))

pub live_is_before : (deletions : List Deletion) (history : List Event) (y b : ℕ) → is_live (without deletions history) y b ≡ true → is_live history y b ≡ true
live_is_before [] history y b live = live
live_is_before (d ∷ deletions) history y b live =
    live_before history d.variable d.value y b (live_is_before deletions (Did (CutValue d.variable d.value) ∷ history) y b live)

pub never : (b : Bool) → b ≡ true → b ≡ false → ⊥
never true e d = cc
never false e d = cc

pub live_is_none : (deletions : List Deletion) (history : List Event) (y b : ℕ) → is_live (without deletions history) y b ≡ true → Deletes deletions y b → ⊥
live_is_none [] history y b live is = is
live_is_none (d ∷ deletions) history y b live (inl is) =
    never (is_live (Did (CutValue d.variable d.value) ∷ history) y b) (live_is_before deletions (Did (CutValue d.variable d.value) ∷ history) y b live) (dead_now history d.variable d.value y b is.0 is.1)
live_is_none (d ∷ deletions) history y b live (inr is) = live_is_none deletions (Did (CutValue d.variable d.value) ∷ history) y b live is

-- a tuple whose values stay live stays live
all_live_then : (one other : List Event) (scope tuple : List ℕ) → all_live one scope tuple ≡ true
    → ((j : ℕ) → j < length scope → is_live one (slice_index scope j) (slice_index tuple j) ≡ true → is_live other (slice_index scope j) (slice_index tuple j) ≡ true) → all_live other scope tuple ≡ true
all_live_then one other [] tuple live each = refl
all_live_then one other (x ∷ scope) [] live each = refl
all_live_then one other (x ∷ scope) (a ∷ tuple) live each =
    let l = both (is_live one x a) (all_live one scope tuple) live in
    two (is_live other x a) (all_live other scope tuple) (each 0 (omega arith) l.0) (all_live_then one other scope tuple l.1 (λ j h. each (suc j) (omega (arith, h))))
  where
    two : (p q : Bool) → p ≡ true → q ≡ true → (p && q) ≡ true
    two p q e d = rw e (rw d refl)

pub tuple_then : (P : Network) (one other : List Event) (f : ℕ) (tuple : List ℕ) → IsLike P other one → IsTrue (is_live_tuple P one f tuple)
    → ((j : ℕ) → j < arity P f → is_live one (variable_at P f j) (slice_index tuple j) ≡ true → is_live other (variable_at P f j) (slice_index tuple j) ≡ true) → IsTrue (is_live_tuple P other f tuple)
tuple_then P one other f tuple like live each =
    let below = nat_lt (entry_at P f tuple) P.upper in
    let c = cell (dims_at P f) tuple in
    let first = both (all_live one (scope_at P f) tuple && below) (not (is_cut one f c)) live in
    let second = both (all_live one (scope_at P f) tuple) below first.0 in
    three (all_live other (scope_at P f) tuple) below (is_cut other f c) (all_live_then one other (scope_at P f) tuple second.0 each) second.1 (ap not (like.cuts f c) ∙ first.1)
  where
    three : (p q r : Bool) → p ≡ true → q ≡ true → not r ≡ true → ((p && q) && not r) ≡ true
    three p q r e d g = rw e (rw d (rw g refl))

-- how many deletions have a live value
abbrev pub one : Bool → ℕ
one live = if live then 1 else 0

abbrev pub live_in : List Deletion → List Event → ℕ
live_in [] history = 0
live_in (d ∷ deletions) history = one (is_live history d.variable d.value) + live_in deletions history

fewer_one : (gone live : Bool) → one (not gone && live) ≤ one live
fewer_one true true = omega arith
fewer_one true false = omega arith
fewer_one false true = omega arith
fewer_one false false = omega arith

one_most : (live : Bool) → one live ≤ 1
one_most true = omega arith
one_most false = omega arith

pub live_most : (deletions : List Deletion) (history : List Event) → live_in deletions history ≤ length deletions
live_most [] history = omega arith
live_most (d ∷ deletions) history = let r = live_most deletions history in let o = one_most (is_live history d.variable d.value) in omega (arith, r, o)

pub live_fewer : (deletions : List Deletion) (history : List Event) (x a : ℕ) → live_in deletions (Did (CutValue x a) ∷ history) ≤ live_in deletions history
live_fewer [] history x a = omega arith
live_fewer (d ∷ deletions) history x a =
    let r = live_fewer deletions history x a in let o = fewer_one ((x == d.variable) && (a == d.value)) (is_live history d.variable d.value) in omega (arith, r, o)

pub live_less : (deletions : List Deletion) (history : List Event) (x a : ℕ) → Deletes deletions x a → is_live history x a ≡ true → live_in deletions (Did (CutValue x a) ∷ history) < live_in deletions history
live_less [] history x a is live = absurd is
live_less (d ∷ deletions) history x a (inl is) live =
    let r = live_fewer deletions history x a in
    let here : one (is_live history d.variable d.value) ≡ one true = ap one (ap (λ v. is_live history v d.value) is.0 ∙ ap (is_live history x) is.1 ∙ live) in
    let gone : one (is_live (Did (CutValue x a) ∷ history) d.variable d.value) ≡ one false = ap one (dead_now history x a d.variable d.value (sym is.0) (sym is.1)) in
    omega (arith, r, here, gone)
live_less (d ∷ deletions) history x a (inr is) live =
    let r = live_less deletions history x a is live in let o = fewer_one ((x == d.variable) && (a == d.value)) (is_live history d.variable d.value) in omega (arith, r, o)
