-- The pass of cuts.
use Rattle.std.proofs.Common.{◌⊎◌, ◌≡◌, ℕ, ◌+◌, ◌<◌, ◌≤◌, inl, inr, List, [], ◌∷◌, length, length-append, refl, sym, ap, ◌∙◌, subst, arith}
use Rattle.std.proofs.lemmas.Bool.{cases_eq}
use Rattle.std.proofs.lemmas.Int.{ints}
use Rattle.std.specs.Prelude.{ℤ, pos, ◌+ℤ◌, ◌≤ℤ◌, ◌<ℤ◌, ◌==◌, ◌&&◌, not, Bool, true, false, IsTrue, slice_index}
use Rattle.cfn_model.specs.declared.step.Step.TheVariants.{CutValue}
use Rattle.cfn_model.specs.declared.step.Event.{Event}
use Rattle.cfn_model.specs.declared.step.Event.TheVariants.{Did}
use Rattle.cfn_model.specs.Network.{Network}
use Rattle.cfn_model.specs.Sums.{floor, unary, is_live}
use Rattle.cfn_model.specs.Steps.{IsValue}
use Rattle.cfn_model.proofs.CallerLemmas.{eqb_same, eqb_other, fewer}
use Rattle.cfn_consistency.specs.Consistency.{IsDead, IsFree, IsNodeConsistent}
use Rattle.cfn_store.specs.Standing.{Standing, history, with_step}
use Rattle.cfn_gain.specs.Passes.{IsLifting, IsEarlier, IsCutting}
use Rattle.cfn_gain.proofs.Stepping.{history_step, adds_step}
use Rattle.cfn_gain.proofs.Lifting.{not_dead}

-- the pass begins where the lifts ended
pub begin_cuts : (before s : Standing) (k limit lacks : ℕ) → IsLifting before s k limit (length s.network.sizes) → floor s.network (history s) + lacks ≡ k → IsCutting before s k limit lacks 0 0
begin_cuts before s k limit lacks l sum = record {
  adds = l.adds;
  room = l.room;
  sum = sum;
  some = omega (arith, sum, l.below);
  free = l.free;
  less = λ y b value earlier live. none y b earlier;
}
  where
    none : {A : Type 0} (y b : ℕ) → IsEarlier y b 0 0 → A
    none y b (inl h) = absurd (omega (arith, h))
    none y b (inr h) = absurd (omega (arith, h.1))

-- a value that is not live, or costs less, stays
earlier_or_here : (y b x a : ℕ) → IsEarlier y b x (a + 1) → (IsEarlier y b x a) ⊎ ((y ≡ x) × (b ≡ a))
earlier_or_here y b x a (inl h) = inl (inl h)
earlier_or_here y b x a (inr h) = elim (cases_eq b a) [
  | inl same ↦ inr (h.0, same)
  | inr other ↦ inl (inr (h.0, omega (arith, h.1, other)))
]

pub keep : (before s : Standing) (k limit lacks x a : ℕ) → IsCutting before s k limit lacks x a → (IsTrue (is_live (history s) x a) → unary s.network (history s) x a <ℤ pos lacks) → IsCutting before s k limit lacks x (a + 1)
keep before s k limit lacks x a c here = record {
  adds = c.adds;
  room = c.room;
  sum = c.sum;
  some = c.some;
  free = c.free;
  less = λ y b value earlier live. by_place y b value (earlier_or_here y b x a earlier) live;
}
  where
    by_place : (y b : ℕ) → IsValue s.network y b → (IsEarlier y b x a) ⊎ ((y ≡ x) × (b ≡ a)) → IsTrue (is_live (history s) y b) → unary s.network (history s) y b <ℤ pos lacks
    by_place y b value (inl earlier) live = c.less y b value earlier live
    by_place y b value (inr same) live =
        let e = ap (λ z. is_live (history s) z b) same.0 ∙ ap (is_live (history s) x) same.1 in
        let u = ap (λ z. unary s.network (history s) z b) same.0 ∙ ap (unary s.network (history s) x) same.1 in
        subst (λ z. z <ℤ pos lacks) (sym u) (here (sym e ∙ live))

reaches : (n lacks k : ℕ) (u : ℤ) → n + lacks ≡ k → pos lacks ≤ℤ u → pos k ≤ℤ (pos n +ℤ u)
reaches n lacks k u sum le = omega (arith, ints, le, sum)

same_cost : (P : Network) (history : List Event) (x a y b : ℕ) → unary P (Did (CutValue x a) ∷ history) y b ≡ unary P history y b
same_cost P history x a y b = omega (arith, ints)

-- a value that is not the one that is cut stays live
stays : (history : List Event) (x a y b : ℕ) → ((x ≡ y) → (a ≡ b) → ⊥) → is_live history y b ≡ true → is_live (Did (CutValue x a) ∷ history) y b ≡ true
stays history x a y b other live = elim (cases_eq x y) [
  | inl same ↦ (let e = eqb_other a b (other same) in ap (λ t. not ((x == y) && t) && is_live history y b) e ∙ ap (λ t. not t && is_live history y b) (and_false (x == y)) ∙ live)
  | inr apart ↦ ap (λ t. not (t && (a == b)) && is_live history y b) (eqb_other x y apart) ∙ live
]
  where
    and_false : (t : Bool) → (t && false) ≡ false
    and_false true = refl
    and_false false = refl

gone : (history : List Event) (x a : ℕ) → is_live (Did (CutValue x a) ∷ history) x a ≡ true → ⊥
gone history x a live = absurd (let e : is_live (Did (CutValue x a) ∷ history) x a ≡ false = ap (λ t. not (t && (a == a)) && is_live history x a) (eqb_same x x refl) ∙ ap (λ t. not (true && t) && is_live history x a) (eqb_same a a refl) in let f : true ≡ false = sym live ∙ e in cc)

costs_apart : (u : ℤ) (lacks : ℕ) → 0 < lacks → pos lacks ≤ℤ u → u ≡ pos 0 → ⊥
costs_apart u lacks some le none = absurd (omega (arith, ints, le, none))

pub cut_one : (before s : Standing) (k limit lacks x a : ℕ) → IsCutting before s k limit lacks x a → IsValue s.network x a → IsTrue (is_live (history s) x a) → pos lacks ≤ℤ unary s.network (history s) x a → length s.block < limit → IsCutting before (with_step s (CutValue x a)) k limit lacks x (a + 1)
cut_one before s k limit lacks x a c value live reached less =
    let P = s.network in
    let is = sym (history_step s (CutValue x a)) in
    let longer = length-append s.block (CutValue x a ∷ []) in
    record {
      adds = adds_step before s k limit (CutValue x a) c.adds (value, reaches (floor P (history s)) lacks k (unary P (history s) x a) c.sum reached) live less (omega (arith, c.room, less));
      room = omega (arith, c.room, less, longer);
      sum = subst (λ h. floor P h + lacks ≡ k) is (omega (arith, c.sum));
      some = c.some;
      free = λ y h. subst (λ late. (b : ℕ) × IsFree P late y b) is (free_after y h);
      less = λ y b other earlier. subst (λ late. IsTrue (is_live late y b) → unary P late y b <ℤ pos lacks) is (less_after y b other (earlier_or_here y b x a earlier));
    }
  where
    free_after : (y : ℕ) → y < length s.network.sizes → (b : ℕ) × IsFree s.network (Did (CutValue x a) ∷ history s) y b
    free_after y h =
        let f = c.free y h in
        let other : x ≡ y → a ≡ f.0 → ⊥ = λ same equal.
        (let u = ap (λ z. unary s.network (history s) z a) same ∙ ap (unary s.network (history s) y) equal in
        costs_apart (unary s.network (history s) x a) lacks c.some reached (u ∙ f.1.free)) in
        (f.0, record { value = f.1.value; live = stays (history s) x a y f.0 other f.1.live; free = same_cost s.network (history s) x a y f.0 ∙ f.1.free })

    less_after : (y b : ℕ) → IsValue s.network y b → (IsEarlier y b x a) ⊎ ((y ≡ x) × (b ≡ a)) → IsTrue (is_live (Did (CutValue x a) ∷ history s) y b) → unary s.network (Did (CutValue x a) ∷ history s) y b <ℤ pos lacks
    less_after y b other (inl earlier) still =
        subst (λ z. z <ℤ pos lacks) (sym (same_cost s.network (history s) x a y b)) (c.less y b other earlier (fewer (Did (CutValue x a)) (history s) y b still))
    less_after y b other (inr same) still =
        absurd (gone (history s) x a (sym (ap (λ z. is_live (Did (CutValue x a) ∷ history s) z b) same.0 ∙ ap (is_live (Did (CutValue x a) ∷ history s) x) same.1) ∙ still))

pub next_variable : (before s : Standing) (k limit lacks x : ℕ) → IsCutting before s k limit lacks x (slice_index s.network.sizes x) → IsCutting before s k limit lacks (x + 1) 0
next_variable before s k limit lacks x c = record {
  adds = c.adds;
  room = c.room;
  sum = c.sum;
  some = c.some;
  free = c.free;
  less = λ y b value earlier live. c.less y b value (back y b value earlier) live;
}
  where
    back : (y b : ℕ) → IsValue s.network y b → IsEarlier y b (x + 1) 0 → IsEarlier y b x (slice_index s.network.sizes x)
    back y b value (inl h) = elim (cases_eq y x) [
      | inl same ↦ inr (same, subst (λ z. b < slice_index s.network.sizes z) same value.value)
      | inr other ↦ inl (omega (arith, h, other))
    ]
    back y b value (inr h) = absurd (omega (arith, h.1))

stays_below : (n lacks k : ℕ) (u : ℤ) → n + lacks ≡ k → u <ℤ pos lacks → (pos n +ℤ u) <ℤ pos k
stays_below n lacks k u sum h = omega (arith, ints, h, sum)

pub all_cut : (before s : Standing) (k limit lacks : ℕ) → IsCutting before s k limit lacks (length s.network.sizes) 0 → IsNodeConsistent s.network (history s) k
all_cut before s k limit lacks c = record {
  below = λ x a value live. stays_below (floor s.network (history s)) lacks k (unary s.network (history s) x a) c.sum (c.less x a value (inl value.variable) live);
  free = c.free;
}

not_below : (n lacks k : ℕ) (u : ℤ) → n + lacks ≡ k → pos lacks ≤ℤ u → (pos n +ℤ u) <ℤ pos k → ⊥
not_below n lacks k u sum le h = absurd (omega (arith, ints, le, sum, h))

-- where there is no room for a cut that is due, the store is neither consistent nor dead
pub cut_due : (before s : Standing) (k limit lacks x a : ℕ) → IsCutting before s k limit lacks x a → IsValue s.network x a → IsTrue (is_live (history s) x a) → pos lacks ≤ℤ unary s.network (history s) x a → limit ≤ length s.block
    → (limit ≤ length s.block) × (IsNodeConsistent s.network (history s) k → ⊥) × (IsDead s.network (history s) k → ⊥)
cut_due before s k limit lacks x a c value live reached long =
    (long, (λ nodes. not_below (floor s.network (history s)) lacks k (unary s.network (history s) x a) c.sum reached (nodes.below x a value live)), not_dead s.network (history s) k (omega (arith, c.sum, c.some)) (λ y h. (let f = c.free y h in record { value = f.0; is = f.1.value; live = f.1.live })))

-- what the code reads, as the definitions say it
pub value_is : (P Q : Network) (x a n m : ℕ) → P ≡ Q → x < n → n ≡ length Q.sizes → a < m → m ≡ slice_index Q.sizes x → IsValue P x a
value_is P Q x a n m same h is k size = subst (λ R. IsValue R x a) (sym same) (record { variable = omega (arith, h, is); value = omega (arith, k, size) })

pub word_reaches : (lacks n : ℕ) (u : ℤ) → lacks ≤ n → pos n ≡ u → pos lacks ≤ℤ u
word_reaches lacks n u h is = omega (arith, ints, h, is)

pub word_less : (lacks n : ℕ) (u : ℤ) → n < lacks → pos n ≡ u → u <ℤ pos lacks
word_less lacks n u h is = omega (arith, ints, h, is)

pub dead_costs_nothing : {A : Type 0} (b : Bool) → b ≡ false → b ≡ true → A
dead_costs_nothing true h k = absurd cc
dead_costs_nothing false h k = absurd cc
