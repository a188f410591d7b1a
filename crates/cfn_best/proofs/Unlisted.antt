-- No assignment that is not listed has a listed leaf of its own: so it costs at least the lower bound.
use Rattle.std.proofs.Common.{◌≡◌, ℕ, zero, suc, ◌<◌, ◌≤◌, inl, inr, true, false, List, [], ◌∷◌, length, refl, sym, ap₂, ◌∙◌, arith, min, eqb-true}
use Rattle.std.proofs.lemmas.Bool.{cases_Bool, eqb-false}
use Rattle.std.specs.Prelude.{slice_index, IsTrue, IsFalse, ◌==◌}
use Rattle.std.specs.List.{AllByRecursion}
use Rattle.cfn_model.specs.declared.step.Decision.TheVariants.{Is}
use Rattle.cfn_model.specs.declared.step.Event.{Event}
use Rattle.cfn_model.specs.declared.step.Event.TheVariants.{Took, Refused}
use Rattle.cfn_model.specs.Network.{Network, IsNetwork, Fits, cost}
use Rattle.cfn_model.specs.Decisions.{holds}
use Rattle.cfn_model.specs.Sums.{floor, is_live}
use Rattle.cfn_model.specs.Steps.{after}
use Rattle.cfn_model.specs.Tree as trees
use Rattle.cfn_model.specs.Tree.{Tree, IsOpen, IsWiped, leaf, leaf_history, Valid}
use Rattle.cfn_model.specs.Certificate.{Solution, IsSolution}
use Rattle.cfn_model.proofs.CallerLemmas.{each_leaf, eqb_same, fits_at}
use Rattle.cfn_best.specs.Tree.{ListTree, Open, Closed, Listed, Split, solution_at, IsLeafOf, IsValid, bound}
use Rattle.cfn_best.specs.List.{ListCertificate, last_cost, threshold_of, GoodList}
use Rattle.cfn_best.specs.Laws.{IsNotIn, OthersCostMore}

-- what holds of each assignment of a list
pub all_at : (Q : Solution → Type 0) (list : List Solution) (j : ℕ) → AllByRecursion Q list → j < length list → Q (solution_at list j)
all_at Q [] j all lt = absurd (omega arith)
all_at Q (s ∷ list) zero all lt = all.0
all_at Q (s ∷ list) (suc j) all lt = all_at Q list j all.1 (omega arith)

-- a place in which two assignments differ
apart : (sizes v w : List ℕ) → Fits sizes v → Fits sizes w → (v ≡ w → ⊥) → (x : ℕ) × (x < length sizes) × (slice_index v x ≡ slice_index w x → ⊥)
apart [] [] [] fv fw other = absurd (other refl)
apart [] [] (b ∷ w) fv fw other = absurd fw
apart [] (a ∷ v) w fv fw other = absurd fv
apart (s ∷ sizes) [] w fv fw other = absurd fv
apart (s ∷ sizes) (a ∷ v) [] fv fw other = absurd fw
apart (s ∷ sizes) (a ∷ v) (b ∷ w) fv fw other =
    elim (cases_Bool (a == b)) [
      | inl same ↦ let more = apart sizes v w fv.1 fw.1 (λ e. other (ap₂ (λ x xs. x ∷ xs) (eqb-true a b same) e)) in (suc more.0, omega (arith, more.1), more.2)
      | inr unequal ↦ (0, omega arith, eqb-false a b unequal)
    ]

-- the bound is at most the threshold
pub bound_low : (P : Network) (history : List Event) (tree : ListTree) (k : ℕ) → bound P history tree k ≤ k
bound_low P history (Open block) k = omega arith
bound_low P history (Closed block) k = omega arith
bound_low P history (Listed block j) k = omega arith
bound_low P history (Split block d first second) k = let l = bound_low P (Took d ∷ after block history) first k in omega (arith, l)

-- where only the values of a listed assignment are live, one decision for another assignment leaves a variable no live value
wiped : (P : Network) (list : List Solution) (history : List Event) (j : ℕ) (values : List ℕ) (x : ℕ) → IsLeafOf P list history j → x < length P.sizes
    → (slice_index values x ≡ slice_index (solution_at list j).values x → ⊥) → IsWiped P (Took (Is x (slice_index values x)) ∷ history)
wiped P list history j values x at lt other = (x, lt, dead)
  where
    dead : (a : ℕ) → a < slice_index P.sizes x → IsFalse (is_live (Took (Is x (slice_index values x)) ∷ history) x a)
    dead a below =
        elim (cases_Bool (slice_index values x == a)) [
          | inl same ↦ elim (cases_Bool (is_live history x a)) [
            | inl live ↦ absurd (other (eqb-true (slice_index values x) a same ∙ at.only x a lt below live))
            | inr gone ↦ rw (eqb_same x x refl, same, gone) refl
          ]
          | inr unequal ↦ rw (eqb_same x x refl, unequal) refl
        ]

-- a tree of the same shape in which an assignment that is not listed has a closed leaf at each listed one
record Shut (P : Network) (values : List ℕ) (history : List Event) (tree : ListTree) (k : ℕ) : Type 0 where
  its : Tree
  valid : Valid P history its k
  low : IsOpen (leaf values its) → bound P history tree k ≤ floor P (leaf_history values history its)

module _ (P : Network) (list : List Solution) (values : List ℕ) (k : ℕ) (all : AllByRecursion (IsSolution P) list) (fits : Fits P.sizes values) (other : IsNotIn list values) where
  shut : (history : List Event) (tree : ListTree) → IsValid P list history tree k → Shut P values history tree k
  shut history (Open block) valid = record { its = trees.Open block; valid = valid; low = λ is. omega arith }
  shut history (Closed block) valid = record { its = trees.Closed block; valid = valid; low = λ is. absurd is }
  shut history (Listed block j) valid =
      let at = valid.1 in
      let solution = all_at (IsSolution P) list j all at.number in
      let place = apart P.sizes values (solution_at list j).values fits solution.fits (λ e. other j at.number (sym e)) in
      let x = place.0 in
      let d = Is x (slice_index values x) in
      let side : holds d values ≡ true = eqb_same (slice_index values x) (slice_index values x) refl in
      record {
        its = trees.Split block d (trees.Closed []) (trees.Open []);
        valid = (valid.0, record { variable = place.1; value = fits_at P.sizes values x fits place.1 }, (tt, inr (wiped P list (after block history) j values x at place.1 place.2)), tt);
        low = λ is. let closed = rw side at is in absurd closed;
      }
  shut history (Split block d first second) valid =
      let one = shut (Took d ∷ after block history) first valid.2 in
      let two = shut (Refused d ∷ after block history) second valid.3 in
      record {
        its = trees.Split block d one.its two.its;
        valid = (valid.0, valid.1, one.valid, two.valid);
        low = λ is. elim (cases_Bool (holds d values)) [
          | inl holds ↦ let low = one.low (rw holds at is) in rw holds (omega (arith, low))
          | inr fails ↦ let low = two.low (rw fails at is) in rw fails (omega (arith, low))
        ];
      }

-- the threshold is at most the upper bound
last_low : (upper none : ℕ) (list : List Solution) (P : Network) → P.upper ≡ upper → none ≤ upper → AllByRecursion (IsSolution P) list → last_cost none list ≤ upper
last_low upper none [] P is le all = le
last_low upper none (s ∷ list) P is le all = last_low upper s.cost list P is (omega (arith, all.0.below)) all.1

pub threshold_low : (P : Network) (count : ℕ) (list : List Solution) → AllByRecursion (IsSolution P) list → threshold_of P.upper count list ≤ P.upper
threshold_low P count list all =
    elim (cases_Bool (length list == count)) [
      | inl full ↦ rw full (last_low P.upper P.upper list P refl (omega arith) all)
      | inr short ↦ rw short (omega arith)
    ]

pub others_cost_more : OthersCostMore
others_cost_more P c values network good fits other =
    let k = threshold_of P.upper c.count c.list in
    let low = threshold_low P c.count c.list good.solutions in
    let tree = shut P c.list values k good.solutions fits other [] c.tree good.valid in
    let most = bound_low P [] c.tree k in
    elim (each_leaf P tree.its k values network low tree.valid fits) [
      | inl at ↦ let floor_is = tree.low at.0 in omega (arith, good.lower, floor_is, at.1, most, low)
      | inr dear ↦ omega (arith, good.lower, dear, most)
    ]
