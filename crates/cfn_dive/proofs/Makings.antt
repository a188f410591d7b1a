-- What a dive has made where it ends, and what it begins with.
use Rattle.std.proofs.Common.{◌≡◌, ℕ, ◌+◌, ◌<◌, ◌≤◌, inl, inr, Bool, true, false, List, [], ◌∷◌, refl, sym, ap, ◌∙◌, subst, arith}
use Rattle.std.specs.Prelude.{◌==◌, Option, None, Some, IfSome, MatchOption, Result, Ok, Err, IfOk}
use Rattle.cfn_model.specs.declared.limits.TheConstants.{GREATEST}
use Rattle.cfn_model.specs.declared.step.Event.{Event}
use Rattle.cfn_model.specs.Network.{Network}
use Rattle.cfn_model.specs.Paths.{HasSmallCosts, TameAlong, Tame}
use Rattle.cfn_model.specs.Tree.{Closed, Valid, Strict, count, open_leaves}
use Rattle.cfn_proof.specs.declared.tree.Node.{Node}
use Rattle.cfn_proof.specs.Nodes.{open_node, tree_of}
use Rattle.cfn_machine.specs.Pool.{Task, IsTask}
use Rattle.cfn_dive.specs.declared.parts.Parts.{Parts}
use Rattle.cfn_dive.specs.declared.growing.Grown.{Grown}
use Rattle.cfn_dive.specs.declared.growth.Growth.{Growth}
use Rattle.cfn_dive.specs.declared.growth.Leaf.{Leaf}
use Rattle.cfn_explore.specs.Backtracks.{backtracks}
use Rattle.cfn_dive.specs.Stack.{Stack, at_leaf}
use Rattle.cfn_dive.specs.Growing.{AreEnforced, IsGrown}
use Rattle.cfn_dive.specs.Diving.{IsAt, IsDiving, GoesOn}
use Rattle.cfn_explore.specs.Exploring.{HasEnded}
use Rattle.cfn_dive.specs.Making.{IsMade}

pub small_here : (P : Network) (path : List Event) → TameAlong P path → HasSmallCosts P path
small_here P [] tame = tame
small_here P (event ∷ path) tame = tame.0

zero_is : (n : ℕ) → (n == 0) ≡ true → n ≡ 0
zero_is n h = grind arith

is_zero : (n : ℕ) → n ≡ 0 → (n == 0) ≡ true
is_zero n h = grind arith

-- where no leaf is next
none_open : (P : Network) (p : Parts) (g : Growth) → IsDiving P p g → g.current ≡ None → open_leaves (tree_of g.tree) ≡ 0
none_open P p g diving none = subst (λ o. MatchOption o (open_leaves (tree_of g.tree) ≡ 0) (IsAt P p g)) none diving.at

pub ended : (P : Network) (p : Parts) (g : Growth) (grant granted : ℕ) (timed cut : Bool) → IsDiving P p g → g.granted ≡ granted → g.nodes ≤ grant → GoesOn g grant timed None → cut ≡ (g.left == 0) → HasEnded grant granted timed (tree_of g.tree) cut
ended P p g grant granted timed cut diving same few goes is =
    let back = diving.kept.grown.gone_back in
    let counted = diving.kept.grown.counted in
    record {
      cut_is = ((λ is_cut. let z = zero_is g.left (sym is ∙ is_cut) in omega (arith, back, z, same)), (λ all. is ∙ is_zero g.left (omega (arith, back, all, same))));
      within = omega (arith, back, same);
      ends = elim (goes.ends refl) [
        | inl all ↦ inr (inl (omega (arith, counted, all, few)))
        | inr other ↦ elim other [
          | inl spent ↦ inr (inr (inl (is ∙ is_zero g.left spent)))
          | inr last ↦ elim last [
            | inl none ↦ inl (none_open P p g diving none)
            | inr halted ↦ inr (inr (inr halted))
          ]
        ]
      ];
    }

pub made : (P : Network) (p : Parts) (g : Growth) (task : Task) (granted : ℕ) (timed : Bool) (k : ℕ) (cut : Bool) → IsDiving P p g → g.base.value ≡ task.path → g.threshold ≡ k → k ≤ GREATEST → g.granted ≡ granted → 1 ≤ g.nodes → g.nodes ≤ task.grant → GoesOn g task.grant timed None → cut ≡ (g.left == 0) → IsMade P task granted timed k g.tree cut
made P p g task granted timed k cut diving base at small same some few goes is =
    let grown = subst (λ h. IsGrown P h k g.granted g.tree g.nodes g.left) base (subst (λ t. IsGrown P g.base.value t g.granted g.tree g.nodes g.left) at diving.kept.grown) in
    let counted = grown.counted in
    record {
      valid = grown.valid;
      strict = grown.strict;
      tame = grown.tame;
      some = omega (arith, counted, some);
      few = omega (arith, counted, few);
      threshold = small;
      enforced = grown.enforced;
      ended = ended P p g task.grant granted timed cut diving same few goes is;
    }

-- one closed leaf where the floor reaches the threshold
pub closed_made : (P : Network) (task : Task) (granted : ℕ) (timed : Bool) (k : ℕ) (nodes : List Node) (cut : Bool) → tree_of nodes ≡ Closed [] → cut ≡ false → IsTask P task → k ≤ task.floor → k ≤ GREATEST → 1 ≤ granted → IsMade P task granted timed k nodes cut
closed_made P task granted timed k nodes cut is not_cut kept reached small some =
    let b = ap backtracks is in
    let c = ap count is in
    let few = kept.some in
    let low = kept.floor in
    record {
      valid = subst (λ t. Valid P task.path t k) (sym is) (tt, inl (omega (arith, reached, low)));
      strict = subst (λ t. Strict P task.path t) (sym is) tt;
      tame = subst (λ t. Tame P task.path t) (sym is) (small_here P task.path kept.tame);
      some = omega (arith, c);
      few = omega (arith, c, few);
      threshold = small;
      enforced = subst (λ t. AreEnforced P task.path t) (sym is) tt;
      ended = record {
        cut_is = ((λ is_cut. absurd (false_true (sym not_cut ∙ is_cut))), (λ all. absurd (omega (arith, b, all, some))));
        within = omega (arith, b);
        ends = inl (ap open_leaves is);
      };
    }
  where
    false_true : false ≡ true → ⊥
    false_true e = cc

-- one open leaf
pub root_grown : (P : Network) (path : List Event) (k granted : ℕ) → TameAlong P path → IsGrown P path k granted (open_node None ∷ []) 0 granted
root_grown P path k granted tame = record { valid = tt; strict = tt; tame = small_here P path tame; enforced = refl; counted = refl; gone_back = none_more granted }
  where
    none_more : (n : ℕ) → 0 + n ≡ n
    none_more n = omega arith

pub root_stack : (path base : List Event) → path ≡ base → Stack (open_node None ∷ []) 0 base (record { leaf = 0; path = path }) []
root_stack path base same = at_leaf (record { there = omega arith; free = refl; empty = refl }) (ap (λ h. record { leaf = 0; path = h }) same) refl

-- what holds of a tree that is made holds where one is
pub made_ok : {E : Type 0} (result : Result Grown E) (X : Grown → Type 0) → IfOk result (λ made. tree_of made.tree ≡ Closed []) → IfOk result (λ made. made.cut ≡ false) → ((made : Grown) → tree_of made.tree ≡ Closed [] → made.cut ≡ false → X made) → IfOk result X
made_ok (Ok made) X tree cut holds = holds made tree cut
made_ok (Err error) X tree cut holds = tt

-- an open leaf is next at the beginning
pub goes_first : (g : Growth) (grant : ℕ) (timed : Bool) → g.nodes < grant → 1 ≤ g.left → GoesOn g grant timed g.current
goes_first g grant timed nodes left = record { current = itself g.current; nodes = all g.current; left = some g.current; ends = λ none. inr (inr (inl none)) }
  where
    itself : (o : Option Leaf) → IfSome o (λ leaf. o ≡ Some leaf)
    itself None = tt
    itself (Some leaf) = refl

    all : (o : Option Leaf) → IfSome o (λ leaf. g.nodes < grant)
    all None = tt
    all (Some leaf) = nodes

    some : (o : Option Leaf) → IfSome o (λ leaf. 1 ≤ g.left)
    some None = tt
    some (Some leaf) = left

pub next_below : (g : Growth) (grant : ℕ) (timed : Bool) (next : Option Leaf) (leaf : Leaf) → GoesOn g grant timed next → next ≡ Some leaf → g.nodes < grant
next_below g grant timed next leaf goes is = subst (λ o. IfSome o (λ l. g.nodes < grant)) is goes.nodes

pub next_none : (next : Option Leaf) → ((leaf : Leaf) → next ≡ Some leaf → ⊥) → next ≡ None
next_none None other = refl
next_none (Some leaf) other = absurd (other leaf refl)
