-- Where the leaves of a tree come from, and what a new row keeps.
use Rattle.std.proofs.Common.{◌≡◌, ℕ, ◌<◌, ◌≤◌, inl, inr, List, [], ◌∷◌, ◌++◌, refl, ap, subst, arith, true, false, Bool, nat_le, nat_lt, if◌then◌else◌, Some, None, IfSome, ltb-true}
use Rattle.std.specs.List.{AllByRecursion}
use Rattle.cfn_model.specs.declared.step.Step.{Step}
use Rattle.cfn_model.specs.declared.step.Decision.{Decision}
use Rattle.cfn_model.specs.declared.step.Event.{Event}
use Rattle.cfn_model.specs.declared.step.Event.TheVariants.{Took, Refused}
use Rattle.cfn_model.specs.Network.{Network, IsNetwork}
use Rattle.cfn_model.specs.Sums.{floor}
use Rattle.cfn_model.specs.Steps.{after}
use Rattle.cfn_model.specs.Tree.{Valid, bound}
use Rattle.cfn_model.proofs.CallerLemmas.{bounds}
use Rattle.cfn_machine.specs.Pool.{Mark, Free, Out, PoolTree, Leaf, Shut, Fork, tree_of, IsLeaf, Replaced, recalled, swept, IsRow, row_of}
use Rattle.cfn_machine.proofs.Covering.{leaf_rises}
use Rattle.cfn_machine.proofs.Numbering.{leaf_before}

-- a leaf of a new tree lies behind a leaf of the old one
abbrev pub From : Network → PoolTree → List Event → List Event → Type 0
From P tree history path = (m : ℕ) × (other : Mark) × (before : List Event) × IsLeaf tree history m other before × (floor P before ≤ floor P path)

in_first : (P : Network) (block : List Step) (d : Decision) (first second : PoolTree) (history path : List Event) → From P first (Took d ∷ after block history) path → From P (Fork block d first second) history path
in_first P block d first second history path f = (f.0, f.1, f.2, inl f.3, f.4)

in_second : (P : Network) (block : List Step) (d : Decision) (first second : PoolTree) (history path : List Event) → From P second (Refused d ∷ after block history) path → From P (Fork block d first second) history path
in_second P block d first second history path f = (f.0, f.1, f.2, inr f.3, f.4)

pub replaced_from : (P : Network) (n : ℕ) (mark : Mark) (path : List Event) (place tree : PoolTree) (history : List Event) (new : PoolTree) → Replaced tree history n mark path place new →
    (m : ℕ) (k : Mark) (p : List Event) → IsLeaf new history m k p → From P tree history p
replaced_from P n mark path place (Leaf number l block) history new at m k p leaf =
    let there : IsLeaf place (after block history) m k p = leaf_before block history m k p place (subst (λ t. IsLeaf t history m k p) at.3 leaf) in
    (number, l, after block history, (refl, refl, refl), leaf_rises P place (after block history) m k p there)
replaced_from P n mark path place (Shut block) history new at m k p leaf = absurd at
replaced_from P n mark path place (Fork block d first second) history new (inl at) m k p leaf =
    let leaf' : IsLeaf (Fork block d at.0 second) history m k p = subst (λ t. IsLeaf t history m k p) at.2 leaf in
    elim leaf' [
      | inl here ↦ in_first P block d first second history p (replaced_from P n mark path place first (Took d ∷ after block history) at.0 at.1 m k p here)
      | inr here ↦ (m, k, p, inr here, omega arith)
    ]
replaced_from P n mark path place (Fork block d first second) history new (inr at) m k p leaf =
    let leaf' : IsLeaf (Fork block d first at.0) history m k p = subst (λ t. IsLeaf t history m k p) at.2 leaf in
    elim leaf' [
      | inl here ↦ (m, k, p, inl here, omega arith)
      | inr here ↦ in_second P block d first second history p (replaced_from P n mark path place second (Refused d ∷ after block history) at.0 at.1 m k p here)
    ]

pub recalled_from : (P : Network) (tree : PoolTree) (history : List Event) (m : ℕ) (k : Mark) (p : List Event) → IsLeaf (recalled tree) history m k p → From P tree history p
recalled_from P (Leaf number l block) history m k p at = (number, l, p, (refl, refl, at.2), omega arith)
recalled_from P (Shut block) history m k p at = absurd at
recalled_from P (Fork block d first second) history m k p (inl at) = in_first P block d first second history p (recalled_from P first (Took d ∷ after block history) m k p at)
recalled_from P (Fork block d first second) history m k p (inr at) = in_second P block d first second history p (recalled_from P second (Refused d ∷ after block history) m k p at)

free_from : (P : Network) (t : Bool) (n : ℕ) (block : List Step) (history : List Event) (m : ℕ) (k : Mark) (p : List Event) → IsLeaf (if t then Shut block else Leaf n Free block) history m k p → From P (Leaf n Free block) history p
free_from P true n block history m k p at = absurd at
free_from P false n block history m k p at = (m, k, p, at, omega arith)

pub swept_from : (P : Network) (word : ℕ) (tree : PoolTree) (history : List Event) (m : ℕ) (k : Mark) (p : List Event) → IsLeaf (swept P word tree history) history m k p → From P tree history p
swept_from P word (Leaf n Free block) history m k p at = free_from P (nat_le word (floor P (after block history))) n block history m k p at
swept_from P word (Leaf n (Out w g) block) history m k p at = (m, k, p, at, omega arith)
swept_from P word (Shut block) history m k p at = absurd at
swept_from P word (Fork block d first second) history m k p (inl at) = in_first P block d first second history p (swept_from P word first (Took d ∷ after block history) m k p at)
swept_from P word (Fork block d first second) history m k p (inr at) = in_second P block d first second history p (swept_from P word second (Refused d ∷ after block history) m k p at)

-- the bound of a tree is at most the floor of each open leaf
bound_low : (P : Network) (seen : ℕ) (tree : PoolTree) (history : List Event) (n : ℕ) (mark : Mark) (path : List Event) → IsLeaf tree history n mark path → bound P history (tree_of tree) seen ≤ floor P path
bound_low P seen (Leaf number m block) history n mark path at = (let e = ap (floor P) at.2 in omega (arith, e))
bound_low P seen (Shut block) history n mark path at = absurd at
bound_low P seen (Fork block d first second) history n mark path (inl at) = omega (arith, bound_low P seen first (Took d ∷ after block history) n mark path at)
bound_low P seen (Fork block d first second) history n mark path (inr at) = omega (arith, bound_low P seen second (Refused d ∷ after block history) n mark path at)

upper_at : (P : Network) (seen : ℕ) (t : Bool) → nat_lt seen P.upper ≡ t → IfSome (if t then Some seen else None) (λ u. (u < P.upper) × (seen ≤ u))
upper_at P seen true test = (ltb-true _ _ test, omega arith)
upper_at P seen false test = tt

pub new_row : (P : Network) (tree : PoolTree) (seen : ℕ) → IsNetwork P → seen ≤ P.upper → Valid P [] (tree_of tree) seen → IsRow P tree seen (row_of P (tree_of tree) seen)
new_row P tree seen network low valid = record {
  costs = λ values fits. bounds P (tree_of tree) seen values network low valid fits;
  floors = λ n mark path at. bound_low P seen tree [] n mark path at;
  upper = upper_at P seen (nat_lt seen P.upper) refl;
}

-- a fact of each of a list and of one more
pub each_more : {X : Type 0} (Q : X → Type 0) (xs : List X) (x : X) → AllByRecursion Q xs → Q x → AllByRecursion Q (xs ++ x ∷ [])
each_more Q [] x each own = (own, tt)
each_more Q (y ∷ xs) x each own = (each.0, each_more Q xs x each.1 own)
