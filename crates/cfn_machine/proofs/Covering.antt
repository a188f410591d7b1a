-- Every assignment is covered by its leaf, and where all open leaves are free a sweep closes each whose floor is high.
use Rattle.std.proofs.Common.{◌≡◌, ℕ, ◌≤◌, inl, inr, List, [], ◌∷◌, refl, sym, ap, subst, arith, leb-false}
use Rattle.std.proofs.lemmas.Bool.{cases_lt}
use Rattle.std.specs.Prelude.{Bool, true, false, if◌then◌else◌, nat_le}
use Rattle.cfn_model.specs.declared.step.Step.{Step}
use Rattle.cfn_model.specs.declared.step.Event.{Event}
use Rattle.cfn_model.specs.declared.step.Event.TheVariants.{Did, Took, Refused}
use Rattle.cfn_model.specs.Network.{Network, cost}
use Rattle.cfn_model.specs.Decisions.{holds}
use Rattle.cfn_model.specs.Sums.{floor}
use Rattle.cfn_model.specs.Steps.{after}
use Rattle.cfn_model.specs.Tree.{Tree, IsClosed, leaf, OpenBelow}
use Rattle.cfn_model.proofs.CallerLemmas.{closed_leaves}
use Rattle.cfn_machine.specs.Pool.{Mark, Free, Out, PoolTree, Leaf, Shut, Fork, tree_of, IsLeaf, leaf_of, swept, Pool}
use Rattle.cfn_machine.specs.Laws.{IsCovered, Covered, Rises, SweepsAll}

-- the floor only rises along a path
after_rises : (P : Network) (block : List Step) (history : List Event) → floor P history ≤ floor P (after block history)
after_rises P [] history = omega arith
after_rises P (step ∷ block) history = omega (arith, after_rises P block (Did step ∷ history))

pub leaf_rises : (P : Network) (tree : PoolTree) (history : List Event) (n : ℕ) (mark : Mark) (path : List Event) → IsLeaf tree history n mark path → floor P history ≤ floor P path
leaf_rises P (Leaf number m block) history n mark path at = (let e = ap (floor P) at.2 in omega (arith, e, after_rises P block history))
leaf_rises P (Shut block) history n mark path at = absurd at
leaf_rises P (Fork block d first second) history n mark path (inl at) = omega (arith, after_rises P block history, leaf_rises P first (Took d ∷ after block history) n mark path at)
leaf_rises P (Fork block d first second) history n mark path (inr at) = omega (arith, after_rises P block history, leaf_rises P second (Refused d ∷ after block history) n mark path at)

pub rises : Rises
rises P tree n mark path at = leaf_rises P tree [] n mark path at

-- by cases on an assignment's leaf
chosen : (b : Bool) (Q : PoolTree → Type 0) (f s : PoolTree) (first second : Tree) → (IsClosed (if b then first else second) → (block : List Step) → Q (Shut block)) →
    ((IsClosed first → (block : List Step) → Q (Shut block)) → Q f) → ((IsClosed second → (block : List Step) → Q (Shut block)) → Q s) → Q (if b then f else s)
chosen true Q f s first second closed in_first in_second = in_first closed
chosen false Q f s first second closed in_first in_second = in_second closed

leaf_cases : (values : List ℕ) (Q : PoolTree → Type 0) (tree : PoolTree) (history : List Event) →
    ((n : ℕ) (mark : Mark) (path : List Event) → IsLeaf tree history n mark path → (block : List Step) → Q (Leaf n mark block)) →
    (IsClosed (leaf values (tree_of tree)) → (block : List Step) → Q (Shut block)) → Q (leaf_of values tree)
leaf_cases values Q (Leaf number m block) history open_leaf closed = open_leaf number m (after block history) (refl, refl, refl) block
leaf_cases values Q (Shut block) history open_leaf closed = closed tt block
leaf_cases values Q (Fork block d first second) history open_leaf closed =
    chosen (holds d values) Q (leaf_of values first) (leaf_of values second) (leaf values (tree_of first)) (leaf values (tree_of second)) closed
    (λ c. leaf_cases values Q first (Took d ∷ after block history) (λ n mark path at. open_leaf n mark path (inl at)) c)
    (λ c. leaf_cases values Q second (Refused d ∷ after block history) (λ n mark path at. open_leaf n mark path (inr at)) c)

pub covered : Covered
covered P pool values network sound fits = leaf_cases values (IsCovered P pool values) pool.tree [] (λ n mark path at block. tt) at_closed
  where
    at_closed : IsClosed (leaf values (tree_of pool.tree)) → (block : List Step) → pool.view.seen ≤ cost P values
    at_closed closed block = elim (cases_lt (cost P values) pool.view.seen) [
      | inl cheap ↦ absurd (closed_leaves P (tree_of pool.tree) pool.view.seen values network sound.seen sound.valid fits cheap closed)
      | inr dear ↦ dear
    ]

-- a sweep with no leaf out
leaf_below : (P : Network) (k : ℕ) (b : Bool) (n : ℕ) (block : List Step) (history : List Event) → nat_le k (floor P (after block history)) ≡ b →
    OpenBelow P history (tree_of (if b then Shut block else Leaf n Free block)) k
leaf_below P k true n block history test = tt
leaf_below P k false n block history test = leb-false _ _ test

swept_below : (P : Network) (k : ℕ) (tree : PoolTree) (history : List Event) → ((n worker grant : ℕ) (path : List Event) → IsLeaf tree history n (Out worker grant) path → ⊥) →
    OpenBelow P history (tree_of (swept P k tree history)) k
swept_below P k (Leaf n Free block) history none = leaf_below P k (nat_le k (floor P (after block history))) n block history refl
swept_below P k (Leaf n (Out worker grant) block) history none = absurd (none n worker grant (after block history) (refl, refl, refl))
swept_below P k (Shut block) history none = tt
swept_below P k (Fork block d first second) history none = (
  swept_below P k first (Took d ∷ after block history) (λ n worker grant path at. none n worker grant path (inl at)),
  swept_below P k second (Refused d ∷ after block history) (λ n worker grant path at. none n worker grant path (inr at)),
)

pub sweeps_all : SweepsAll
sweeps_all P pool new word none sweeps = subst (λ (p : Pool). OpenBelow P [] (tree_of p.tree) p.view.seen) (sym sweeps) (swept_below P word pool.tree [] none)
