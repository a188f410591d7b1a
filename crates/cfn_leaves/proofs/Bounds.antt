-- The least floor of the table is the tree's bound, and the nodes are the plain tree.
use Rattle.std.proofs.Common.{◌≡◌, ℕ, ◌≤◌, ◌⊎◌, inl, inr, min, List, [], ◌∷◌, zero, suc, refl, sym, ap, ap₂, ◌∙◌, arith, Option, Some, None}
use Rattle.std.proofs.lemmas.Bool.{cases_lt}
use Rattle.cfn_model.specs.declared.step.Event.{Event}
use Rattle.cfn_model.specs.declared.step.Event.TheVariants.{Took, Refused}
use Rattle.cfn_model.specs.Network.{Network}
use Rattle.cfn_model.specs.Sums.{floor}
use Rattle.cfn_model.specs.Steps.{after}
use Rattle.cfn_model.specs.Tree as trees
use Rattle.cfn_model.specs.Tree.{bound}
use Rattle.cfn_proof.specs.declared.tree.Node.{Node}
use Rattle.cfn_proof.specs.Nodes.{node_at, IsLinked, tree_at, with_children}
use Rattle.cfn_proof.specs.Local.{BeforeOnceLaw}
use Rattle.cfn_proof.proofs.CallerLemmas.{tree_at_is}
use Rattle.cfn_machine.specs.Pool.{Mark, PoolTree, Leaf, Shut, Fork, IsLeaf, tree_of}
use Rattle.cfn_leaves.specs.declared.entry.Entry.{Entry}
use Rattle.cfn_leaves.specs.Standing.{entry_at, entry, Stands, Are}
use Rattle.cfn_leaves.specs.Read.{least_floor}
use Rattle.cfn_leaves.proofs.Trees.{leaf_node, same_some, some_none}

-- the least floor is at most the threshold and each floor, and it is one of them
least_low : (k : ℕ) (table : List (Option Entry)) → least_floor k table ≤ k
least_low k [] = omega arith
least_low k (None ∷ table) = least_low k table
least_low k (Some e ∷ table) = omega (arith, least_low (min k e.floor) table)

least_at : (k n : ℕ) (table : List (Option Entry)) (e : Entry) → entry_at table n ≡ Some e → least_floor k table ≤ e.floor
least_at k n [] e is = some_none is
least_at k zero (None ∷ table) e is = some_none is
least_at k zero (Some f ∷ table) e is = let same : f.floor ≡ e.floor = ap (λ (e : Entry). e.floor) (same_some is) in omega (arith, least_low (min k f.floor) table, same)
least_at k (suc n) (None ∷ table) e is = least_at k n table e is
least_at k (suc n) (Some f ∷ table) e is = least_at (min k f.floor) n table e is

record IsOne (k : ℕ) (table : List (Option Entry)) (least : ℕ) : Type 0 where
  pub number : ℕ
  pub entry : Entry
  pub is : entry_at table number ≡ Some entry
  pub least_is : least ≡ entry.floor

later : {k j : ℕ} {o : Option Entry} {table : List (Option Entry)} {least : ℕ} → IsOne k table least → IsOne j (o ∷ table) least
later one = record { number = suc one.number; entry = one.entry; is = one.is; least_is = one.least_is }

least_is : (k : ℕ) (table : List (Option Entry)) → (least_floor k table ≡ k) ⊎ IsOne k table (least_floor k table)
least_is k [] = inl refl
least_is k (None ∷ table) = elim (least_is k table) [ inl same ↦ inl same | inr one ↦ inr (later one) ]
least_is k (Some e ∷ table) = elim (least_is (min k e.floor) table) [
  | inr one ↦ inr (later one)
  | inl same ↦ elim (cases_lt e.floor k) [
    | inl less ↦ inr (record { number = 0; entry = e; is = refl; least_is = omega (arith, same, less) })
    | inr far ↦ inl (omega (arith, same, far))
  ]
]

-- the bound is at most the threshold and each floor, and it is one of them
bound_low : (P : Network) (k : ℕ) (tree : PoolTree) (history : List Event) → bound P history (tree_of tree) k ≤ k
bound_low P k (Leaf n mark block) history = omega arith
bound_low P k (Shut block) history = omega arith
bound_low P k (Fork block d first second) history = omega (arith, bound_low P k first (Took d ∷ after block history))

bound_at : (P : Network) (k : ℕ) (tree : PoolTree) (history : List Event) (n : ℕ) (mark : Mark) (path : List Event) → IsLeaf tree history n mark path → bound P history (tree_of tree) k ≤ floor P path
bound_at P k (Leaf m k' block) history n mark path at = let e = ap (floor P) at.2 in omega (arith, e)
bound_at P k (Shut block) history n mark path at = absurd at
bound_at P k (Fork block d first second) history n mark path (inl at) = omega (arith, bound_at P k first (Took d ∷ after block history) n mark path at)
bound_at P k (Fork block d first second) history n mark path (inr at) = omega (arith, bound_at P k second (Refused d ∷ after block history) n mark path at)

record IsLow (P : Network) (tree : PoolTree) (history : List Event) (low : ℕ) : Type 0 where
  pub number : ℕ
  pub mark : Mark
  pub path : List Event
  pub leaf : IsLeaf tree history number mark path
  pub low_is : low ≡ floor P path

bound_is : (P : Network) (k : ℕ) (tree : PoolTree) (history : List Event) → (bound P history (tree_of tree) k ≡ k) ⊎ IsLow P tree history (bound P history (tree_of tree) k)
bound_is P k (Leaf n mark block) history = elim (cases_lt (floor P (after block history)) k) [
  | inl less ↦ inr (record { number = n; mark = mark; path = after block history; leaf = (refl, refl, refl); low_is = omega (arith, less) })
  | inr far ↦ inl (omega (arith, far))
]
bound_is P k (Shut block) history = inl refl
bound_is P k (Fork block d first second) history =
    let one = bound P (Took d ∷ after block history) (tree_of first) k in
    let two = bound P (Refused d ∷ after block history) (tree_of second) k in
    elim (cases_lt one two) [
      | inl less ↦ elim (bound_is P k first (Took d ∷ after block history)) [
        | inl same ↦ inl (omega (arith, same, less, bound_low P k second (Refused d ∷ after block history)))
        | inr low ↦ inr (record { number = low.number; mark = low.mark; path = low.path; leaf = inl low.leaf; low_is = omega (arith, less, low.low_is) })
      ]
      | inr far ↦ elim (bound_is P k second (Refused d ∷ after block history)) [
        | inl same ↦ inl (omega (arith, same, far, bound_low P k first (Took d ∷ after block history)))
        | inr low ↦ inr (record { number = low.number; mark = low.mark; path = low.path; leaf = inr low.leaf; low_is = omega (arith, far, low.low_is) })
      ]
    ]

pub least_bound : (P : Network) (k : ℕ) (nodes : List Node) (table : List (Option Entry)) (tree : PoolTree) → BeforeOnceLaw → Are P nodes table tree → least_floor k table ≡ bound P [] (tree_of tree) k
least_bound P k nodes table tree once are =
    let low : least_floor k table ≤ bound P [] (tree_of tree) k = elim (bound_is P k tree []) [
      | inl same ↦ omega (arith, same, least_low k table)
      | inr low ↦
          (let node = leaf_node P nodes table tree once are low.number low.mark low.path low.leaf in
          let at = least_at k low.number table (entry node.node low.mark (floor P low.path)) node.is in
          omega (arith, at, low.low_is))
    ] in
    let high : bound P [] (tree_of tree) k ≤ least_floor k table = elim (least_is k table) [
      | inl same ↦ omega (arith, same, bound_low P k tree [])
      | inr one ↦
          (let leaf = are.there one.number one.entry one.is in
          let node = leaf_node P nodes table tree once are one.number leaf.0 leaf.1.0 leaf.1.1 in
          let e : one.entry.floor ≡ floor P leaf.1.0 = ap (λ (e : Entry). e.floor) (same_some (sym one.is ∙ node.is)) in
          omega (arith, e, one.least_is, bound_at P k tree [] one.number leaf.0 leaf.1.0 leaf.1.1))
    ] in
    omega (arith, low, high)

-- the plain tree of the nodes
plain_from : (P : Network) (nodes : List Node) (table : List (Option Entry)) (i : ℕ) (history : List Event) (tree : PoolTree) → IsLinked nodes → Stands P nodes table i history tree → tree_at nodes i ≡ tree_of tree
plain_from P nodes table i history (Leaf n mark block) linked stands =
    tree_at_is nodes i linked stands.0 ∙ ap (λ e. with_children (node_at nodes i).block e (tree_at nodes)) stands.2 ∙ ap trees.Open stands.1
plain_from P nodes table i history (Shut block) linked stands =
    tree_at_is nodes i linked stands.0 ∙ ap (λ e. with_children (node_at nodes i).block e (tree_at nodes)) stands.2 ∙ ap trees.Closed stands.1
plain_from P nodes table i history (Fork block d first second) linked stands =
    let split = stands.2 in
    tree_at_is nodes i linked stands.0 ∙ ap (λ e. with_children (node_at nodes i).block e (tree_at nodes)) split.2 ∙ ap (λ b. trees.Split b d (tree_at nodes split.0.number) (tree_at nodes split.1.number)) stands.1
    ∙ ap₂ (λ f s. trees.Split block d f s) (plain_from P nodes table split.0.number (Took d ∷ after block history) first linked split.3) (plain_from P nodes table split.1.number (Refused d ∷ after block history) second linked split.4)

pub plain_is : (P : Network) (nodes : List Node) (table : List (Option Entry)) (tree : PoolTree) → Are P nodes table tree → tree_at nodes 0 ≡ tree_of tree
plain_is P nodes table tree are = plain_from P nodes table 0 [] tree are.linked are.stands
