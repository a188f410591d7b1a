use Rattle.std.proofs.Common.{◌≡◌, ◌+◌, ◌≤◌, ◌++◌, map, vec_len, vec_capacity}
use Rattle.std.specs.List.{AllByRecursion}
use Rattle.std.specs.Vec.Iter.{into_iter_items, into_iter_len}
use Rattle.cfn_proof.specs.Nodes.{FitsBehind, moved_node}
use Rattle.cfn_proof.proofs.tree.Place.put.Given as goal

abbrev pub invariant-loop-node : goal.invariant-loop-node
invariant-loop-node l =
    AllByRecursion (FitsBehind l.self.nodes) (into_iter_items l.node-iterator)
    × (l.nodes.items ++ map (moved_node l.self.leaf.number l.self.nodes) (into_iter_items l.node-iterator) ≡ l.initial.nodes.items ++ map (moved_node l.self.leaf.number l.self.nodes) (into_iter_items l.initial.node-iterator))
    × (vec_len l.nodes + into_iter_len l.node-iterator ≤ vec_capacity l.nodes)
