use Rattle.std.proofs.Common.{◌≡◌, ◌-◌, length}
use Rattle.cfn_proof.proofs.tree.Tree.share.Given as goal

-- the nodes are as they were
abbrev pub invariant-loop-next : goal.invariant-loop-next
invariant-loop-next l = l.self-inside.nodes.items ≡ l.initial.self-inside.nodes.items

abbrev pub decreases-loop-next : goal.decreases-loop-next
decreases-loop-next l = length l.self-inside.nodes.items - l.next
