use Rattle.std.proofs.Common.{◌≡◌}
use Rattle.cfn_proof.proofs.tree.share_each.Given as goal

abbrev pub invariant-loop-i : goal.invariant-loop-i
invariant-loop-i l = l.nodes.items ≡ l.initial.nodes.items
