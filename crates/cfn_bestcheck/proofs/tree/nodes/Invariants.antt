use Rattle.std.proofs.Common.{◌≡◌, length}
use Rattle.cfn_bestcheck.specs.Checking.{claim_of}
use Rattle.cfn_bestcheck.specs.Tree.{InTree}
use Rattle.cfn_bestcheck.proofs.tree.nodes.Given as goal

-- the lines so far are right
abbrev pub invariant-loop-lines : goal.invariant-loop-lines
invariant-loop-lines l = record {
  text : l.lines.text ≡ l.fn.lines.text;
  tree : InTree l.network l.lines l.walk (claim_of l.fn.opening l.list);
}

abbrev pub decreases-loop-lines : goal.decreases-loop-lines
decreases-loop-lines l = length l.lines.rest
