use Rattle.std.proofs.Common.{◌≡◌, ℕ, length}
use Rattle.std.specs.Prelude.{Option}
use Rattle.cfn_fault.specs.Lines.{AtNodes}
use Rattle.cfn_check.specs.Checking.{InTree, IsDueIn}
use Rattle.cfn_check.proofs.nodes.nodes.Given as goal

-- the lines so far are right, where those before the nodes are
abbrev pub invariant-loop-reader : goal.invariant-loop-reader
invariant-loop-reader l = record {
  text : l.reader.text ≡ l.fn.reader.text;
  network : l.walk.network ≡ l.fn.walk.network;
  due : IsDueIn l.reader (λ version. AtNodes version l.walk.paths);
  tree : (lower : ℕ) (best : Option ℕ) → InTree l.network l.fn.reader l.fn.walk lower best → InTree l.network l.reader l.walk lower best;
}

abbrev pub decreases-loop-reader : goal.decreases-loop-reader
decreases-loop-reader l = length l.reader.rest
