use Rattle.cfn_best.specs.Lines.{AtList}
use Rattle.cfn_bestcheck.specs.Position.{At}
use Rattle.cfn_bestcheck.specs.Listing.{AreLong}
use Rattle.cfn_bestcheck.specs.Checking.{claim_of}
use Rattle.std.proofs.Common.{◌≡◌}
use Rattle.cfn_bestcheck.proofs.listing.solutions.Given as goal

-- the listed assignments so far are right
abbrev pub invariant-loop-left : goal.invariant-loop-left
invariant-loop-left l = record {
  text : l.lines.text ≡ l.fn.lines.text;
  at : At l.network l.lines (AtList (claim_of l.fn.opening l.list.items) l.left);
  long : AreLong l.network l.list.items;
}

abbrev pub decreases-loop-left : goal.decreases-loop-left
decreases-loop-left l = l.left
