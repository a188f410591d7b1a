use Rattle.std.proofs.Common.{◌≡◌, ◌≤◌, length}
use Rattle.cfn_trim.proofs.trimmer.Trimmer.choose.Given as goal

abbrev pub invariant-loop-left : goal.invariant-loop-left
invariant-loop-left l = record {
  within : l.left ≤ length l.store.block;
  network : l.self-inside.needs ≡ l.fn.self;
}

abbrev pub decreases-loop-left : goal.decreases-loop-left
decreases-loop-left l = l.left
