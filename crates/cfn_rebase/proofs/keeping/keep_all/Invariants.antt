use Rattle.std.proofs.Common.{◌≡◌, ◌+◌, reverse}
use Rattle.std.specs.Prelude.{false, [], if◌then◌else◌}
use Rattle.cfn_rebase.specs.Walking.{Walks, weights}
use Rattle.cfn_rebase.proofs.keeping.keep_all.Given as goal

abbrev pub invariant-loop-more : goal.invariant-loop-more
invariant-loop-more l = record {
  walks : Walks l.fn.walk.ground.network l.fn.walk.threshold l.old l.walk;
  none : l.more ≡ false → l.walk.waiting.items ≡ [];
}

abbrev pub decreases-loop-more : goal.decreases-loop-more
decreases-loop-more l = (if l.more then 1 else 0) + weights l.old (reverse l.walk.waiting.items)
