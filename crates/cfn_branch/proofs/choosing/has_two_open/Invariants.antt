use Rattle.std.proofs.Common.{◌≡◌}
use Rattle.cfn_branch.proofs.Counting.{one, open_before}
use Rattle.cfn_branch.proofs.choosing.has_two_open.Given as goal

abbrev pub invariant-loop-x : goal.invariant-loop-x
invariant-loop-x l = open_before l.store l.f l.x-index ≡ one l.found
