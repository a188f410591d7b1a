use Rattle.std.proofs.Common.{◌≡◌}
use Rattle.cfn_rota.proofs.ends.steal_first.Given as goal

abbrev pub invariant-loop-thief : goal.invariant-loop-thief
invariant-loop-thief g l = l.thief-items ≡ l.fn.thieves
