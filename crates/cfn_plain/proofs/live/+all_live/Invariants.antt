use Rattle.std.proofs.Common.{length}
use Rattle.cfn_plain.proofs.live.+all_live.Given as goal

abbrev pub decreases-all_live : goal.decreases-all_live
decreases-all_live l = length l.variables.now
