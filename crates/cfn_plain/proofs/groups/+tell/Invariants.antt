use Rattle.std.proofs.Common.{length}
use Rattle.cfn_plain.proofs.groups.+tell.Given as goal

-- how many steps there are
abbrev pub decreases-tell : goal.decreases-tell
decreases-tell l = length l.steps.now
