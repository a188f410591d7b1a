use Rattle.std.proofs.Common.{length}
use Rattle.cfn_settled_tests.proofs.telling.+fits.Given as goal

abbrev pub decreases-fits : goal.decreases-fits
decreases-fits l = length l.scope.now
