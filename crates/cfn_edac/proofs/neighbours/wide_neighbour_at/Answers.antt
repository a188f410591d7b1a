use Rattle.cfn_edac.proofs.Gather.{not_few, not_here}
use Rattle.cfn_edac.proofs.neighbours.wide_neighbour_at.Goals as goal

pub returns-in-Few : goal.returns-in-Few
returns-in-Few c = λ j pair. not_few _ _ _ _ j c.in-Few.ensures pair

pub returns-else-j-place : goal.returns-else-j-place
returns-else-j-place c = λ q pair. not_here _ _ _ _ _ _ q c.in-Two.ensures (λ e. c.if-i-place.false e) (λ e. c.if-j-place.false e) pair
