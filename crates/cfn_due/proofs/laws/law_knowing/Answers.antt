use Rattle.cfn_due.proofs.Staying.{nothing_waits_is_full}
use Rattle.cfn_due.proofs.laws.law_knowing.Goals as goal

pub returns : goal.returns
returns c = nothing_waits_is_full
