use Rattle.cfn_consistency.proofs.Families.{closed_stays_closed}
use Rattle.cfn_consistency.proofs.laws.law_families.Goals as goal

pub returns : goal.returns
returns c = record { closed = closed_stays_closed }
