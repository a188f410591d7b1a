use Rattle.cfn_mending.proofs.Merged.{merged_good, merged_lower}
use Rattle.cfn_mending.proofs.laws.law_merged.Goals as goal

pub returns-clause-good : goal.returns-clause-good
returns-clause-good c = merged_good

pub returns-clause-lower : goal.returns-clause-lower
returns-clause-lower c = merged_lower
