use Rattle.cfn_mending.proofs.Merged.{all_merged_good, all_merged_lower, all_merged_spelled, all_merged_anew}
use Rattle.cfn_mending.proofs.laws.law_all_merged.Goals as goal

pub returns-clause-good : goal.returns-clause-good
returns-clause-good c = all_merged_good

pub returns-clause-lower : goal.returns-clause-lower
returns-clause-lower c = all_merged_lower

pub returns-clause-anew : goal.returns-clause-anew
returns-clause-anew c = all_merged_anew

pub returns-clause-spelled : goal.returns-clause-spelled
returns-clause-spelled c = all_merged_spelled
