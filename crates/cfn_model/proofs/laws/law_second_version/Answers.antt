use Rattle.cfn_model.proofs.Versions.{good_in_second, spelled_in_second}
use Rattle.cfn_model.proofs.laws.law_second_version.Goals as goal

pub returns-clause-good : goal.returns-clause-good
returns-clause-good c = good_in_second

pub returns-clause-spelled : goal.returns-clause-spelled
returns-clause-spelled c = spelled_in_second
