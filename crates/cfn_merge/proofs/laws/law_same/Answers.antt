use Rattle.cfn_merge.proofs.Tested.{is_test}
use Rattle.cfn_merge.proofs.laws.law_same.Goals as goal

pub returns : goal.returns
returns c = is_test
