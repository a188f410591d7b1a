use Rattle.cfn_best.proofs.Reading.{whole_texts}
use Rattle.cfn_best.proofs.laws.law_whole_texts.Goals as goal

pub returns : goal.returns
returns c = whole_texts
