use Rattle.cfn_core.proofs.Reading.{reads_as_word}
use Rattle.cfn_core.proofs.laws.law_words.Goals as goal

pub returns : goal.returns
returns c = reads_as_word
