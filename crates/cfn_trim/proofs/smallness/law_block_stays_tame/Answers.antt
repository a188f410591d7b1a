use Rattle.cfn_trim.proofs.Small.{tame_block}
use Rattle.cfn_trim.proofs.smallness.law_block_stays_tame.Goals as goal

pub returns : goal.returns
returns c = tame_block _ _ _ c.law_exact.ensures
