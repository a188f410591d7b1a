use Rattle.cfn_wcspwrite.proofs.Functions.{reads_back}
use Rattle.cfn_wcspwrite.proofs.network.law_reads_back.Goals as goal

pub returns : goal.returns
returns c = reads_back
