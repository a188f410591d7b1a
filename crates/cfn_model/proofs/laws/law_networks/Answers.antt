use Rattle.cfn_model.proofs.KeptLimits.{read_networks}
use Rattle.cfn_model.proofs.laws.law_networks.Goals as goal

pub returns : goal.returns
returns c = read_networks
