use Rattle.cfn_consistency.proofs.Sources.{sources_differ}
use Rattle.cfn_consistency.proofs.laws.law_sources.Goals as goal

pub returns : goal.returns
returns c = sources_differ
