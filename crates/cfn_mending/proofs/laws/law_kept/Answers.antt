use Rattle.cfn_mending.proofs.Kept.{kept_is_well, kept_once, keeps_all}
use Rattle.cfn_mending.proofs.laws.law_kept.Goals as goal

pub returns-clause-well : goal.returns-clause-well
returns-clause-well c = kept_is_well

pub returns-clause-once : goal.returns-clause-once
returns-clause-once c = kept_once

pub returns-clause-all : goal.returns-clause-all
returns-clause-all c = keeps_all
