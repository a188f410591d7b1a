use Rattle.cfn_proof.proofs.Grafted.{before_graft, valid_graft, strict_graft}
use Rattle.cfn_proof.proofs.laws.law_kept_by_a_graft.Goals as goal

pub returns-clause-before : goal.returns-clause-before
returns-clause-before c = before_graft

pub returns-clause-valid : goal.returns-clause-valid
returns-clause-valid c = valid_graft

pub returns-clause-strict : goal.returns-clause-strict
returns-clause-strict c = strict_graft
