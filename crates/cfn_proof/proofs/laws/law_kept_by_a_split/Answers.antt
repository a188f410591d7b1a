use Rattle.cfn_proof.proofs.Kept.{valid_split_behind, strict_split_behind}
use Rattle.cfn_proof.proofs.laws.law_kept_by_a_split.Goals as goal

pub returns-clause-valid : goal.returns-clause-valid
returns-clause-valid c = valid_split_behind

pub returns-clause-strict : goal.returns-clause-strict
returns-clause-strict c = strict_split_behind
