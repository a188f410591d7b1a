use Rattle.cfn_proof.proofs.Kept.{valid_behind_split, strict_behind_split}
use Rattle.cfn_proof.proofs.laws.law_kept_behind_by_a_split.Goals as goal

pub returns-clause-valid : goal.returns-clause-valid
returns-clause-valid c = valid_behind_split

pub returns-clause-strict : goal.returns-clause-strict
returns-clause-strict c = strict_behind_split
