use Rattle.cfn_proof.proofs.Histories.{splits_split, splits_split_behind, splits_close}
use Rattle.cfn_proof.proofs.laws.law_one_split_more.Goals as goal

pub returns-clause-split : goal.returns-clause-split
returns-clause-split c = splits_split

pub returns-clause-split_behind : goal.returns-clause-split_behind
returns-clause-split_behind c = splits_split_behind

pub returns-clause-close : goal.returns-clause-close
returns-clause-close c = splits_close
