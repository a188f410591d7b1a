use Rattle.cfn_proof.proofs.Histories.{count_split, count_split_behind, count_close}
use Rattle.cfn_proof.proofs.laws.law_one_node_more.Goals as goal

pub returns-clause-split : goal.returns-clause-split
returns-clause-split c = count_split

pub returns-clause-split_behind : goal.returns-clause-split_behind
returns-clause-split_behind c = count_split_behind

pub returns-clause-close : goal.returns-clause-close
returns-clause-close c = count_close
