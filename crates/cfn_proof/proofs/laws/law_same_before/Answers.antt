use Rattle.cfn_proof.proofs.Histories.{before_split, before_split_behind, before_close, before_once, before_some}
use Rattle.cfn_proof.proofs.laws.law_same_before.Goals as goal

pub returns-clause-split : goal.returns-clause-split
returns-clause-split c = before_split

pub returns-clause-split_behind : goal.returns-clause-split_behind
returns-clause-split_behind c = before_split_behind

pub returns-clause-close : goal.returns-clause-close
returns-clause-close c = before_close

pub returns-clause-once : goal.returns-clause-once
returns-clause-once c = before_once

pub returns-clause-some : goal.returns-clause-some
returns-clause-some c = before_some
