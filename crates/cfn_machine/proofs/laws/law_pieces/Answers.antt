use Rattle.cfn_machine.proofs.Answering.{gives_or_not, gives_out, returns_or_not, returns_out}
use Rattle.cfn_machine.proofs.laws.law_pieces.Goals as goal

pub returns-clause-given : goal.returns-clause-given
returns-clause-given c = gives_or_not

pub returns-clause-out : goal.returns-clause-out
returns-clause-out c = gives_out

pub returns-clause-returned : goal.returns-clause-returned
returns-clause-returned c = returns_or_not

pub returns-clause-back : goal.returns-clause-back
returns-clause-back c = returns_out
