use Rattle.cfn_core.proofs.Always.{found, solves}
use Rattle.cfn_core.proofs.laws.law_solved.Goals as goal

pub returns-clause-found : goal.returns-clause-found
returns-clause-found c = found

pub returns-clause-solves : goal.returns-clause-solves
returns-clause-solves c = solves
