use Rattle.cfn_machine.proofs.Parting.{sets_aside, keeps_aside, was_aside, ends_others, tells_own, has_paths}
use Rattle.cfn_machine.proofs.laws.law_parts.Goals as goal

pub returns-clause-sets : goal.returns-clause-sets
returns-clause-sets c = sets_aside

pub returns-clause-aside : goal.returns-clause-aside
returns-clause-aside c = keeps_aside

pub returns-clause-was : goal.returns-clause-was
returns-clause-was c = was_aside

pub returns-clause-ends : goal.returns-clause-ends
returns-clause-ends c = ends_others

pub returns-clause-own : goal.returns-clause-own
returns-clause-own c = tells_own

pub returns-clause-paths : goal.returns-clause-paths
returns-clause-paths c = has_paths
