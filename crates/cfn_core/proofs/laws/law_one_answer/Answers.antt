use Rattle.cfn_core.proofs.Answering.{answers_all, answers_once, answers_nobody, runs_all, runs_once}
use Rattle.cfn_core.proofs.laws.law_one_answer.Goals as goal

pub returns-clause-all : goal.returns-clause-all
returns-clause-all c = answers_all

pub returns-clause-once : goal.returns-clause-once
returns-clause-once c = answers_once

pub returns-clause-nobody : goal.returns-clause-nobody
returns-clause-nobody c = answers_nobody

pub returns-clause-runs : goal.returns-clause-runs
returns-clause-runs c = runs_all

pub returns-clause-one_run : goal.returns-clause-one_run
returns-clause-one_run c = runs_once
