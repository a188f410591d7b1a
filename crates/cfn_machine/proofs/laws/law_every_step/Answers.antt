use Rattle.cfn_machine.proofs.Keeping.{keeps_rows, opens, opens_with, keeps_sound, keeps, holds}
use Rattle.cfn_machine.proofs.Numbering.{keeps_numbered}
use Rattle.cfn_machine.proofs.Parting.{opens_part}
use Rattle.cfn_machine.proofs.laws.law_every_step.Goals as goal

pub returns-clause-opens : goal.returns-clause-opens
returns-clause-opens c = opens

pub returns-clause-sound : goal.returns-clause-sound
returns-clause-sound c = keeps_sound

pub returns-clause-numbered : goal.returns-clause-numbered
returns-clause-numbered c = keeps_numbered

pub returns-clause-keeps : goal.returns-clause-keeps
returns-clause-keeps c = keeps

pub returns-clause-holds : goal.returns-clause-holds
returns-clause-holds c = holds

pub returns-clause-opens_with : goal.returns-clause-opens_with
returns-clause-opens_with c = opens_with

pub returns-clause-rows : goal.returns-clause-rows
returns-clause-rows c = keeps_rows

pub returns-clause-opens_part : goal.returns-clause-opens_part
returns-clause-opens_part c = opens_part
