-- A task that is handed out keeps what a task keeps.
use Rattle.std.proofs.Common.{◌≡◌, ◌≤◌, sym, subst}
use Rattle.cfn_machine.specs.Pool.{Task, IsTask}
use Rattle.cfn_machine.specs.Steps.{Lack, NoneOpen, AllSpent, AllOut}
use Rattle.cfn_machine.proofs.CallerLemmas as machine
use Rattle.cfn_core.specs.Actions.{Idle, Given, none_reply, take_idle, take_none, take_task}
use Rattle.cfn_core.specs.Laws.{HandsOutTasks}

is_given : {task other : Task} → Given task ≡ Given other → task ≡ other
is_given h = cc

idle_given : {task : Task} {C : Type 0} → Given task ≡ Idle → C
idle_given h = absurd (cc)

none_given : {task : Task} (lack : Lack) {C : Type 0} → Given task ≡ none_reply lack → C
none_given NoneOpen h = absurd (cc)
none_given AllSpent h = absurd (cc)
none_given AllOut h = absurd (cc)

pub hands_out : HandsOutTasks
hands_out P w new worker want task world (take_idle h answers) = idle_given answers.reply
hands_out P w new worker want task world (take_none lack c h answers) = none_given lack answers.reply
hands_out P w new worker want task world (take_task made pool c takes answers) =
    let out = machine.hands_out P w.pool pool worker want made world.sound takes in
    subst (λ (t : Task). IsTask P t × (t.worker ≡ worker) × (t.grant ≤ want)) (sym (is_given answers.reply)) (out.0, out.1, out.2)
