use Rattle.std.proofs.Common.{subst, refl, ◌∙◌, length}
use Rattle.cfn_model.specs.Text.{values_fault_text, value_fault_text}
use Rattle.cfn_app.specs.declared.status.Status.TheVariants.{Refused}
use Rattle.cfn_app.specs.Endings.{Ends}
use Rattle.cfn_app.specs.Runs.Costing.{wrong_number, wrong_value}
use Rattle.cfn_app.proofs.Ends.{ends_saying}
use Rattle.cfn_app.proofs.commands.costing.say_cost.Goals as goal

pub returns-in-Length-clause-ends : goal.returns-in-Length-clause-ends
returns-in-Length-clause-ends g c =
    let old = g.D.Desk.outside c.args.desk.now in
    let new = g.D.Desk.outside c.write_values_fault-said.new.desk in
    wrong_number (c.fits.ensures.lengths.0 c.in-Length.is)
    (subst (λ n. Ends (record { calls = old.calls; text = values_fault_text n (length c.args.values.now); status = Refused }) new.calls c.ending-in-Length.result) (c.from-variables.ensures ∙ c.variables.ensures)
    (ends_saying old.calls old new (values_fault_text c.from-variables.result (length c.args.values.now)) c.write_values_fault-said.result Refused c.ending-in-Length.result refl c.write_values_fault-said.ensures c.ending-in-Length.ensures))

pub returns-in-Value-clause-ends : goal.returns-in-Value-clause-ends
returns-in-Value-clause-ends g c =
    let old = g.D.Desk.outside c.args.desk.now in
    let new = g.D.Desk.outside c.write_value_fault.new.desk in
    wrong_value c.in-Value.x ((c.fits.ensures.value c.in-Value.x).0 c.in-Value.is)
    (ends_saying old.calls old new (value_fault_text c.in-Value.x) c.write_value_fault.result Refused c.ending-in-Value.result refl c.write_value_fault.ensures c.ending-in-Value.ensures)
