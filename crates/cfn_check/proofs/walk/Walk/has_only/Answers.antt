use Rattle.std.proofs.Common.{List, subst}
use Rattle.std.specs.Prelude.{IsTrue, ◌↔◌}
use Rattle.cfn_model.specs.declared.step.Event.{Event}
use Rattle.cfn_check.specs.Asking.{HasOnly}
use Rattle.cfn_check.proofs.Walking.{due_first}
use Rattle.cfn_check.proofs.walk.Walk.has_only.Goals as goal

pub returns : goal.returns
returns c = λ history paths due.
    let first = due_first c.self.inside.over c.self.inside.ledger.history _ history paths (rw (← c.self.view_is) at due) in
    subst (λ (h : List Event). IsTrue c.has_only.result ↔ HasOnly c.args.network.now h c.args.values.now) first.first c.has_only.ensures
