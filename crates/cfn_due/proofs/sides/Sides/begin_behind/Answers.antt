use Rattle.std.proofs.Common.{inl, inr, sym, ap, ◌∙◌, subst}
use Rattle.cfn_due.specs.Going.{GoesSide}
use Rattle.cfn_due.specs.Siding.{Siding, AreAsked}
use Rattle.cfn_due.proofs.Asking.{none_doubted, supported_on, asked_side}
use Rattle.cfn_due.proofs.sides.Sides.begin_behind.Goals as goal

pub returns-in-Did-clause-known : goal.returns-in-Did-clause-known
returns-in-Did-clause-known c = λ history k debts arcs.
    let P = c.args.incidence.now in
    let middle : Siding = record { size = c.self.inside.size; doubted = c.clear.new.self } in
    let size = ap (λ (r : Siding). r.size) c.self.view_is ∙ c.requires.size in
    supported_on P history c.args.event.now middle c.note_step.new.self debts
    (subst (λ event. AreAsked P middle c.note_step.new.self (GoesSide P event)) (sym c.in-Did.is) c.note_step.ensures)
    (none_doubted P history k middle size arcs)

pub returns-in-Took-clause-known : goal.returns-in-Took-clause-known
returns-in-Took-clause-known c = λ history k debts arcs.
    let P = c.args.incidence.now in
    let middle : Siding = record { size = c.self.inside.size; doubted = c.clear.new.self } in
    let size = ap (λ (r : Siding). r.size) c.self.view_is ∙ c.requires.size in
    supported_on P history c.args.event.now middle c.touch.new.self debts
    (asked_side P c.args.event.now c.in-Took.decision c.variable.result middle c.touch.new.self (inl c.in-Took.is) c.variable.ensures c.touch.ensures)
    (none_doubted P history k middle size arcs)

pub returns-in-Refused-clause-known : goal.returns-in-Refused-clause-known
returns-in-Refused-clause-known c = λ history k debts arcs.
    let P = c.args.incidence.now in
    let middle : Siding = record { size = c.self.inside.size; doubted = c.clear.new.self } in
    let size = ap (λ (r : Siding). r.size) c.self.view_is ∙ c.requires.size in
    supported_on P history c.args.event.now middle c.touch-in-Refused.new.self debts
    (asked_side P c.args.event.now c.in-Refused.decision c.variable-in-Refused.result middle c.touch-in-Refused.new.self (inr c.in-Refused.is) c.variable-in-Refused.ensures c.touch-in-Refused.ensures)
    (none_doubted P history k middle size arcs)
