use Rattle.std.proofs.Common.{sym, subst}
use Rattle.cfn_due.specs.Going.{IsNoted}
use Rattle.cfn_due.proofs.Staying.{holding_goes_on}
use Rattle.cfn_due.proofs.Noting.{noted_side}
use Rattle.cfn_due.proofs.due.Due.note.Goals as goal

pub returns-in-Did-clause-keeps : goal.returns-in-Did-clause-keeps
returns-in-Did-clause-keeps c = λ history debts holds.
    let P = c.args.network.now in
    holding_goes_on P history c.args.event.now c.args.self.now c.note_step.new.self c.law_limits.ensures c.requires.place debts
    (subst (λ e. IsNoted P e c.args.self.now c.note_step.new.self) (sym c.in-Did.is) c.note_step.ensures.noted)
    holds

-- the side of a split is noted
noted : (c : goal.After-lose) → IsNoted c.args.network.now c.args.event.now c.args.self.now c.lose.new.self
noted c =
    noted_side c.args.network.now c.args.event.now c.in-Took.decision c.variable.result c.args.self.now c.lose.new.self c.in-Took.is c.variable.ensures
    c.lose.ensures.arcs c.lose.ensures.directed c.lose.ensures.existing

pub returns-in-Took-clause-noted : goal.returns-in-Took-clause-noted
returns-in-Took-clause-noted c = noted c

pub returns-in-Took-clause-keeps : goal.returns-in-Took-clause-keeps
returns-in-Took-clause-keeps c = λ history debts holds.
    holding_goes_on c.args.network.now history c.args.event.now c.args.self.now c.lose.new.self c.law_limits.ensures c.requires.place debts (noted c) holds
