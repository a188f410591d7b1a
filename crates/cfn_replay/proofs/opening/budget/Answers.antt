use Rattle.std.proofs.Common.{sym, ◌∙◌, []}
use Rattle.cfn_record.specs.Lines.{Budget, AtBudget, AtEvents, BudgetFollows}
use Rattle.cfn_replay.specs.Said.{line_in}
use Rattle.cfn_replay.specs.Standing.{numbers_lines}
use Rattle.cfn_replay.proofs.Beginning.{goes_on, no_line, budgeted, no_budget}
use Rattle.cfn_replay.proofs.opening.budget.Goals as goal

pub returns-in_default-clause-stop : goal.returns-in_default-clause-stop
returns-in_default-clause-stop c = rw (c.refused.ensures, c.due-line.ensures) (no_line c.args.network.now c.args.lines.now c.next-said.new.self (numbers_lines c.args.network.now) AtBudget (line_in c.next-said.result) c.requires c.next-said.ensures.tells (λ e. cc) (no_budget (line_in c.next-said.result) (sym c.budget_in.ensures ∙ c.in_default.is)))

pub returns-clause-right : goal.returns-clause-right
returns-clause-right c = goes_on c.args.network.now c.args.lines.now c.next-said.new.self (numbers_lines c.args.network.now) AtBudget (line_in c.next-said.result) c.requires c.next-said.ensures.tells (Budget c.in-Some.budget) (AtEvents []) (budgeted (line_in c.next-said.result) c.in-Some.budget (sym c.budget_in.ensures ∙ c.in-Some.is)) BudgetFollows tt
