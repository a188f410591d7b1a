use Rattle.std.proofs.Common.{sym, ◌∙◌}
use Rattle.cfn_bestcheck.specs.Said.{line_in}
use Rattle.cfn_bestcheck.proofs.Telling.{root_stops, root_right}
use Rattle.cfn_bestcheck.proofs.opening.root.Goals as goal

pub returns-then-not-is_root-clause-stop : goal.returns-then-not-is_root-clause-stop
returns-then-not-is_root-clause-stop c = rw (c.grammar_fault.ensures, c.due-line.ensures) (λ claim at. root_stops c.args.network.now c.args.lines.now c.next-said.new.self (line_in c.next-said.result) c.next-said.ensures.tells claim at (sym c.is_root.ensures ∙ c.if-not-is_root.true))

pub returns-clause-right : goal.returns-clause-right
returns-clause-right c = λ claim at. root_right c.args.network.now c.args.lines.now c.next-said.new.self (line_in c.next-said.result) c.next-said.ensures.tells claim at (sym c.is_root.ensures ∙ c.if-not-is_root.false)
