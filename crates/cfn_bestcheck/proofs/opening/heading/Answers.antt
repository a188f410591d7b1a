use Rattle.std.proofs.Common.{sym, ◌∙◌}
use Rattle.cfn_bestcheck.specs.Said.{line_in}
use Rattle.cfn_bestcheck.proofs.Telling.{heading_stops, heading_right}
use Rattle.cfn_bestcheck.proofs.opening.heading.Goals as goal

pub returns-then-not-is_heading-clause-stop : goal.returns-then-not-is_heading-clause-stop
returns-then-not-is_heading-clause-stop c = rw (c.grammar_fault.ensures, c.due-line.ensures) (heading_stops c.args.network.now c.args.lines.now c.next-said.new.self (line_in c.next-said.result) c.next-said.ensures.tells c.requires (sym c.is_heading.ensures ∙ c.if-not-is_heading.true))

pub returns-clause-right : goal.returns-clause-right
returns-clause-right c = heading_right c.args.network.now c.args.lines.now c.next-said.new.self (line_in c.next-said.result) c.next-said.ensures.tells c.requires (sym c.is_heading.ensures ∙ c.if-not-is_heading.false)
