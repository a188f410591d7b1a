use Rattle.std.proofs.Common.{sym, ◌∙◌}
use Rattle.cfn_bestcheck.specs.Said.{line_in}
use Rattle.cfn_bestcheck.proofs.Telling.{count_stops, count_right}
use Rattle.cfn_bestcheck.proofs.opening.count.Goals as goal

pub returns-in_default-clause-stop : goal.returns-in_default-clause-stop
returns-in_default-clause-stop c = rw (c.grammar_fault.ensures, c.due-line.ensures) (count_stops c.args.network.now c.args.lines.now c.next-said.new.self (line_in c.next-said.result) c.next-said.ensures.tells c.requires (sym c.count_in.ensures ∙ c.in_default.is))

pub returns-clause-right : goal.returns-clause-right
returns-clause-right c = count_right c.args.network.now c.args.lines.now c.next-said.new.self (line_in c.next-said.result) c.next-said.ensures.tells c.in-Some.count c.requires (sym c.count_in.ensures ∙ c.in-Some.is)
