use Rattle.std.proofs.Common.{sym, ◌∙◌}
use Rattle.std.proofs.Common.{arith}
use Rattle.cfn_bestcheck.specs.Said.{line_in}
use Rattle.cfn_bestcheck.proofs.Telling.{many_stops, many_wrong, many_right}
use Rattle.cfn_bestcheck.proofs.opening.many.Goals as goal

pub returns-in_default-clause-stop : goal.returns-in_default-clause-stop
returns-in_default-clause-stop c = rw (c.grammar_fault.ensures, c.due-line.ensures) (many_stops c.args.network.now c.args.lines.now c.next-said.new.self (line_in c.next-said.result) c.next-said.ensures.tells c.args.count c.args.lower c.requires (sym c.many_in.ensures ∙ c.in_default.is))

pub returns-then-many-count-clause-stop : goal.returns-then-many-count-clause-stop
returns-then-many-count-clause-stop c = rw c.due-line.ensures (many_wrong c.args.network.now c.args.lines.now c.next-said.new.self (line_in c.next-said.result) c.next-said.ensures.tells c.args.count c.args.lower c.in-Some.many c.requires (sym c.many_in.ensures ∙ c.in-Some.is) (omega (arith, c.if-many-count.true)))

pub returns-clause-right : goal.returns-clause-right
returns-clause-right c = many_right c.args.network.now c.args.lines.now c.next-said.new.self (line_in c.next-said.result) c.next-said.ensures.tells c.args.count c.args.lower c.in-Some.many c.requires (sym c.many_in.ensures ∙ c.in-Some.is) (omega (arith, c.if-many-count.false))
