use Rattle.std.proofs.Common.{sym, ◌∙◌}
use Rattle.std.proofs.lemmas.Bool.{iff_false}
use Rattle.cfn_bestcheck.specs.Said.{line_in}
use Rattle.cfn_bestcheck.proofs.Telling.{numbers_stop, numbers_wrong, numbers_right}
use Rattle.cfn_bestcheck.proofs.opening.numbers.Goals as goal

pub returns-in_default-clause-stop : goal.returns-in_default-clause-stop
returns-in_default-clause-stop c = rw (c.grammar_fault.ensures, c.due-line.ensures) (numbers_stop c.args.network.now c.args.lines.now c.next-said.new.self (line_in c.next-said.result) c.next-said.ensures.tells c.requires (sym c.numbers_in.ensures ∙ c.in_default.is))

pub returns-then-not-has_numbers-clause-stop : goal.returns-then-not-has_numbers-clause-stop
returns-then-not-has_numbers-clause-stop c = rw c.due-line.ensures (numbers_wrong c.args.network.now c.args.lines.now c.next-said.new.self (line_in c.next-said.result) c.next-said.ensures.tells c.in-Some.numbers c.requires (sym c.numbers_in.ensures ∙ c.in-Some.is) (iff_false c.has_numbers.ensures c.if-not-has_numbers.true))

pub returns-clause-right : goal.returns-clause-right
returns-clause-right c = numbers_right c.args.network.now c.args.lines.now c.next-said.new.self (line_in c.next-said.result) c.next-said.ensures.tells c.in-Some.numbers c.requires (sym c.numbers_in.ensures ∙ c.in-Some.is) (c.has_numbers.ensures.0 c.if-not-has_numbers.false)
