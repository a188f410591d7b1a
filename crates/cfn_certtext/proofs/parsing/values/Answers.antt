use Rattle.std.proofs.Common.{sym, ◌∙◌}
use Rattle.cfn_certtext.proofs.Words.{no_first_value, values_fail, values_said}
use Rattle.cfn_certtext.proofs.parsing.values.Goals as goal

pub returns-in_err-first-clause-gives : goal.returns-in_err-first-clause-gives
returns-in_err-first-clause-gives c = rw c.from_residual.ensures (no_first_value c.args.fields c.in_err-first.ensures)

pub returns-then-not-are_numbers-clause-gives : goal.returns-then-not-are_numbers-clause-gives
returns-then-not-are_numbers-clause-gives c = values_fail c.args.fields c.in_ok-first.first c.number.new.self c.in_ok-first.ensures (sym c.are_numbers.ensures ∙ c.if-not-are_numbers.true)

pub returns-clause-gives : goal.returns-clause-gives
returns-clause-gives c = values_said c.args.fields c.in_ok-first.first c.number.new.self c.in_ok-first.ensures (sym c.are_numbers.ensures ∙ c.if-not-are_numbers.false)
