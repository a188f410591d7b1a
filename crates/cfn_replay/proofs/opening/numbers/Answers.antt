use Rattle.std.proofs.Common.{sym, refl, ◌∙◌}
use Rattle.std.proofs.lemmas.Bool.{iff_false}
use Rattle.cfn_fault.specs.Lines as lines
use Rattle.cfn_record.specs.declared.kind.RecordFault.TheVariants as kinds
use Rattle.cfn_record.specs.Lines.{Says, AtNumbers, AtBudget, NumbersFollow}
use Rattle.cfn_replay.specs.Said.{line_in}
use Rattle.cfn_replay.specs.Standing.{heading_lines}
use Rattle.cfn_replay.proofs.Beginning.{goes_on, no_line, wrong_line, numbered, no_numbers}
use Rattle.cfn_replay.proofs.Beginning.{same_numbers}
use Rattle.cfn_replay.proofs.opening.numbers.Goals as goal

pub returns-in_default-clause-stop : goal.returns-in_default-clause-stop
returns-in_default-clause-stop c = rw (c.refused.ensures, c.due-line.ensures) (no_line c.args.network.now c.args.lines.now c.next-said.new.self heading_lines AtNumbers (line_in c.next-said.result) c.requires c.next-said.ensures.tells (λ e. cc) (no_numbers (line_in c.next-said.result) (sym c.numbers_in.ensures ∙ c.in_default.is)))

pub returns-then-not-has_numbers-clause-stop : goal.returns-then-not-has_numbers-clause-stop
returns-then-not-has_numbers-clause-stop c = rw (c.refused-then-not-has_numbers.ensures, c.due-line.ensures) (wrong_line c.args.network.now c.args.lines.now c.next-said.new.self heading_lines AtNumbers (line_in c.next-said.result) c.requires c.next-said.ensures.tells (Says (lines.Numbers c.in-Some.numbers.variables c.in-Some.numbers.functions c.in-Some.numbers.upper)) AtBudget kinds.Network (numbered (line_in c.next-said.result) c.in-Some.numbers (sym c.numbers_in.ensures ∙ c.in-Some.is)) NumbersFollow (refl, iff_false c.has_numbers.ensures c.if-not-has_numbers.true))

pub returns-clause-right : goal.returns-clause-right
returns-clause-right c =
    let h = c.has_numbers.ensures.0 c.if-not-has_numbers.false in
    same_numbers c.args.network.now c.next-said.new.self c.in-Some.numbers h (goes_on c.args.network.now c.args.lines.now c.next-said.new.self heading_lines AtNumbers (line_in c.next-said.result) c.requires c.next-said.ensures.tells (Says (lines.Numbers c.in-Some.numbers.variables c.in-Some.numbers.functions c.in-Some.numbers.upper)) AtBudget (numbered (line_in c.next-said.result) c.in-Some.numbers (sym c.numbers_in.ensures ∙ c.in-Some.is)) NumbersFollow h)
