use Rattle.std.proofs.Common.{sym, ◌∙◌, []}
use Rattle.cfn_record.specs.Lines.{Heading, AtHeading, AtNumbers, HeadingFollows}
use Rattle.cfn_replay.specs.Said.{line_in}
use Rattle.cfn_replay.proofs.Beginning.{goes_on, no_line, headed, no_heading}
use Rattle.cfn_replay.proofs.opening.heading.Goals as goal

pub returns-then-not-is_heading-clause-stop : goal.returns-then-not-is_heading-clause-stop
returns-then-not-is_heading-clause-stop c = rw (c.refused.ensures, c.due-line.ensures) (no_line c.args.network.now c.args.lines.now c.next-said.new.self [] AtHeading (line_in c.next-said.result) c.requires c.next-said.ensures.tells (λ e. cc) (no_heading (line_in c.next-said.result) (sym c.is_heading.ensures ∙ c.if-not-is_heading.true)))

pub returns-clause-right : goal.returns-clause-right
returns-clause-right c = goes_on c.args.network.now c.args.lines.now c.next-said.new.self [] AtHeading (line_in c.next-said.result) c.requires c.next-said.ensures.tells Heading AtNumbers (headed (line_in c.next-said.result) (sym c.is_heading.ensures ∙ c.if-not-is_heading.false)) HeadingFollows tt
