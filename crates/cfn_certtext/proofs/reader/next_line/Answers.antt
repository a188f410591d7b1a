use Rattle.cfn_certtext.specs.Parsed.{line_of_parsed}
use Rattle.cfn_certtext.proofs.Telling.{no_line_without_end, no_line_in_words, no_line_due, is_next_line}
use Rattle.cfn_certtext.proofs.reader.next_line.Goals as goal

pub returns-in_err-end-clause-none : goal.returns-in_err-end-clause-none
returns-in_err-end-clause-none c = rw c.from_residual.ensures (no_line_without_end c.args.rest.now c.args.stage c.in_err-end.ensures)

pub returns-in_err-parsed-clause-none : goal.returns-in_err-parsed-clause-none
returns-in_err-parsed-clause-none c = rw c.from_residual-in_err-parsed.ensures (no_line_in_words c.args.rest.now c.args.stage c.in_ok-end.end c.in_ok-end.ensures c.in_err-parsed.ensures.gives)

pub returns-in_err-stage-clause-none : goal.returns-in_err-stage-clause-none
returns-in_err-stage-clause-none c =
    rw c.from_residual-in_err-stage.ensures (no_line_due c.args.rest.now c.args.stage c.in_ok-end.end (line_of_parsed c.in_ok-parsed.parsed) c.in_ok-end.ensures c.in_ok-parsed.ensures.gives c.in_err-stage.ensures)

pub returns-clause-some : goal.returns-clause-some
returns-clause-some c =
    is_next_line c.args.rest.now c.args.stage c.in_ok-end.end (line_of_parsed c.in_ok-parsed.parsed) c.in_ok-stage.stage _ _ c.in_ok-end.ensures c.in_ok-parsed.ensures.gives c.in_ok-stage.ensures c.first_event-item.ensures.item c.first_event-item.ensures.left
