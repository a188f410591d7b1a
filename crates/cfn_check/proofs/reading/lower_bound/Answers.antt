use Rattle.cfn_fault.specs.Lines.{AtLower}
use Rattle.cfn_check.specs.Checking.{front_lines}
use Rattle.cfn_check.proofs.Telling.{lower_told, lower_right}
use Rattle.cfn_check.proofs.reading.lower_bound.Goals as goal

pub unreachable-requires : goal.unreachable-requires
unreachable-requires c =
    let version = c.requires.0 in
    let due = c.requires.1 in
    let t = lower_told c.args.reader.now c.next.new.reader due.0 version _ due.2 (c.in_ok-event.ensures.event due.0 (AtLower version) due.1) in
    c.in_default.not-Lower t.0 t.1

pub returns-clause-right : goal.returns-clause-right
returns-clause-right c = λ P numbered. lower_right P c.args.reader.now c.next.new.reader _ c.in-Lower.lower c.in-Lower.is numbered (c.in_ok-event.ensures.event (front_lines numbered.0 P) (AtLower numbered.0) numbered.1.read)
