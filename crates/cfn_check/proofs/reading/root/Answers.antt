use Rattle.cfn_fault.specs.Lines.{AtRoot}
use Rattle.cfn_check.proofs.Telling.{root_right}
use Rattle.cfn_check.proofs.reading.root.Goals as goal

pub returns-clause-right : goal.returns-clause-right
returns-clause-right c = λ P ls version right. root_right P c.args.reader.now c.next.new.reader ls version _ right (c.in_ok-_root.ensures.event ls (AtRoot version) right.read)
