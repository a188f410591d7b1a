use Rattle.std.proofs.Common.{[]}
use Rattle.cfn_fault.specs.Lines.{AtVersion}
use Rattle.cfn_check.proofs.Telling.{version_right}
use Rattle.cfn_check.proofs.reading.version.Goals as goal

pub returns-clause-right : goal.returns-clause-right
returns-clause-right c = λ P right. version_right P c.args.reader.now c.next.new.reader _ right (c.in_ok-_version.ensures.event [] AtVersion right.read)
