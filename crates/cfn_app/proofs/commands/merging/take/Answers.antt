use Rattle.std.proofs.Common.{subst}
use Rattle.cfn_merge.specs.Judging.{IsJudged}
use Rattle.cfn_app.proofs.Merges.{takes, takes_late, takes_refused}
use Rattle.cfn_app.proofs.commands.merging.take.Goals as goal

pub returns-in-Ok-Good-clause-taken : goal.returns-in-Ok-Good-clause-taken
returns-in-Ok-Good-clause-taken g c =
    let good = subst (λ j. IsJudged c.args.network.now c.deref.result.now j) c.in-Ok-Good.field-0-is c.in-Ok-Good.ensures in
    takes c.args.network.now c.args.name.now c.args.number (g.D.Desk.outside c.args.desk.now) (g.D.Desk.outside c.load_bytes.new.desk) c.in_ok-text.text.items c.deref.result.now c.in_ok-text.ensures.has c.in_ok-text.ensures.loaded
    c.deref.ensures.value c.in-Ok-Good.found c.law_limits.ensures good

pub returns-in-Ok-Refused-clause-untaken : goal.returns-in-Ok-Refused-clause-untaken
returns-in-Ok-Refused-clause-untaken g c =
    let fault = subst (λ j. IsJudged c.args.network.now c.deref.result.now j) c.in-Ok-Refused.field-0-is c.in-Ok-Refused.ensures in
    takes_refused c.args.network.now c.args.name.now c.args.number (g.D.Desk.outside c.args.desk.now) (g.D.Desk.outside c.load_bytes.new.desk) c.in_ok-text.text.items c.deref.result.now c.in_ok-text.ensures.has c.in_ok-text.ensures.loaded
    c.deref.ensures.value (g.D.Desk.outside c.write_refused_in.new.desk) c.in-Ok-Refused.line c.in-Ok-Refused.kind c.write_refused_in.result c.ending.result fault c.write_refused_in.ensures c.ending.ensures

pub returns-clause-untaken : goal.returns-clause-untaken
returns-clause-untaken g c =
    takes_late c.args.network.now c.args.name.now c.args.number (g.D.Desk.outside c.args.desk.now) (g.D.Desk.outside c.load_bytes.new.desk) c.in_ok-text.text.items c.deref.result.now c.in_ok-text.ensures.has c.in_ok-text.ensures.loaded
    c.deref.ensures.value (g.D.Desk.outside c.write_memory_fault.new.desk) c.write_memory_fault.result c.ending-in-Err.result c.write_memory_fault.ensures c.ending-in-Err.ensures
