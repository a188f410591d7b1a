use Rattle.std.proofs.Common.{refl, subst}
use Rattle.cfn_certwrite.specs.RecordTexts.{record_refused_text}
use Rattle.cfn_replay.specs.Answers.{IsAnswer}
use Rattle.cfn_app.specs.declared.status.Status.TheVariants.{Disproved}
use Rattle.cfn_app.specs.Runs.Replaying.{WritesAgain, disproved, replayed}
use Rattle.cfn_app.proofs.Ends.{ends_saying}
use Rattle.cfn_app.proofs.Returning.{certificate_in, comes_to}
use Rattle.cfn_app.proofs.commands.replaying.run_again.Goals as goal

pub returns-in-Certificate : goal.returns-in-Certificate
returns-in-Certificate g c =
    let P = c.args.network.now in
    let is = subst (IsAnswer P c.args.text.now) c.in-Certificate.is c.replay.ensures in
    replayed (certificate_in P c.args.text.now c.in-Certificate.bytes.items is) (comes_to P c.args.text.now c.in-Certificate.bytes.items c.law_limits.ensures is)
    (subst (λ text. WritesAgain text c.args.out.now (g.D.Desk.outside c.args.desk.now) (g.D.Desk.outside c.write_again.new.desk) c.write_again.result) is.comes.exact (rw c.deref.ensures.value at c.write_again.ensures))

pub returns-in-Refused : goal.returns-in-Refused
returns-in-Refused g c =
    let old = g.D.Desk.outside c.args.desk.now in
    let new = g.D.Desk.outside c.write_record_refused.new.desk in
    let fault = subst (IsAnswer c.args.network.now c.args.text.now) c.in-Refused.is c.replay.ensures in
    let ends = ends_saying old.calls old new (record_refused_text c.in-Refused.kind c.in-Refused.line) c.write_record_refused.result Disproved c.ending.result refl c.write_record_refused.ensures c.ending.ensures in
    disproved c.in-Refused.line c.in-Refused.kind fault c.write_record_refused.ensures.files ends
