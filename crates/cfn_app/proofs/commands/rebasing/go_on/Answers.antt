use Rattle.std.proofs.Common.{refl, subst}
use Rattle.cfn_fault.specs.declared.kind.FaultKind.TheVariants as kinds
use Rattle.cfn_report.specs.Texts.{refused_text}
use Rattle.cfn_rebase.specs.Resuming.{IsResumed}
use Rattle.cfn_search.specs.Beginning.{start_of}
use Rattle.cfn_app.specs.declared.status.Status.TheVariants.{Disproved}
use Rattle.cfn_cli.specs.Request.Rebasing.{spoken_rebase}
use Rattle.cfn_app.specs.Runs.Rebasing.{searches, unspelled, part_of}
use Rattle.cfn_app.proofs.Ends.{ends_saying}
use Rattle.cfn_app.proofs.commands.rebasing.go_on.Goals as goal

pub open_and_search-requires-clause-may : goal.open_and_search-requires-clause-may
open_and_search-requires-clause-may g c κs within = (subst (λ answer. IsResumed c.args.network.now (part_of (spoken_rebase c.args.ask.now)) c.args.text.now answer) c.in-Ok-Goes.field-0-is (rw c.part_of.ensures.part at c.in-Ok-Goes.ensures)).0

pub returns-in-Ok-Goes : goal.returns-in-Ok-Goes
returns-in-Ok-Goes g c =
    searches (start_of c.args.network.now c.in-Ok-Goes.begin) (subst (λ answer. IsResumed c.args.network.now (part_of (spoken_rebase c.args.ask.now)) c.args.text.now answer) c.in-Ok-Goes.field-0-is (rw c.part_of.ensures.part at c.in-Ok-Goes.ensures)).1 c.open_and_search.ensures

pub returns-in-Ok-Refused : goal.returns-in-Ok-Refused
returns-in-Ok-Refused g c =
    let old = g.D.Desk.outside c.args.desk.now in
    let new = g.D.Desk.outside c.write_refused.new.desk in
    let fault = subst (λ answer. IsResumed c.args.network.now (part_of (spoken_rebase c.args.ask.now)) c.args.text.now answer) c.in-Ok-Refused.field-0-is (rw c.part_of.ensures.part at c.in-Ok-Refused.ensures) in
    let ends = ends_saying old.calls old new (refused_text kinds.Text c.in-Ok-Refused.line) c.write_refused.result Disproved c.ending.result refl c.write_refused.ensures c.ending.ensures in
    unspelled c.in-Ok-Refused.line fault c.write_refused.ensures.files ends
