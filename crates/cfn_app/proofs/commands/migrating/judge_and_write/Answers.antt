use Rattle.std.proofs.Common.{refl, subst}
use Rattle.cfn_model.proofs.CallerLemmas.{lower_bounds}
use Rattle.cfn_certwrite.proofs.CallerLemmas.{is_upgraded}
use Rattle.cfn_check.specs.Checking.{IsChecked}
use Rattle.cfn_report.specs.Texts.{refused_text}
use Rattle.cfn_app.specs.declared.status.Status.TheVariants.{Disproved}
use Rattle.cfn_app.specs.Runs.Migrating.{Rewrites, upgraded, disproved}
use Rattle.cfn_app.proofs.Ends.{ends_saying}
use Rattle.cfn_app.proofs.commands.migrating.judge_and_write.Goals as goal

pub returns-in-Ok-Verified : goal.returns-in-Ok-Verified
returns-in-Ok-Verified g c =
    let v = subst (λ answer. IsChecked c.args.network.now c.args.text.now answer) c.in-Ok-Verified.field-0-is c.in-Ok-Verified.ensures.checked in
    let k = v.certificate in
    upgraded k (record { spells = v.spells; good = v.good; network = c.law_limits.ensures; bounds = λ values fits. lower_bounds c.args.network.now k values c.law_limits.ensures v.good fits })
    (subst (λ t. Rewrites t c.args.out.now (g.D.Desk.outside c.args.desk.now) (g.D.Desk.outside c.write_upgraded.new.desk) c.write_upgraded.result) (is_upgraded c.args.text.now k v.spells) c.write_upgraded.ensures)

pub returns-in-Ok-Refused : goal.returns-in-Ok-Refused
returns-in-Ok-Refused g c =
    let old = g.D.Desk.outside c.args.desk.now in
    let new = g.D.Desk.outside c.write_refused.new.desk in
    let fault = subst (λ answer. IsChecked c.args.network.now c.args.text.now answer) c.in-Ok-Refused.field-0-is c.in-Ok-Refused.ensures.checked in
    disproved c.in-Ok-Refused.line c.in-Ok-Refused.kind fault c.write_refused.ensures.files
    (ends_saying old.calls old new (refused_text c.in-Ok-Refused.kind c.in-Ok-Refused.line) c.write_refused.result Disproved c.ending.result refl c.write_refused.ensures c.ending.ensures)
