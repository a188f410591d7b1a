use Rattle.std.proofs.Common.{sym, ◌∙◌, subst}
use Rattle.cfn_line.specs.Appending.{Appends}
use Rattle.cfn_line.specs.declared.channel.Channel.TheVariants.{Screen}
use Rattle.cfn_report.specs.Texts.{merged_text}
use Rattle.cfn_app.proofs.Ends.{outputs_unwritten, outputs_written}
use Rattle.cfn_app.proofs.commands.merging.put_merged.Goals as goal

pub returns-then-is_err : goal.returns-then-is_err
returns-then-is_err g c = outputs_unwritten _ _ _ _ _ _ c.save.result c.write_write_fault.result _ (sym c.is_err.ensures.value ∙ c.if-is_err.true) c.save.ensures.not_written c.write_write_fault.ensures c.ending.ensures

pub returns : goal.returns
returns g c =
    let d = g.D.Desk in
    outputs_written _ _ _ _ _ _ c.save.result c.write_merged.result _ (sym c.is_err.ensures.value ∙ c.if-is_err.false) c.save.ensures.wrote
    (subst (λ best. Appends Screen (d.outside c.save.new.desk) (merged_text c.args.merged.now.lower best) c.write_merged.result (d.outside c.write_merged.new.desk)) c.best_cost.ensures c.write_merged.ensures)
    c.ending-2.ensures
