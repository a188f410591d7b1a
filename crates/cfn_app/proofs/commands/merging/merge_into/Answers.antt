use Rattle.std.proofs.Common.{◌∷◌, ap, ◌∙◌}
use Rattle.cfn_desk.specs.Outside.{written}
use Rattle.cfn_app.specs.Runs.Merging.{not_all, writes}
use Rattle.cfn_app.proofs.Merges.{loads_written}
use Rattle.cfn_app.proofs.commands.merging.merge_into.Goals as goal

pub write_merged-requires : goal.write_merged-requires
write_merged-requires g c =
    let t = c.in-Ok.ensures.taken in
    ap written (ap (λ o. o.calls) t.outside) ∙ loads_written (t.first ∷ t.others) (g.D.Desk.outside c.args.desk.now).calls ∙ c.requires.idle

pub returns-in-Ok : goal.returns-in-Ok
returns-in-Ok g c = writes _ _ c.in-Ok.ensures.taken c.write_merged.ensures

pub returns-in-Err : goal.returns-in-Err
returns-in-Err g c = not_all c.take_all.ensures.files c.in-Err.ensures.untaken
