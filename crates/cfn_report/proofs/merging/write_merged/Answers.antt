use Rattle.std.proofs.Common.{[], ◌∷◌, subst, codes, decimal}
use Rattle.cfn_model.specs.Text.{line}
use Rattle.cfn_line.specs.Appending.{Appends}
use Rattle.cfn_line.specs.declared.channel.Channel.TheVariants.{Screen}
use Rattle.cfn_report.proofs.merging.write_merged.Goals as goal

pub returns : goal.returns
returns g c =
    let d = g.D.Desk in
    subst (λ best. Appends Screen (d.outside c.args.desk.now) (line (codes "merged" ∷ codes "lower" ∷ decimal c.args.lower ∷ codes "best" ∷ best ∷ [])) c.write_line.result (d.outside c.write_line.new.desk)) c.word_of.ensures c.write_line.ensures
