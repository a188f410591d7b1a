use Rattle.std.proofs.Common.{refl}
use Rattle.cfn_model.specs.Text.{line}
use Rattle.cfn_certwrite.specs.Walk.{end_words}
use Rattle.cfn_line.specs.declared.channel.Channel.TheVariants.{File}
use Rattle.cfn_line.proofs.CallerLemmas.{begin}
use Rattle.cfn_certwrite.proofs.Gathering.{go_on, break, gathered}
use Rattle.cfn_certwrite.proofs.Trees.{node_parts}
use Rattle.cfn_certwrite.proofs.record_nodes.gather_node.Goals as goal

pub returns-in_err-gather_steps : goal.returns-in_err-gather_steps
returns-in_err-gather_steps g c =
    break _ c.from_residual.ensures.0 _ (node_parts c.args.batch.now c.args.node.now) (begin File _ _ c.requires) c.in_err-gather_steps.ensures

pub returns-in_err-make_room : goal.returns-in_err-make_room
returns-in_err-make_room g c =
    break _ c.from_residual-in_err-make_room.ensures.0 (line (end_words c.args.node.now.end)) refl
    (go_on _ (node_parts c.args.batch.now c.args.node.now) (begin File _ _ c.requires) c.in_ok-gather_steps.ensures)
    c.in_err-make_room.ensures.put

pub returns : goal.returns
returns g c =
    gathered c.add_end.ensures
    (go_on (line (end_words c.args.node.now.end)) refl
    (go_on _ (node_parts c.args.batch.now c.args.node.now) (begin File _ _ c.requires) c.in_ok-gather_steps.ensures)
    c.in_ok-make_room.ensures.put)
