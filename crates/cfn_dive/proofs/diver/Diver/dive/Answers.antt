use Rattle.std.proofs.Common.{sym, ◌∙◌, subst}
use Rattle.std.specs.Prelude.{IfOk}
use Rattle.cfn_dive.specs.Making.{IsMade}
use Rattle.cfn_dive.proofs.States.{of_here}
use Rattle.cfn_dive.proofs.diver.Diver.dive.Goals as goal

pub handed_back-requires : goal.handed_back-requires
handed_back-requires g c =
    subst (λ k. IfOk c.grow-made.result (λ made. IsMade c.args.task.network c.args.task.task c.args.backtracks (g.H.Halt.limited c.args.halt.now) k made.tree made.cut)) (sym c.seen.ensures)
    (subst (λ Q. IfOk c.grow-made.result (λ made. IsMade Q c.args.task.task c.args.backtracks (g.H.Halt.limited c.args.halt.now) c.grow-made.new.holder.seen made.tree made.cut)) (c.self.view_is ∙ sym c.requires.task) c.grow-made.ensures.made)

pub invariant_of-self : goal.invariant_of-self
invariant_of-self g c = of_here _ c.grow-made.new.self c.grow-made.ensures.of
