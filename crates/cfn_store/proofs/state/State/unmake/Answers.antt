use Rattle.std.proofs.Common.{◌∷◌, refl, subst}
use Rattle.cfn_model.specs.declared.step.Event.TheVariants.{Did}
use Rattle.cfn_store.specs.State.{Keeps}
use Rattle.cfn_model.specs.Steps.{InRange}
use Rattle.cfn_store.proofs.States.{project_unmade, extend_unmade, lift_unmade}
use Rattle.cfn_store.proofs.state.State.unmake.Goals as goal

pub returns-in-Project-clause-keeps : goal.returns-in-Project-clause-keeps
returns-in-Project-clause-keeps c = λ history keeps. project_unmade c.args.network.now history c.args.self.now (record c.args.self.now { sums = c.take.new.self }) c.in-Project.function c.in-Project.place c.in-Project.value c.in-Project.amount c.take.ensures refl refl (subst (λ s. Keeps c.args.network.now (Did s ∷ history) c.args.self.now) c.in-Project.is keeps)

pub returns-in-Extend-clause-keeps : goal.returns-in-Extend-clause-keeps
returns-in-Extend-clause-keeps c = λ history keeps. extend_unmade c.args.network.now history c.args.self.now (record c.args.self.now { sums = c.give.new.self }) c.in-Extend.function c.in-Extend.place c.in-Extend.value c.in-Extend.amount c.give.ensures refl refl (subst (λ s. Keeps c.args.network.now (Did s ∷ history) c.args.self.now) c.in-Extend.is keeps)

pub returns-in-Lift-clause-keeps : goal.returns-in-Lift-clause-keeps
returns-in-Lift-clause-keeps c = λ history keeps. lift_unmade c.args.network.now history c.args.self.now (record c.args.self.now { sums = c.sink.new.self }) c.in-Lift.variable c.in-Lift.amount (c.sink.ensures c.args.network.now keeps.sums.shape (subst (λ s. InRange c.args.network.now s) c.in-Lift.is c.requires.range)) refl refl (subst (λ s. Keeps c.args.network.now (Did s ∷ history) c.args.self.now) c.in-Lift.is keeps)
