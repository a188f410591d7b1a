use Rattle.std.proofs.Common.{◌∷◌, refl, sym, subst, arith}
use Rattle.cfn_model.specs.declared.step.Event.TheVariants.{Did}
use Rattle.cfn_store.specs.State.{Keeps, history_of}
use Rattle.cfn_model.specs.Steps.{InRange}
use Rattle.cfn_store.proofs.States.{project_made, extend_made, lift_made, tuple_cut, live_room, fresh_room, floor_room}
use Rattle.cfn_store.proofs.state.State.make.Goals as goal

pub lift-requires-clause-room : goal.lift-requires-clause-room
lift-requires-clause-room c = floor_room c.args.network.now c.args.self.now c.requires.room.0 c.law_limits.ensures c.requires.state c.requires.room.1 c.requires.room.2

pub cut-requires-clause-room : goal.cut-requires-clause-room
cut-requires-clause-room c = live_room c.args.network.now c.args.self.now c.requires.room.0 c.requires.state c.requires.room.1 c.requires.room.2

pub cut-requires-in-CutTuple-clause-room : goal.cut-requires-in-CutTuple-clause-room
cut-requires-in-CutTuple-clause-room c = (let r = fresh_room c.args.network.now c.args.self.now c.requires.room.0 c.requires.state c.requires.room.1 c.requires.room.2 in omega (arith, r))

pub returns-in-Project-clause-keeps : goal.returns-in-Project-clause-keeps
returns-in-Project-clause-keeps c = subst (λ s. Keeps c.args.network.now (Did s ∷ history_of c.args.self.now) (record c.args.self.now { sums = c.give.new.self })) (sym c.in-Project.is) (project_made c.args.network.now (history_of c.args.self.now) c.args.self.now (record c.args.self.now { sums = c.give.new.self }) c.in-Project.function c.in-Project.place c.in-Project.value c.in-Project.amount c.give.ensures refl refl c.requires.state.keeps)

pub returns-in-Extend-clause-keeps : goal.returns-in-Extend-clause-keeps
returns-in-Extend-clause-keeps c = subst (λ s. Keeps c.args.network.now (Did s ∷ history_of c.args.self.now) (record c.args.self.now { sums = c.take.new.self })) (sym c.in-Extend.is) (extend_made c.args.network.now (history_of c.args.self.now) c.args.self.now (record c.args.self.now { sums = c.take.new.self }) c.in-Extend.function c.in-Extend.place c.in-Extend.value c.in-Extend.amount c.take.ensures refl refl c.requires.state.keeps)

pub returns-in-Lift-clause-keeps : goal.returns-in-Lift-clause-keeps
returns-in-Lift-clause-keeps c = subst (λ s. Keeps c.args.network.now (Did s ∷ history_of c.args.self.now) (record c.args.self.now { sums = c.lift.new.self })) (sym c.in-Lift.is) (lift_made c.args.network.now (history_of c.args.self.now) c.args.self.now (record c.args.self.now { sums = c.lift.new.self }) c.in-Lift.variable c.in-Lift.amount (c.lift.ensures c.args.network.now c.requires.state.keeps.sums.shape (subst (λ s. InRange c.args.network.now s) c.in-Lift.is c.requires.exact.range.0)) refl refl c.requires.state.keeps)

pub returns-in-CutTuple-clause-keeps : goal.returns-in-CutTuple-clause-keeps
returns-in-CutTuple-clause-keeps c = subst (λ s. Keeps c.args.network.now (Did s ∷ history_of c.args.self.now) (record c.args.self.now { cuts = c.cut-in-CutTuple.new.self })) (sym c.in-CutTuple.is) (tuple_cut c.args.network.now (history_of c.args.self.now) c.args.self.now (record c.args.self.now { cuts = c.cut-in-CutTuple.new.self }) c.in-CutTuple.function c.in-CutTuple.cell refl refl (c.cut-in-CutTuple.ensures.cuts c.args.network.now (history_of c.args.self.now) (subst (λ s. InRange c.args.network.now s) c.in-CutTuple.is c.requires.exact.range.0) c.requires.state.keeps.cuts) c.requires.state.keeps)
