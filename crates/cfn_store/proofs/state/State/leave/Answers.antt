use Rattle.std.proofs.Common.{[], ◌∷◌, ◌++◌, refl, sym, ap, subst, ◌∙◌, arith}
use Rattle.cfn_store.specs.Peaks.{AreForgotten}
use Rattle.cfn_store.specs.State.{history_of}
use Rattle.cfn_store.specs.declared.state.State.{State}
use Rattle.cfn_store.proofs.Entering.{left, same_kept}
use Rattle.cfn_store.proofs.state.State.leave.Goals as goal

pub returns-in-Some-clause-room : goal.returns-in-Some-clause-room
returns-in-Some-clause-room c = λ room has. (let r = c.change_back.ensures.room room (record {
  trail = let a = has.trail in let p = c.pop.ensures.capacity in omega (arith, a, p);
  live = has.live;
  cuts = has.cuts;
  few = has.few;
}) in record { trail = r.trail; live = r.live; cuts = r.cuts; few = r.few })

pub returns-in-Some-clause-state : goal.returns-in-Some-clause-state
returns-in-Some-clause-state c =
    let popped : State = record c.args.self.now { trail = c.pop.new.self } in
    let new : State = record c.change_back.new.self { peaks = c.forget_changed.new.peaks } in
    left c.args.network.now c.in-Some.event c.args.self.now new (c.in-Some.ensures.items ∙ ap (λ t. t.items ++ c.in-Some.event ∷ []) (sym c.change_back.ensures.trail)) c.requires.state
    (λ keeps. same_kept c.args.network.now (history_of new) c.change_back.new.self new refl refl refl (c.change_back.ensures.keeps (history_of new) (same_kept c.args.network.now _ c.args.self.now popped refl refl refl keeps)))
    (subst (λ p. AreForgotten c.args.network.now c.in-Some.event p.items c.forget_changed.new.peaks.items) c.change_back.ensures.peaks c.forget_changed.ensures)
