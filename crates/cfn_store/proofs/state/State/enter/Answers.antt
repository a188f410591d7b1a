use Rattle.std.proofs.Common.{◌∷◌, [], ◌++◌, refl, ap, ◌∙◌, subst, arith}
use Rattle.cfn_store.specs.Peaks.{AreForgotten}
use Rattle.cfn_store.specs.declared.state.State.{State}
use Rattle.cfn_store.proofs.Entering.{entered, same_kept}
use Rattle.cfn_store.proofs.state.State.enter.Goals as goal

pub returns-clause-room : goal.returns-clause-room
returns-clause-room c = λ room has. (let r = c.change.ensures.room room has in record {
  trail = let a = r.trail in let p = c.push_reserved.ensures.capacity in omega (arith, a, p);
  live = r.live;
  cuts = r.cuts;
  few = r.few;
})

pub returns-clause-state : goal.returns-clause-state
returns-clause-state c =
    let new : State = record c.change.new.self { peaks = c.forget_changed.new.peaks; trail = c.push_reserved.new.self } in
    entered c.args.network.now c.args.event c.args.self.now new (c.push_reserved.ensures.items ∙ ap (λ t. t.items ++ c.args.event ∷ []) c.change.ensures.trail) c.requires.state c.requires.exact c.law_lifted.ensures
    (same_kept c.args.network.now (c.args.event ∷ _) c.change.new.self new refl refl refl c.change.ensures.keeps)
    (subst (λ p. AreForgotten c.args.network.now c.args.event p.items c.forget_changed.new.peaks.items) c.change.ensures.peaks c.forget_changed.ensures)
