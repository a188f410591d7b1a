use Rattle.std.proofs.Common.{◌∷◌, subst, sym, ap, ◌∙◌, arith}
use Rattle.cfn_model.specs.declared.step.Event.TheVariants.{Did}
use Rattle.cfn_scan.specs.Exact.{IsExact}
use Rattle.cfn_store.specs.Standing.{Standing, history, with_step}
use Rattle.cfn_store.proofs.Stores.{history_is, step_kept, step_view}
use Rattle.cfn_store.proofs.store.Store.make.Goals as goal

pub enter-requires-clause-exact : goal.enter-requires-clause-exact
enter-requires-clause-exact c =
    subst (λ h. IsExact c.self.inside.network.now (Did c.args.step ∷ h)) (history_is c.self.inside.network.now c.self.inside.base c.self.inside.room c.self.inside.state c.self.invariant.0.steps)
    (subst (λ (s : Standing). IsExact s.network (Did c.args.step ∷ history s)) (sym c.self.view_is) c.requires.exact)

pub invariant_of-self : goal.invariant_of-self
invariant_of-self c =
    let l = ap (λ (s : Standing). s.spare) c.self.view_is in let r = c.requires.room in
    (step_kept c.self.inside.network.now c.self.inside.base c.self.inside.room c.self.inside.state c.enter.new.self c.args.step c.self.invariant.0 (omega (arith, l, r)) c.requires.spelled c.enter.ensures.state (c.enter.ensures.room c.self.inside.room c.self.invariant.0.room) c.enter.ensures.trail, c.self.invariant.1)

pub returns : goal.returns
returns c = step_view c.self.inside.network.now c.self.inside.base c.self.inside.room c.self.inside.state c.enter.new.self c.args.step c.self.invariant.0 c.enter.ensures.trail ∙ ap (λ s. with_step s c.args.step) c.self.view_is
