use Rattle.std.proofs.Common.{◌∷◌, subst, sym, ap, ◌∙◌, arith}
use Rattle.cfn_scan.specs.Exact.{IsExact}
use Rattle.cfn_store.specs.Kept.{IsStore}
use Rattle.cfn_store.specs.Standing.{Standing, history, with_side}
use Rattle.cfn_store.proofs.Stores.{view_of, history_is, side_kept, side_view}
use Rattle.cfn_store.proofs.store.Store.turn.Goals as goal

pub enter-requires-clause-exact : goal.enter-requires-clause-exact
enter-requires-clause-exact c =
    subst (λ h. IsExact c.self.inside.network.now (c.args.side ∷ h)) (history_is c.self.inside.network.now c.self.inside.base c.self.inside.room c.self.inside.state c.self.invariant.0.steps)
    (subst (λ (s : Standing). IsExact s.network (c.args.side ∷ history s)) (sym c.self.view_is) c.requires.exact)

pub invariant_of-self : goal.invariant_of-self
invariant_of-self c =
    let l = ap (λ (s : Standing). s.spare) c.self.view_is in let r = c.requires.room in (
      subst (λ n. IsStore c.self.inside.network.now n c.self.inside.room c.enter.new.self) (let e = c.len-self-inside.ensures in omega (arith, e))
          (side_kept c.self.inside.network.now c.self.inside.base c.self.inside.room c.self.inside.state c.enter.new.self c.args.side c.self.invariant.0 (omega (arith, l, r)) c.enter.ensures.state (c.enter.ensures.room c.self.inside.room c.self.invariant.0.room) c.enter.ensures.trail),
      c.self.invariant.1,
    )

pub returns : goal.returns
returns c =
    ap (λ n. view_of c.self.inside.network.now n c.self.inside.room c.enter.new.self) (let e = c.len-self-inside.ensures in omega (arith, e)) ∙ side_view c.self.inside.network.now c.self.inside.base c.self.inside.room c.self.inside.state c.enter.new.self c.args.side c.self.invariant.0 c.enter.ensures.trail ∙ ap (λ s. with_side s c.args.side) c.self.view_is
