use Rattle.std.proofs.Common.{◌<◌, length, refl, sym, ap, ◌∙◌, subst}
use Rattle.cfn_model.specs.Network.{Network}
use Rattle.cfn_store.specs.Standing.{history}
use Rattle.cfn_derivation.specs.Derived.{AllAlive}
use Rattle.cfn_derivation.specs.Banned.{bans_of}
use Rattle.cfn_vac.specs.Roots.{Root}
use Rattle.cfn_vac.proofs.Roots.{ends_of}
use Rattle.cfn_vac.proofs.vac.RootVac.lift_once.Goals as goal

pub derive-requires-clause-alive : goal.derive-requires-clause-alive
derive-requires-clause-alive c =
    subst (λ (N : Network). AllAlive N (history c.args.store.now)) (sym (c.self.invariant.0 ∙ ap (λ (r : Root). r.network) c.self.view_is)) c.requires.ready.alive

pub lift-requires-clause-variable : goal.lift-requires-clause-variable
lift-requires-clause-variable c =
    subst (λ (N : Network). c.in-Emptied.x < length N.sizes) (c.self.invariant.0 ∙ sym c.self.invariant.2) (c.in-Emptied.ensures.emptied c.in-Emptied.x refl).emptied.0

pub returns-in-Emptied-clause-ends : goal.returns-in-Emptied-clause-ends
returns-in-Emptied-clause-ends c =
    let view = ap (λ (r : Root). r.network) c.self.view_is in
    ends_of c.args.self.now.network c.self.inside.deriver.network c.self.inside.lifter c.args.store.now c.derive.new.store c.lift.new.store c.args.q (bans_of c.args.self.now.bans) (bans_of c.self.inside.bans) c.args.limits c.derive.new.deriver.deletions c.deletions.result.now c.in-Emptied.x c.lift.result
    (c.self.invariant.0 ∙ view) (c.self.invariant.2 ∙ view) (ap (λ (r : Root). bans_of r.bans) c.self.view_is) c.derive.ensures.same c.deletions.ensures
    c.derive.ensures.derivation (c.in-Emptied.ensures.emptied c.in-Emptied.x refl) c.lift.ensures.lifts
