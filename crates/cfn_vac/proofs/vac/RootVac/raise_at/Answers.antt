use Rattle.std.proofs.Common.{◌∙◌, subst}
use Rattle.cfn_model.specs.Network.{Network}
use Rattle.cfn_store.specs.Standing.{history}
use Rattle.cfn_gain.proofs.CallerLemmas.{adds_then}
use Rattle.cfn_derivation.specs.Watched.{IsWatched}
use Rattle.cfn_vac.specs.Roots.{IsReady, HasLifted}
use Rattle.cfn_vac.proofs.Lifted.{lifted_then}
use Rattle.cfn_vac.proofs.vac.RootVac.raise_at.Goals as goal

pub loop-blocks-preserved : goal.loop-blocks-preserved
loop-blocks-preserved g c =
    let v = c.loop-blocks.invariant in let is = c.attempt.ensures in let next = c.attempt.new.store in
    record {
      network = is.network ∙ v.network;
      adds = adds_then c.args.store.now c.loop-blocks.store next c.args.limits v.adds is.adds;
      lifts = lifted_then c.args.self.now.network c.args.store.now c.loop-blocks.store next v.lifts (subst (λ (N : Network). HasLifted N c.loop-blocks.store next) v.network is.lifts);
      ready = subst (λ (N : Network). IsReady N next c.args.limits) v.network is.ready;
      watch = subst (λ (N : Network). IsWatched N (history next) c.attempt.new.self.watch c.args.q) v.network is.watch;
    }
