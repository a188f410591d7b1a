use Rattle.std.proofs.Common.{◌/◌, ◌∙◌, subst, arith}
use Rattle.cfn_model.specs.Network.{Network}
use Rattle.cfn_store.specs.Standing.{history}
use Rattle.cfn_gain.proofs.CallerLemmas.{adds_then}
use Rattle.cfn_derivation.specs.Banned.{bans_of, NoneBanned}
use Rattle.cfn_derivation.specs.Watched.{IsWatched}
use Rattle.cfn_vac.specs.Roots.{IsReady, HasLifted}
use Rattle.cfn_vac.proofs.Lifted.{lifted_then}
use Rattle.cfn_vac.proofs.vac.RootVac.halve.Goals as goal

pub returns-else-q-gt1-clause-adds : goal.returns-else-q-gt1-clause-adds
returns-else-q-gt1-clause-adds g c = adds_then c.args.store.now c.loop-limits.store c.raise_at.new.store c.args.limits c.loop-limits.invariant.adds c.raise_at.ensures.adds

pub returns-after-loop-limits-clause-adds : goal.returns-after-loop-limits-clause-adds
returns-after-loop-limits-clause-adds g c = adds_then c.args.store.now c.loop-limits.store c.raise_at.new.store c.args.limits c.loop-limits.invariant.adds c.raise_at.ensures.adds

pub loop-limits-preserved : goal.loop-limits-preserved
loop-limits-preserved g c =
    let v = c.loop-limits.invariant in let next = c.raise_at.new.store in let same = c.raise_at.ensures.network ∙ v.network in let more = c.if-q-gt1.true in
    record {
      network = c.lower.ensures.network ∙ same;
      some = omega (arith, more);
      adds = adds_then c.args.store.now c.loop-limits.store next c.args.limits v.adds c.raise_at.ensures.adds;
      lifts = lifted_then c.args.self.now.network c.args.store.now c.loop-limits.store next v.lifts (subst (λ (N : Network). HasLifted N c.loop-limits.store next) (v.network ∙ c.begin.ensures.network) c.raise_at.ensures.lifts);
      ready = subst (λ (N : Network). IsReady N next c.args.limits) v.network c.raise_at.ensures.ready;
      watch = subst (λ (N : Network). IsWatched N (history next) c.lower.new.self.watch (c.loop-limits.q / 2)) same c.lower.ensures.watch;
      none = subst (λ (N : Network). NoneBanned N (bans_of c.lower.new.self.bans)) same c.lower.ensures.none;
    }

pub returns-else-q-gt1-clause-lifts : goal.returns-else-q-gt1-clause-lifts
returns-else-q-gt1-clause-lifts g c =
    let v = c.loop-limits.invariant in
    lifted_then c.args.self.now.network c.args.store.now c.loop-limits.store c.raise_at.new.store v.lifts (subst (λ (N : Network). HasLifted N c.loop-limits.store c.raise_at.new.store) (v.network ∙ c.begin.ensures.network) c.raise_at.ensures.lifts)

pub returns-after-loop-limits-clause-lifts : goal.returns-after-loop-limits-clause-lifts
returns-after-loop-limits-clause-lifts g c =
    let v = c.loop-limits.invariant in
    lifted_then c.args.self.now.network c.args.store.now c.loop-limits.store c.raise_at.new.store v.lifts (subst (λ (N : Network). HasLifted N c.loop-limits.store c.raise_at.new.store) (v.network ∙ c.begin.ensures.network) c.raise_at.ensures.lifts)
