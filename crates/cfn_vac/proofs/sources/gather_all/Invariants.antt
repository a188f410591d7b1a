use Rattle.std.proofs.Common.{◌≡◌}
use Rattle.cfn_store.specs.Standing.{history}
use Rattle.cfn_vac.proofs.Cuts.{live_in}
use Rattle.cfn_vac.proofs.Gathering.{IsGathering}
use Rattle.cfn_vac.proofs.sources.gather_all.Given as goal

abbrev pub invariant-loop-number : goal.invariant-loop-number
invariant-loop-number l = record {
  network : l.plan.network ≡ l.initial.plan.network;
  gathering : IsGathering l.initial.plan.network l.initial.store l.store l.q l.target.function l.target.place l.target.value l.target.amount l.earlier l.initial.plan.steps l.plan.steps;
}

abbrev pub decreases-loop-number : goal.decreases-loop-number
decreases-loop-number l = live_in l.earlier (history l.store)
