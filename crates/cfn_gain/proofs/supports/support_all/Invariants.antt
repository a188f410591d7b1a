use Rattle.cfn_store.specs.Standing.{history}
use Rattle.cfn_gain.specs.Calls.{Passing}
use Rattle.cfn_gain.proofs.Gaining.{GainedFor}
use Rattle.cfn_gain.proofs.Supporting.{ArePlacesTo}
use Rattle.cfn_gain.proofs.supports.support_all.Given as goal

abbrev pub invariant-loop-place : goal.invariant-loop-place
invariant-loop-place l = record {
  passing : Passing l.initial.store l.store l.limits (ArePlacesTo l.initial.store.network (history l.initial.store) l.f l.place);
  gained : GainedFor l.initial.store l.store l.f;
}
