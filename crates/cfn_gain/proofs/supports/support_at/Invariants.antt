use Rattle.std.proofs.Common.{◌-◌}
use Rattle.std.specs.Prelude.{slice_index}
use Rattle.cfn_model.specs.Network.{variable_at}
use Rattle.cfn_store.specs.Standing.{history}
use Rattle.cfn_gain.specs.Calls.{Passing}
use Rattle.cfn_gain.proofs.Gaining.{GainedFor}
use Rattle.cfn_gain.proofs.Supporting.{AreSupportedTo}
use Rattle.cfn_gain.proofs.supports.support_at.Given as goal

abbrev pub invariant-loop-doubt : goal.invariant-loop-doubt
invariant-loop-doubt l = record {
  passing : Passing l.initial.store l.store l.limits (AreSupportedTo l.initial.store.network (history l.initial.store) l.f l.place l.from);
  gained : GainedFor l.initial.store l.store l.f;
}

abbrev pub decreases-loop-doubt : goal.decreases-loop-doubt
decreases-loop-doubt l = slice_index l.initial.store.network.sizes (variable_at l.initial.store.network l.f l.place) - l.from
