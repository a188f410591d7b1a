use Rattle.std.proofs.Common.{◌≡◌, ℕ, ◌<◌}
use Rattle.cfn_store.specs.Standing.{history}
use Rattle.cfn_incidence.specs.Places.{place_at}
use Rattle.cfn_due.specs.Resting.{AreSure}
use Rattle.cfn_edac.specs.Resting.{RestsOn}
use Rattle.cfn_edac.proofs.resting.is_at_rest.Given as goal

abbrev pub invariant-loop-place : goal.invariant-loop-place
invariant-loop-place l = record {
  rests : (k : ℕ) → k < l.place-index → RestsOn l.store.network (history l.store) (place_at l.place-items k) l.value;
  sure : AreSure l.store.network (history l.store) l.rests;
  values : l.rests.values ≡ l.initial.rests.values;
}
