use Rattle.std.proofs.Common.{◌≡◌, ℕ, ◌<◌, length, get_or}
use Rattle.cfn_model.specs.Network.{dims_at}
use Rattle.cfn_tables.specs.Slots.{slots}
use Rattle.cfn_tables.specs.Tables.{no_tuples, first_tuples}
use Rattle.cfn_tables.proofs.costs.functions_of.Given as goal

-- the functions so far are as before any event
abbrev pub invariant-loop-f : goal.invariant-loop-f
invariant-loop-f l = record {
  size : length l.functions.items ≡ l.f;
  each : (f : ℕ) → f < l.f → get_or l.functions.items f no_tuples ≡ first_tuples (slots (dims_at l.network f));
}
