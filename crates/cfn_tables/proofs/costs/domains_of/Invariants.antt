use Rattle.std.proofs.Common.{◌≡◌, ℕ, ◌<◌, length, get_or}
use Rattle.cfn_tables.specs.Tables.{no_values, first_values}
use Rattle.cfn_tables.proofs.costs.domains_of.Given as goal

-- the variables so far have their first values
abbrev pub invariant-loop-x : goal.invariant-loop-x
invariant-loop-x l = record {
  size : length l.domains.items ≡ l.x;
  each : (x : ℕ) → x < l.x → get_or l.domains.items x no_values ≡ first_values (get_or l.network.sizes x 0);
}
