use Rattle.std.proofs.Common.{◌≡◌, ◌+◌, ◌*◌, ◌≤◌, drop}
use Rattle.cfn_model.specs.Network.{dims}
use Rattle.cfn_tables.specs.Slots.{slots}
use Rattle.cfn_tables.proofs.shifts.slots.Given as goal

-- the slots so far and those of the rest are all slots
abbrev pub invariant-loop-x : goal.invariant-loop-x
invariant-loop-x l = record {
  rest : l.slots + slots (drop l.x-index (dims l.network.sizes l.scope)) ≡ slots (dims l.network.sizes l.scope);
  small : l.slots ≤ 4096 * l.x-index;
}
