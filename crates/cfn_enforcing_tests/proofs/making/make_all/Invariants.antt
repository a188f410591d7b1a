use Rattle.std.proofs.Common.{◌≡◌, ◌+◌, ◌≤◌, length, take}
use Rattle.cfn_enforcing_tests.proofs.making.make_all.Given as goal

-- the steps so far are the block, and there is room for the rest
abbrev pub invariant-loop-step : goal.invariant-loop-step
invariant-loop-step l = record {
  network : l.store.network ≡ l.fn.store.network;
  base : l.store.base ≡ l.fn.store.base;
  block : l.store.block ≡ take l.step-index l.steps;
  room : length l.steps ≤ l.store.spare + l.step-index;
}
