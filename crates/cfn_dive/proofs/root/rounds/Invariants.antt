use Rattle.std.proofs.Common.{◌≡◌, ℕ, ◌≤◌}
use Rattle.cfn_store.specs.Standing.{history}
use Rattle.cfn_dive.specs.Enforcing.{GoesOn, Finds, IsSpent, AreRounds}
use Rattle.cfn_dive.proofs.root.rounds.Given as goal

abbrev pub invariant-loop-round : goal.invariant-loop-round
invariant-loop-round g l = record {
  goes : GoesOn l.fn.store l.store l.asked.threshold;
  rounds : (n : ℕ) × (n ≤ l._round) × AreRounds l.fn.store.network n l.fn.store l.store;
  finds : Finds l.store.network (history l.store) l.asked.threshold l.found;
  spent : IsSpent l.asked.steps l.store l.found;
  room : l.more ≤ l.store.spare;
  vac : l.vac.network ≡ l.fn.vac.network;
  same : l.enforcer ≡ l.fn.enforcer;
}
