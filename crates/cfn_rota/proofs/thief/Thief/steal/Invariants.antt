use Rattle.std.proofs.Common.{◌≡◌, []}
use Rattle.crossbeam_deque.specs.Handles.{view as known, IsPassOf, stealer_deque, stealer_flavor}
use Rattle.cfn_rota.specs.Balances.{tally}
use Rattle.cfn_rota.proofs.thief.Thief.steal.Given as goal

abbrev pub invariant-loop : goal.invariant-loop
invariant-loop g l = record {
  own : IsPassOf (stealer_deque l.self-inside.stealer) l.self-inside.pass;
  same : l.self-inside.stealer ≡ l.initial.self-inside.stealer;
  flavor : stealer_flavor l.self-inside.stealer ≡ 0;
  known : known l.self-inside.pass ≡ tally 1 [] l.fn.self.taken;
}
