use Rattle.std.proofs.Common.{◌≡◌, ℕ, ◌<◌}
use Rattle.std.specs.Prelude.{IsTrue}
use Rattle.cfn_queue.specs.Waiting.{is_in}
use Rattle.cfn_store.specs.Standing.{history}
use Rattle.cfn_derivation.specs.Watched.{HasCostly, AreCostly}
use Rattle.cfn_derivation.proofs.notes.list_costly.Given as goal

abbrev pub invariant-loop-x : goal.invariant-loop-x
invariant-loop-x l = record {
  size : l.costly.size ≡ l.initial.costly.size;
  listed : (y : ℕ) → y < l.x → HasCostly l.store.network (history l.store) l.q y → IsTrue (is_in y l.costly.items);
  only : AreCostly l.store.network (history l.store) l.q l.costly.items;
}
