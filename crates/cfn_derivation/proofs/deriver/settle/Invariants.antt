use Rattle.std.proofs.Common.{ℕ, ◌+◌, length}
use Rattle.cfn_store.specs.Standing.{history}
use Rattle.cfn_derivation.specs.Derived.{live_values, AllAlive}
use Rattle.cfn_derivation.specs.Working.{IsDone, Extends}
use Rattle.cfn_derivation.specs.Banned.{bans_of}
use Rattle.cfn_derivation.proofs.deriver.settle.Given as goal

abbrev pub invariant-loop-x : goal.invariant-loop-x
invariant-loop-x l = record {
  extends : Extends l.q (bans_of l.bans) l.initial.store l.store l.initial.work l.work;
  alive : AllAlive l.store.network (history l.store);
  done : (f : ℕ) → IsDone l.store.network (history l.store) l.q (bans_of l.bans) l.work.waiting.items f;
}

abbrev pub decreases-loop-x : goal.decreases-loop-x
decreases-loop-x l = length l.work.waiting.items + live_values l.store.network (history l.store)
