use Rattle.std.proofs.Common.{◌∷◌}
use Rattle.cfn_store.specs.Standing.{history}
use Rattle.cfn_derivation.specs.Banned.{bans_of}
use Rattle.cfn_derivation.specs.Working.{IsDone}
use Rattle.cfn_derivation.proofs.Looking.{IsLookingAlong}
use Rattle.cfn_derivation.proofs.looks.look_behind.Given as goal

abbrev pub invariant-loop-place : goal.invariant-loop-place
invariant-loop-place l = record {
  along : IsLookingAlong l.q (bans_of l.bans) l.initial.store l.store l.initial.work l.work l.from.function l.place;
  besides : IsDone l.store.network (history l.store) l.q (bans_of l.bans) (l.x ∷ l.work.waiting.items) l.from.function;
}
