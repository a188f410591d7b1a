use Rattle.std.proofs.Common.{◌≡◌, ◌≤◌, length}
use Rattle.std.specs.Prelude.{vec_capacity}
use Rattle.cfn_store.specs.Standing.{history}
use Rattle.cfn_edac.specs.Gathering.{AreGathered, AreMarks, AreMarked}
use Rattle.cfn_edac.proofs.neighbours.Neighbours.gather_open.Given as goal

abbrev pub invariant-loop-place : goal.invariant-loop-place
invariant-loop-place l = record {
  network : l.self-inside.network.now ≡ l.network;
  room : length l.network.functions ≤ vec_capacity l.self-inside.pairs;
  gathered : AreGathered l.network (history l.store) l.x l.place-items l.self-inside.pairs.items l.place-index;
  marks : AreMarks l.network l.self-inside.met.items l.self-inside.pairs.items 0;
  marked : AreMarked l.network l.self-inside.met.items l.self-inside.pairs.items;
}
