use Rattle.std.proofs.Common.{◌≡◌, ◌≤◌, length, map, take, vec_len}
use Rattle.std.specs.Prelude.{vec_capacity}
use Rattle.cfn_core.specs.Actions.{Runs}
use Rattle.cfn_core.specs.Laws.{Always}
use Rattle.std.specs.List.{AllByRecursion}
use Rattle.cfn_core.specs.Machine.{IsReplyOf, action_of, reply_of, world_of}
use Rattle.cfn_core.proofs.world.World.run.Given as goal

-- the actions so far are done, and there is room for the other answers
abbrev pub invariant-loop-action : goal.invariant-loop-action
invariant-loop-action l = record {
  network : l.self.network ≡ l.fn.self.network;
  runs : Runs l.fn.self.network (world_of l.fn.self) (map action_of (take l.action-index l.actions)) (map reply_of l.replies.items) (world_of l.self);
  of : AllByRecursion (IsReplyOf l.fn.self.network) l.replies.items;
  always : Always l.self.network (world_of l.self);
  made : vec_len l.replies ≡ l.action-index;
  room : length l.actions ≤ vec_capacity l.replies;
}
