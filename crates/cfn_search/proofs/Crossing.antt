-- Workers may be sent to other threads, and what they share, and what their threads capture, may be shared by those.
use mathlib.Core.List.{[], ◌∷◌}
use mir.Syntax.{Sym}
use denote.RattleType.{RattleType}
use denote.Ref.{NamedLft}
use denote.Struct.Field.{row_field, u32-field, u64-field}
use denote.Struct.Tuple.{TupleAt, type_at}
use denote.Param.Send.{IsSend, IsSync, sendable, view_send}
use denote.Param.SendFields.{as_row_send, as_row_sync, declared_send, declared_sync}
use Rattle.std.proofs.Crossing.{crosses}
use Rattle.cfn_net.specs.contracts.network.Network as Network
use Rattle.cfn_net.proofs.CallerLemmas.{snapshot_send}
use Rattle.cfn_low.specs.declared.rule.Incumbent as word
use Rattle.cfn_low.specs.contracts.holder.Holder as Holder
use Rattle.cfn_low.specs.contracts.low.Low as Low
use Rattle.cfn_low.proofs.CallerLemmas.{holder_send, low_sync}
use Rattle.cfn_proof.specs.contracts.block.Block as Block
use Rattle.cfn_proof.specs.contracts.path.Path as Path
use Rattle.cfn_record.specs.contracts.history.History as History
use Rattle.cfn_pool.specs.contracts.pool.Pool as Pool
use Rattle.cfn_explore.specs.contracts.task.Task as Task
use Rattle.cfn_rota.specs.contracts.ends.Ends as Ends
use Rattle.cfn_rota.proofs.CallerLemmas.{ends_send}
use Rattle.cfn_search.specs.declared.board.Crew as crew
use Rattle.cfn_search.specs.contracts.account.Account as Account
use Rattle.cfn_search.specs.contracts.lanes.LaneTasks as LaneTasks
use Rattle.cfn_search.specs.contracts.lanes.Lanes as Lanes
use Rattle.cfn_search.specs.contracts.lanes.LaneTasksKindTask.TheImpl as lane_tasks
use Rattle.cfn_search.specs.contracts.worker.Worker as Worker
use Rattle.cfn_search.specs.contracts.worker.Shared as Shared
use Rattle.cfn_search.specs.contracts.board.Board as Board

network_sync : IsSync Network.the_row
network_sync = search (sendable, crosses) depth 40

block_send : IsSend Block.the_row
block_send = search (sendable, crosses) depth 40 fits 20000

history_send : IsSend History.the_row
history_send = search (sendable, crosses, block_send) depth 40 fits 20000

path_send : IsSend Path.the_row
path_send = search (sendable, crosses, block_send) depth 40

task_send : IsSend Task.the_row
task_send = search (sendable, crosses, path_send, snapshot_send) depth 40

module _ (M : RattleType) (g : word.Ghosts M.Denot) where
  -- names for the search
  of_holder : IsSend (Holder.the_row M g)
  of_holder = holder_send M g

  of_low : IsSync (Low.the_row M g)
  of_low = low_sync M g

  pool_send : IsSend (Pool.the_row M g)
  pool_send = search (sendable, crosses, of_holder, block_send, history_send, snapshot_send) depth 40 fits 20000

  lanes_send : IsSend (Ends.the_row Task.the_row (LaneTasks.the_row M) (lane_tasks.ghosts M g lane_tasks.no_dict))
  lanes_send = ends_send Task.the_row (LaneTasks.the_row M) (lane_tasks.ghosts M g lane_tasks.no_dict) task_send

  worker_lanes_send : IsSend (Lanes.the_row M g)
  worker_lanes_send = search (sendable, lanes_send) depth 40

  account_send : IsSend (Account.the_row M g)
  account_send = search (sendable, of_holder) depth 40

  inside_send : IsSend (Worker.TheInside.the_row M g)
  inside_send = declared_send (Worker.TheInside.the_type M g) (as_row_send u32-field (search sendable), (as_row_send u64-field (search sendable), (as_row_send (Account.the_field M g) account_send, (as_row_send (Lanes.the_field M g) worker_lanes_send, tt))))

  pub worker_send : IsSend (Worker.the_row M g)
  worker_send = view_send (Worker.TheInside.the_row M g) _ _ _ _ inside_send

  module _ (h : crew.Ghosts M.Denot) where
    board_send : IsSend (Board.the_row M g h)
    board_send = search (sendable, pool_send) depth 40

    pub shared_sync : (a : NamedLft) (X G H : RattleType) → IsSync X → IsSync G → IsSync H → IsSync (Shared.the_row a M X G H g h)
    shared_sync a X G H x s t = search (sendable, crosses, network_sync, of_low, board_send) depth 40

-- three that are captured together
pub captures_sync : (name : Sym) (R S T : RattleType) → IsSync R → IsSync S → IsSync T → IsSync (TupleAt name (R ∷ S ∷ T ∷ []))
captures_sync name R S T r s t = declared_sync (type_at name (R ∷ S ∷ T ∷ [])) (as_row_sync (row_field R) r, (as_row_sync (row_field S) s, (as_row_sync (row_field T) t, tt)))
