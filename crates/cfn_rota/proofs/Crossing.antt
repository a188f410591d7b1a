-- The ends of a lane may be sent to other threads where its tasks may.
use denote.RattleType.{RattleType}
use denote.Param.Send.{IsSend, sendable}
use Rattle.std.proofs.Crossing.{crosses}
use Rattle.atomic_blocks.proofs.rows.shared.Seat.TheSendSync as pass
use Rattle.atomic_blocks.proofs.rows.shared.Rows.TheSendSync as rows
use Rattle.cfn_rota.specs.declared.rule.Kind as kind
use Rattle.cfn_rota.specs.contracts.lane.Lane as Lane
use Rattle.cfn_rota.specs.contracts.thief.Thief as Thief
use Rattle.cfn_rota.specs.contracts.ends.Ends as Ends

module _ (T K : RattleType) (g : kind.Ghosts K.Denot T.Denot) where
  thief_send : IsSend T → IsSend (Thief.the_row T K g)
  thief_send t = search (sendable, crosses, pass.the_send, rows.the_send, rows.the_sync) depth 40

  lane_send : IsSend T → IsSend (Lane.the_row T K g)
  lane_send t = search (sendable, crosses, pass.the_send, rows.the_send, rows.the_sync) depth 40

  pub ends_send : IsSend T → IsSend (Ends.the_row T K g)
  ends_send t = search (sendable, crosses, thief_send, lane_send) depth 40
