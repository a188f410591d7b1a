-- What the crates above cite of the proofs here: a part of the word may be sent to another thread, and the word is shared.
use denote.RattleType.{RattleType}
use denote.Param.Send.{IsSend, IsSync, sendable}
use Rattle.std.proofs.Crossing.{crosses}
use Rattle.atomic_table.proofs.shared.Seat.TheSendSync as seat
use Rattle.cfn_net.proofs.CallerLemmas.{snapshot_send}
use Rattle.cfn_low.specs.declared.rule.Incumbent as word
use Rattle.cfn_low.specs.contracts.holder.Holder as Holder
use Rattle.cfn_low.specs.contracts.low.Low as Low
use Rattle.cfn_low.proofs.low.Low.TheSendSync as low

module _ (M : RattleType) (g : word.Ghosts M.Denot) where
  pub holder_send : IsSend (Holder.the_row M g)
  holder_send = search (sendable, crosses, seat.the_send, snapshot_send) depth 40

  pub low_sync : IsSync (Low.the_row M g)
  low_sync = low.the_sync M g
