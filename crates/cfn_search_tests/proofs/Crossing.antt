-- A part of the word may be sent to another thread, and the word and an assignment may be shared.
use mathlib.Core.List.{[], ◌∷◌}
use mir.Syntax.{Sym}
use denote.RattleType.{RattleType}
use denote.Struct.Field.{row_field}
use denote.Struct.Tuple.{TupleAt, type_at}
use denote.Param.SendFields.{as_row_sync, declared_sync}
use denote.Param.Send.{IsSend, IsSync, sendable}
use Rattle.std.proofs.Crossing.{crosses}
use Rattle.cfn_net.specs.contracts.scored.Scored as Scored
use Rattle.cfn_net.proofs.CallerLemmas.{snapshot_sync}
use Rattle.cfn_low.specs.declared.rule.Incumbent as word
use Rattle.cfn_low.specs.contracts.holder.Holder as Holder
use Rattle.cfn_low.specs.contracts.low.Low as Low
use Rattle.cfn_low.proofs.CallerLemmas.{holder_send, low_sync}
use Rattle.cfn_search_tests.specs.contracts.threads.Side as Side

pub scored_sync : IsSync Scored.the_row
scored_sync = search (sendable, crosses, snapshot_sync) depth 40

-- two that are captured together
pub captures_sync : (name : Sym) (R S : RattleType) → IsSync R → IsSync S → IsSync (TupleAt name (R ∷ S ∷ []))
captures_sync name R S r s = declared_sync (type_at name (R ∷ S ∷ [])) (as_row_sync (row_field R) r, (as_row_sync (row_field S) s, tt))

module _ (M : RattleType) (g : word.Ghosts M.Denot) where
  -- a name for the search
  of_holder : IsSend (Holder.the_row M g)
  of_holder = holder_send M g

  pub side_send : IsSend (Side.the_row M g)
  side_send = search (sendable, of_holder) depth 40

  pub of_low : IsSync (Low.the_row M g)
  of_low = low_sync M g
