-- A deadline may be shared by threads where its clock may.
use denote.RattleType.{RattleType}
use denote.Ref.{NamedLft}
use denote.Param.Send.{IsSync, sendable}
use Rattle.std.proofs.Crossing.{crosses}
use Rattle.cfn_explore.specs.contracts.deadline.Deadline as Deadline
use Rattle.cfn_explore.specs.contracts.deadline.Never as Never

pub never_sync : IsSync Never.the_row
never_sync = search (sendable, crosses) depth 40

pub deadline_sync : (a : NamedLft) (C : RattleType) → IsSync C → IsSync (Deadline.the_row a C)
deadline_sync a C s = search (sendable, crosses) depth 40
