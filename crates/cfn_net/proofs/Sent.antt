-- A snapshot of a network owns nothing, so it may go to any thread, and any thread may share it.
use denote.Param.Send.{IsSend, IsSync, part_keyless}
use Rattle.cfn_net.specs.contracts.snapshot.NetworkSnapshot.{the_row}

pub snapshot_send : IsSend the_row
snapshot_send = record { owned = λ d vs. ((λ _. (tt, tt)), tt); leaving = λ k f vs. tt }

pub snapshot_sync : IsSync the_row
snapshot_sync = record { shared = λ d b o κ q. part_keyless the_row snapshot_send q d b o }
