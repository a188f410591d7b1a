use denote.Param.Send.{sendable}
use Rattle.cfn_dive.proofs.CallerLemmas.{diver_send, divers_sync}
use Rattle.cfn_solve.proofs.solving.solve_from.Goals as goal

pub of-problem-requires-send-X-Explorer : goal.of-problem-requires-send-X-Explorer
of-problem-requires-send-X-Explorer g c κs within = search (sendable, diver_send) depth 40

pub solve_from-requires-send-X-Explorer : goal.solve_from-requires-send-X-Explorer
solve_from-requires-send-X-Explorer g c κs within = search (sendable, diver_send) depth 40

pub solve_from-requires-sync-X : goal.solve_from-requires-sync-X
solve_from-requires-sync-X g c κs within = search (sendable, divers_sync) depth 40
