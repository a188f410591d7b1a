use denote.Param.Send.{sendable}
use Rattle.cfn_dive.proofs.CallerLemmas.{diver_send}
use Rattle.cfn_search_tests.proofs.halving.solve_by.Goals as goal

pub of-problem-requires-send-X-Explorer : goal.of-problem-requires-send-X-Explorer
of-problem-requires-send-X-Explorer c κs within = search (sendable, diver_send) depth 40

pub solve-requires-send-X-Explorer : goal.solve-requires-send-X-Explorer
solve-requires-send-X-Explorer c κs within = search (sendable, diver_send) depth 40
