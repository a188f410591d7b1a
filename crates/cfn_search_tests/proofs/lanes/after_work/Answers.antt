use denote.Param.Send.{sendable}
use Rattle.cfn_dive.proofs.CallerLemmas.{diver_send}
use Rattle.cfn_search_tests.proofs.lanes.after_work.Goals as goal

pub work-requires-send-X-Explorer : goal.work-requires-send-X-Explorer
work-requires-send-X-Explorer g c κs within = search (sendable, diver_send) depth 40
