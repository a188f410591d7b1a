use denote.Ref.{NamedLft}
use denote.Param.Send.{IsSend, IsSync, sendable}
use denote.Param.SendFields.{declared_send}
use Rattle.cfn_explore.proofs.CallerLemmas.{never_sync}
use Rattle.cfn_dive.proofs.CallerLemmas.{diver_send, divers_sync}
use Rattle.cfn_search_tests.specs.contracts.failing.Failing as Failing
use Rattle.cfn_search_tests.specs.contracts.failing.FailingDivers as FailingDivers
use Rattle.cfn_search_tests.proofs.failing.told_over.Goals as goal

failing_send : (a : NamedLft) → IsSend (Failing.the_row a)
failing_send a = declared_send (Failing.the_type a) (search (sendable, diver_send), (search sendable, tt))

failing_sync : (a : NamedLft) → IsSync (FailingDivers.the_row a)
failing_sync a = search (sendable, divers_sync) depth 40

pub of-problem-requires-send-X-Explorer : goal.of-problem-requires-send-X-Explorer
of-problem-requires-send-X-Explorer g c κs within = search (sendable, failing_send) depth 40

pub solve_together-requires-send-X-Explorer : goal.solve_together-requires-send-X-Explorer
solve_together-requires-send-X-Explorer g c κs within = search (sendable, failing_send) depth 40

pub solve_together-requires-sync-X : goal.solve_together-requires-sync-X
solve_together-requires-sync-X g c κs within = search (sendable, failing_sync) depth 40

pub solve_together-requires-sync-H : goal.solve_together-requires-sync-H
solve_together-requires-sync-H g c κs within = search (sendable, never_sync) depth 40
