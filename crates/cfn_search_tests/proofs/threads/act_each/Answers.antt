use denote.Exit.{no}
use denote.Param.{param}
use denote.Param.Send.{sendable, param_sync, arg_sync, shr_sync}
use Rattle.cfn_search_tests.proofs.Crossing.{side_send, scored_sync, of_low, captures_sync}
use Rattle.cfn_search_tests.proofs.threads.act_each.Goals as goal

pub for_each_mut-requires-send-T : goal.for_each_mut-requires-send-T
for_each_mut-requires-send-T g c κs within = search (sendable, side_send) depth 40

pub for_each_mut-requires-sync-F : goal.for_each_mut-requires-sync-F
for_each_mut-requires-sync-F g c κs within =
    param_sync 2 _ (arg_sync _ no _ (captures_sync _ _ _ (shr_sync _ _ _ (of_low (param 0 g.row.M) g.M.Incumbent)) (shr_sync _ _ _ scored_sync)))
