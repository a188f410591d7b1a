use denote.Exit.{no}
use denote.Param.{param}
use Rattle.std.proofs.Crossing as std
use denote.Param.Send.{sendable, param_sync, arg_sync, shr_sync}
use Rattle.cfn_search.proofs.Crossing.{captures_sync, worker_send, shared_sync}
use Rattle.std.proofs.Common.{rules, arith}
use Rattle.cfn_search.specs.Accounts.{reach}
use Rattle.cfn_rota.proofs.CallerLemmas.{same_access}
use Rattle.cfn_search.proofs.team.work_each.Goals as goal

pub for_each_mut-requires-send-T : goal.for_each_mut-requires-send-T
for_each_mut-requires-send-T g c κs within = search (sendable, worker_send) depth 40

pub for_each_mut-requires-sync-F : goal.for_each_mut-requires-sync-F
for_each_mut-requires-sync-F g c κs within =
    param_sync 2 _ (arg_sync _ no _ (captures_sync _ _ _ _ (shr_sync _ _ _ c.type_bounds.sync-R) (shr_sync _ _ _ std.sync) (shr_sync _ _ _ (shared_sync (param 0 g.row.M) g.M.Incumbent g.M.Crew _ _ _ _ c.type_bounds.sync-X c.type_bounds.sync-G c.type_bounds.sync-H))))

pub returns-then-threads-gt0-clause-same : goal.returns-then-threads-gt0-clause-same
returns-then-threads-gt0-clause-same g c = same_access reach c.args.crew.now c.for_each_mut.new.s (search rules) (λ k d h. let change = (c.for_each_mut.ensures k d h).1 in let call = change.call in let is = change.argument_is in let left = change.left in grind (arith, call, is, left))
