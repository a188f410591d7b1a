use Rattle.cfn_rebase.proofs.Tested.{project_within, extend_within}
use Rattle.cfn_rebase.proofs.testing.may_make.Goals as goal

pub returns-then-is_place-clause-may : goal.returns-then-is_place-clause-may
returns-then-is_place-clause-may c = project_within c.args.network.now c.args.store.now c.args.threshold c.args.step _ _ _ _ c.project_room.result c.in-Project.is c.requires.network c.law_limits.ensures c.requires.spelled c.project_room.ensures

pub returns-then-is_place-2-clause-may : goal.returns-then-is_place-2-clause-may
returns-then-is_place-2-clause-may c = extend_within c.args.store.now c.args.threshold c.args.step _ _ _ _ c.extend_room.result c.in-Extend.is c.requires.spelled c.extend_room.ensures
