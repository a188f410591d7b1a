use Rattle.std.proofs.Common.{subst, arith}
use Rattle.cfn_model.specs.Network.{IsNetwork}
use Rattle.cfn_store.specs.Standing.{history}
use Rattle.cfn_gain.proofs.CallerLemmas.{few_places}
use Rattle.cfn_dac.proofs.Opening.{few_none, few_one, are_two, are_many}
use Rattle.cfn_dac.proofs.open.open_places.Goals as goal

pub returns-in_default : goal.returns-in_default
returns-in_default c = few_none c.args.store.now.network (history c.args.store.now) c.args.f c.in_default.ensures

pub overflow_add-place : goal.overflow_add-place
overflow_add-place c =
    let few = few_places c.args.store.now.network c.args.f (subst IsNetwork c.network.ensures c.law_limits.ensures) c.requires in
    let one = c.in-Some.ensures.place in omega (arith, few, one)

pub returns-in_default-next_open : goal.returns-in_default-next_open
returns-in_default-next_open c = few_one c.args.store.now.network (history c.args.store.now) c.args.f c.in-Some.place c.in-Some.ensures c.in_default-next_open.ensures

pub overflow_add-other : goal.overflow_add-other
overflow_add-other c =
    let few = few_places c.args.store.now.network c.args.f (subst IsNetwork c.network.ensures c.law_limits.ensures) c.requires in
    let one = c.in-Some-next_open.ensures.place in omega (arith, few, one)

pub returns-in-Some-next_open-2 : goal.returns-in-Some-next_open-2
returns-in-Some-next_open-2 c =
    are_many c.args.store.now.network (history c.args.store.now) c.args.f c.in-Some.place c.in-Some-next_open.other c.in-Some-next_open-2.field-0 c.in-Some.ensures c.in-Some-next_open.ensures c.in-Some-next_open-2.ensures

pub returns-in-None : goal.returns-in-None
returns-in-None c =
    are_two c.args.store.now.network (history c.args.store.now) c.args.f c.in-Some.place c.in-Some-next_open.other c.requires c.in-Some.ensures c.in-Some-next_open.ensures c.in-None.ensures
