use Rattle.std.proofs.Common.{subst, arith}
use Rattle.std.proofs.lemmas.Int.{ints}
use Rattle.std.specs.Prelude.{IfSome}
use Rattle.cfn_rebase.specs.Making.{IsCost}
use Rattle.cfn_rebase.proofs.Tested.{cost_reaches, events_in_place, tuple_reaches}
use Rattle.cfn_rebase.proofs.testing.can_cut_tuple.Goals as goal

pub residual_balance-requires-clause-range : goal.residual_balance-requires-clause-range
residual_balance-requires-clause-range c = events_in_place c.args.network.now c.args.store.now c.args.events.now c.requires.network c.requires.events c.law_exact.ensures

pub returns-in-Some : goal.returns-in-Some
returns-in-Some c = cost_reaches c.args.store.now c.args.threshold c.args.f c.args.number c.floor.result c.in-Some.cost (record { more = c.from.result; less = 0 }) c.reaches.result
    c.requires.number c.floor.ensures (subst (λ r. IfSome r (IsCost c.args.store.now c.args.f c.args.number)) c.in-Some.is c.live_residual.ensures) (let e = c.from.ensures in omega (arith, ints, e)) c.reaches.ensures

pub returns : goal.returns
returns c = tuple_reaches c.args.network.now c.args.store.now c.args.events.now c.args.threshold c.args.f c.args.number c.floor-2.result c.residual_balance.result c.reaches-2.result
    c.requires.network c.requires.events c.requires.number c.floor-2.ensures c.residual_balance.ensures.is c.reaches-2.ensures
