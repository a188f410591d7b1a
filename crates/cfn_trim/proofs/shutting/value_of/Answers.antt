use Rattle.cfn_trim.proofs.Emptying.{some_live, first_is, first_value, first_live}
use Rattle.cfn_trim.proofs.shutting.value_of.Goals as goal

pub bounds-live-0 : goal.bounds-live-0
bounds-live-0 c = some_live c.args.store.now c.requires.leaf.0 c.args.k c.args.x c.live.result.now c.requires.variable c.requires.leaf.1 c.live.ensures

pub returns-clause-value : goal.returns-clause-value
returns-clause-value c = λ values leaf. first_is c.args.store.now values c.args.k c.args.x c.live.result.now c.requires.variable leaf c.live.ensures

pub returns-clause-is : goal.returns-clause-is
returns-clause-is c = first_value c.args.store.now c.requires.leaf.0 c.args.k c.args.x c.live.result.now c.requires.variable c.requires.leaf.1 c.live.ensures

pub returns-clause-live : goal.returns-clause-live
returns-clause-live c = first_live c.args.store.now c.requires.leaf.0 c.args.k c.args.x c.live.result.now c.requires.variable c.requires.leaf.1 c.live.ensures
