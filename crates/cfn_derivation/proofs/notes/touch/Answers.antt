use Rattle.cfn_derivation.proofs.Noting.{grows_change}
use Rattle.cfn_derivation.proofs.notes.touch.Goals as goal

pub returns-in-Extend : goal.returns-in-Extend
returns-in-Extend c = grows_change c.args.network.now c.args.step c.in-Extend.function c.args.touched.now c.put.new.self c.put.ensures c.in-Extend.is
