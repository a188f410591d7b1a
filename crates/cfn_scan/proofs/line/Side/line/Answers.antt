use Rattle.std.proofs.Common.{arith}
use Rattle.cfn_scan.proofs.Sides.{own_there, first_fits}
use Rattle.cfn_scan.proofs.line.Side.line.Goals as goal

pub bounds-self-value : goal.bounds-self-value
bounds-self-value c = let r = c.requires in own_there r.0 r.1 r.2 r.3 r.4 c.args.self.now r.5 c.args.value r.6

pub overflow_mul-result : goal.overflow_mul-result
overflow_mul-result c = let r = c.requires in let l = first_fits r.0 r.1 r.2 r.3 r.4 c.args.self.now r.5 c.args.value r.6 in omega (arith, l)
