use Rattle.std.proofs.Common.{length, ap, arith}
use Rattle.cfn_tables.proofs.Arities.{arity_small}
use Rattle.cfn_tables.proofs.shifts.Shifts.of.Goals as goal

pub slots-requires-clause-few : goal.slots-requires-clause-few
slots-requires-clause-few c = omega (arith, arity_small c.args.network.now c.args.f c.law_limits.ensures c.requires, ap length c.scope.ensures)
