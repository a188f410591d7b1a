use Rattle.cfn_vac.proofs.Numbers.{IsFilling}
use Rattle.cfn_vac.proofs.tables.fill.Given as goal

abbrev pub invariant-loop-value : goal.invariant-loop-value
invariant-loop-value l = IsFilling l.network l.x l.number l.value l.initial.rows l.rows
