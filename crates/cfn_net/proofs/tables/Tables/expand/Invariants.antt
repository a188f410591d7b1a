use Rattle.cfn_net.specs.Expanding.{IsExpanded}
use Rattle.cfn_net.proofs.tables.Tables.expand.Given as goal

abbrev pub invariant-loop-kept : goal.invariant-loop-kept
invariant-loop-kept l = IsExpanded l.network l.kept-index l.places.items l.spread.items
