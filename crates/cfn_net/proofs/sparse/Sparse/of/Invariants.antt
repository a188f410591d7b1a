use Rattle.cfn_net.proofs.Spreads.{Lists}
use Rattle.cfn_net.proofs.sparse.Sparse.of.Given as goal

abbrev pub invariant-loop-cell : goal.invariant-loop-cell
invariant-loop-cell l = Lists l.default l.entries l.cell l.listed.items
