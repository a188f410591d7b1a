use Rattle.std.proofs.Common.{◌≡◌, length, take}
use Rattle.cfn_net.specs.Listed.{spread}
use Rattle.cfn_net.proofs.sparse.Sparse.write_to.Given as goal

abbrev pub invariant-loop-cell : goal.invariant-loop-cell
invariant-loop-cell l = l.entries ≡ spread (length l.fn.entries) l.default (take l.cell-index l.listed)
