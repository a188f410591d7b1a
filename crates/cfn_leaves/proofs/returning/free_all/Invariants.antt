use Rattle.cfn_leaves.proofs.FreedAll.{Goes}
use Rattle.cfn_leaves.proofs.returning.free_all.Given as goal

-- the entries so far are not out, there is room for the others, and the tree with its leaves called back is as before
abbrev pub invariant-loop-number : goal.invariant-loop-number
invariant-loop-number l = Goes l.fn.table.items l.fn.list l.table.items l.list l.number
