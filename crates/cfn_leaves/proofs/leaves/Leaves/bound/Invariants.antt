use Rattle.std.proofs.Common.{◌≡◌, drop}
use Rattle.cfn_leaves.specs.Read.{least_floor}
use Rattle.cfn_leaves.proofs.leaves.Leaves.bound.Given as goal

-- the least of what is read and the entries that are left is the least of all
abbrev pub invariant-loop-held : goal.invariant-loop-held
invariant-loop-held l = least_floor l.least (drop l.held-index l.held-items) ≡ least_floor l.threshold l.held-items
