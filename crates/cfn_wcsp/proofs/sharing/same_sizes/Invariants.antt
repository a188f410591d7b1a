use Rattle.std.proofs.Common.{◌≡◌}
use Rattle.cfn_wcsp.proofs.SharedTables.{same_from}
use Rattle.cfn_wcsp.proofs.sharing.same_sizes.Given as goal

abbrev pub invariant-loop-place : goal.invariant-loop-place
invariant-loop-place l = same_from l.sizes l.one l.other l.place ≡ same_from l.sizes l.one l.other 0
