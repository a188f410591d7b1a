use Rattle.std.proofs.Common.{arith}
use Rattle.cfn_proof.proofs.CallerLemmas.{spelled_law}
use Rattle.cfn_record.proofs.Spelled.{tree_spelled}
use Rattle.cfn_record.proofs.happened.Happened.law_spelled.Goals as goal

pub returns-in-Gave : goal.returns-in-Gave
returns-in-Gave c =
    let numbers = rw c.in-Gave.is at c.requires in
    rw c.in-Gave.is ((omega arith, numbers), tree_spelled _ (spelled_law _ c.law_linked.ensures))
