use Rattle.std.proofs.Common.{◌≡◌, rules}
use Rattle.cfn_merge.proofs.Tested.{told}
use Rattle.cfn_merge.proofs.same.same.Goals as goal

pub returns-then-eq : goal.returns-then-eq
returns-then-eq c =
    let e : c.args.decision ≡ c.args.other = search rules in
    told c.is_same.result c.args.block.now c.args.more.now c.args.decision c.args.other e c.is_same.ensures.0 c.is_same.ensures.1
