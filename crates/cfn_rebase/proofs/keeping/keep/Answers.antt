use Rattle.cfn_rebase.proofs.Walkings.{at_own}
use Rattle.cfn_rebase.proofs.keeping.keep.Goals as goal

pub keep_all-kept-requires : goal.keep_all-kept-requires
keep_all-kept-requires c = at_own c.args.network.now c.args.threshold c.args.old.now c.in_ok-walk.walk 0 0 c.in_ok-walk.ensures
