use Rattle.cfn_branch.proofs.Halving.{middle_splits}
use Rattle.cfn_branch.proofs.fewest.split_fewest.Goals as goal

pub returns-then-count-ge-HALVED_FROM-clause-splits : goal.returns-then-count-ge-HALVED_FROM-clause-splits
returns-then-count-ge-HALVED_FROM-clause-splits c = middle_splits c.args.store.now c.in_ok-variable.variable c.middle-value.result c.in_ok-variable.ensures.undecided c.middle-value.ensures
