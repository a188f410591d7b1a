use Rattle.cfn_mending.proofs.Made.{makes_from_one, makes_same, makes_split, makes_close, makes_leave, makes_whole}
use Rattle.cfn_mending.proofs.laws.law_making.Goals as goal

pub returns-clause-one : goal.returns-clause-one
returns-clause-one c = makes_from_one

pub returns-clause-same : goal.returns-clause-same
returns-clause-same c = makes_same

pub returns-clause-split : goal.returns-clause-split
returns-clause-split c = makes_split

pub returns-clause-close : goal.returns-clause-close
returns-clause-close c = makes_close

pub returns-clause-leave : goal.returns-clause-leave
returns-clause-leave c = makes_leave

pub returns-clause-whole : goal.returns-clause-whole
returns-clause-whole c = makes_whole
