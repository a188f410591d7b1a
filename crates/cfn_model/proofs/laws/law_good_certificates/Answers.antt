use Rattle.cfn_model.proofs.Bounding.{lower_bounds, optimum, none_below}
use Rattle.cfn_model.proofs.laws.law_good_certificates.Goals as goal

pub returns-clause-lower_bounds : goal.returns-clause-lower_bounds
returns-clause-lower_bounds c = lower_bounds

pub returns-clause-optimum : goal.returns-clause-optimum
returns-clause-optimum c = optimum

pub returns-clause-none_below : goal.returns-clause-none_below
returns-clause-none_below c = none_below
