use Rattle.cfn_check.proofs.Along.{residual_along}
use Rattle.cfn_check.proofs.ledger.Ledger.law_differences.Goals as goal

pub returns : goal.returns
returns c = rw (← c.self.view_is) (λ f tuple fits. residual_along _ _ f tuple c.self.invariant.trail fits)
