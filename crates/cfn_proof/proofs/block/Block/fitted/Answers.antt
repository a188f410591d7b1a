use Rattle.std.specs.List.{AllByRecursion}
use Rattle.std.proofs.Common.{subst}
use Rattle.cfn_model.specs.Text.{IsSpelledStep}
use Rattle.cfn_proof.proofs.Packed.{all_spelled}
use Rattle.cfn_proof.proofs.block.Block.fitted.Goals as goal

pub returns-in-Own-clause-spelled : goal.returns-in-Own-clause-spelled
returns-in-Own-clause-spelled c = subst (λ steps. AllByRecursion IsSpelledStep steps) c.self.view_is (all_spelled _ c.self.invariant.steps.small)

pub returns-in-Shared-clause-spelled : goal.returns-in-Shared-clause-spelled
returns-in-Shared-clause-spelled c = subst (λ steps. AllByRecursion IsSpelledStep steps) c.self.view_is (all_spelled _ c.self.invariant.steps.small)
