use Rattle.std.specs.List.{AllByRecursion}
use Rattle.std.proofs.Common.{subst}
use Rattle.cfn_model.specs.Text.{IsSpelledStep}
use Rattle.cfn_proof.proofs.Packed.{all_spelled}
use Rattle.cfn_proof.proofs.block.Block.cursor.Goals as goal

pub returns-clause-spelled : goal.returns-clause-spelled
returns-clause-spelled c = subst (λ steps. AllByRecursion IsSpelledStep steps) c.self.view_is (all_spelled _ c.self.invariant.steps.small)
