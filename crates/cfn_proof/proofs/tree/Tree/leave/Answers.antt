use Rattle.std.specs.List.{AllByRecursion}
use Rattle.std.proofs.Common.{sym, subst}
use Rattle.cfn_model.specs.Text.{IsSpelledStep}
use Rattle.cfn_proof.proofs.Written.{left_tree}
use Rattle.cfn_proof.proofs.tree.Tree.leave.Goals as goal

pub invariant_of-self : goal.invariant_of-self
invariant_of-self c = left_tree _ _ _ _ _ c.self.view_is c.self.invariant c.requires.there c.requires.free c.index_mut-node.ensures.value (subst (λ steps. AllByRecursion IsSpelledStep steps) (sym c.fitted-fitted.ensures.is) c.fitted-fitted.ensures.spelled)
