-- What closes where a store stands closes behind its block.
use Rattle.std.proofs.Common.{◌≡◌, ℕ, List, sym, ap, ◌∙◌, subst}
use Rattle.std.proofs.lemmas.Result.{IfOk-weaker}
use Rattle.std.specs.Prelude.{Result, IfOk}
use Rattle.cfn_model.specs.declared.step.Step.{Step}
use Rattle.cfn_model.specs.Network.{Network}
use Rattle.cfn_model.specs.Steps.{after}
use Rattle.cfn_model.specs.Tree.{CanClose}
use Rattle.cfn_store.specs.Standing.{Standing, history}
use Rattle.cfn_trim.specs.Trimming.{IsBeside}

pub closes_behind : {E : Type 0} (P : Network) (before now : Standing) (k : ℕ) (result : Result (List Step) E) → before.network ≡ P → IsBeside before now → CanClose now.network (history now) k → IfOk result (λ block. block ≡ now.block) → IfOk result (λ block. CanClose P (after block before.base) k)
closes_behind P before now k result same beside closes ok =
    IfOk-weaker result (λ block. block ≡ now.block) (λ block. CanClose P (after block before.base) k)
    (λ block is. subst (λ Q. CanClose Q (after block before.base) k) (beside.network ∙ same)
    (subst (λ h. CanClose now.network h k) (ap (after now.block) beside.base ∙ ap (λ b. after b before.base) (sym is)) closes))
    ok
