-- Derivations behind derivations.
use Rattle.std.proofs.Common.{◌≡◌, ℕ, List, [], ◌∷◌, ◌++◌, refl}
use Rattle.cfn_model.specs.declared.step.Event.{Event}
use Rattle.cfn_model.specs.declared.step.Event.TheVariants.{Did}
use Rattle.cfn_model.specs.declared.step.Step.TheVariants.{CutValue}
use Rattle.cfn_model.specs.Network.{Network}
use Rattle.cfn_consistency.specs.declared.deletion.Deletion.{Deletion}
use Rattle.cfn_consistency.specs.Virtual.{Bans, without, IsDeletion, IsDerivation}

pub without_more : (deletions more : List Deletion) (history : List Event) → without (deletions ++ more) history ≡ without more (without deletions history)
without_more [] more history = refl
without_more (d ∷ deletions) more history = without_more deletions more (Did (CutValue d.variable d.value) ∷ history)

pub derivations_join : (P : Network) (history : List Event) (q : ℕ) (bans : Bans) (deletions more : List Deletion) → IsDerivation P history q bans deletions
    → IsDerivation P (without deletions history) q bans more → IsDerivation P history q bans (deletions ++ more)
derivations_join P history q bans [] more is next = next
derivations_join P history q bans (d ∷ deletions) more is next =
    (is.0, derivations_join P (Did (CutValue d.variable d.value) ∷ history) q bans deletions more is.1 next)

pub one_more : (P : Network) (history : List Event) (q : ℕ) (bans : Bans) (deletions : List Deletion) (d : Deletion) → IsDerivation P history q bans deletions
    → IsDeletion P (without deletions history) q bans d → IsDerivation P history q bans (deletions ++ d ∷ [])
one_more P history q bans deletions d is next = derivations_join P history q bans deletions (d ∷ []) is (next, tt)
