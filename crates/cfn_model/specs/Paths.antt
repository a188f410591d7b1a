-- What is said of a whole path from the root, the newest event first: whether an assignment goes along it, whether its
-- steps are allowed, and whether costs stay small.
use Rattle.std.specs.Prelude.{ℕ, ◌<◌, ◌^◌, List, [], ◌∷◌, length, pos, ◌<ℤ◌, IsTrue, IsFalse}
use Rattle.cfn_model.specs.declared.step.Step.{Step}
use Rattle.cfn_model.specs.declared.step.Event.{Event}
use Rattle.cfn_model.specs.declared.step.Event.TheVariants.{Did, Took, Refused}
use Rattle.cfn_model.specs.Network.{Network, Fits, dims_at}
use Rattle.cfn_model.specs.Decisions.{holds}
use Rattle.cfn_model.specs.Sums.{unary, residual, is_live, is_live_tuple}
use Rattle.cfn_model.specs.Steps.{IsValue, IsDecision, Allowed, after}
use Rattle.cfn_model.specs.Tree.{Tree, Open, Closed, Split}

-- An assignment agrees with a path where each decision that was taken holds and each that was refused fails. Steps say
-- nothing.
abbrev pub Agrees : List ℕ → List Event → Type 0
Agrees values [] = Unit {0}
Agrees values (Did step ∷ path) = Agrees values path
Agrees values (Took d ∷ path) = IsTrue (holds d values) × Agrees values path
Agrees values (Refused d ∷ path) = IsFalse (holds d values) × Agrees values path

-- Each step of a path is allowed at k after what stands before it, and each decision is in range.
abbrev pub RunsAlong : Network → List Event → ℕ → Type 0
RunsAlong P [] k = Unit {0}
RunsAlong P (Did step ∷ path) k = Allowed P path k step × RunsAlong P path k
RunsAlong P (Took d ∷ path) k = IsDecision P d × RunsAlong P path k
RunsAlong P (Refused d ∷ path) k = IsDecision P d × RunsAlong P path k

-- Each unary cost of a live value and each residual cost of a live tuple is below 2^64.
pub record HasSmallCosts (P : Network) (history : List Event) : Type 0 where
  pub unary : (x a : ℕ) → IsValue P x a → IsTrue (is_live history x a) → unary P history x a <ℤ pos (2 ^ 64)
  pub residual : (f : ℕ) (tuple : List ℕ) → f < length P.functions → Fits (dims_at P f) tuple → IsTrue (is_live_tuple P history f tuple) → residual P history f tuple <ℤ pos (2 ^ 64)

-- Costs stay that small along a block, and along the tree.
abbrev pub TameBlock : Network → List Event → List Step → Type 0
TameBlock P history [] = HasSmallCosts P history
TameBlock P history (step ∷ steps) = HasSmallCosts P history × TameBlock P (Did step ∷ history) steps

abbrev pub Tame : Network → List Event → Tree → Type 0
Tame P history (Open block) = TameBlock P history block
Tame P history (Closed block) = TameBlock P history block
Tame P history (Split block d first second) =
    TameBlock P history block × Tame P (Took d ∷ after block history) first × Tame P (Refused d ∷ after block history) second

-- Costs stay small along a path.
abbrev pub TameAlong : Network → List Event → Type 0
TameAlong P [] = HasSmallCosts P []
TameAlong P (event ∷ path) = HasSmallCosts P (event ∷ path) × TameAlong P path
