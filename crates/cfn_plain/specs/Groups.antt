-- How the last group may end, and what is told of the steps behind each step.
use Rattle.std.specs.Prelude.{ℕ, ◌<◌, ◌↔◌, Bool, true, false, List, [], ◌∷◌, IsTrue}
use Rattle.cfn_model.specs.declared.step.Step.{Step}
use Rattle.cfn_model.specs.declared.step.Event.{Event}
use Rattle.cfn_model.specs.declared.step.Event.TheVariants.{Did}
use Rattle.cfn_model.specs.Network.{Network, variable_at}
use Rattle.cfn_model.specs.Sums.{is_live}
use Rattle.cfn_consistency.specs.Openness.{HasOpenPair}
use Rattle.cfn_consistency.specs.Consistency.{HasFullSupport}
use Rattle.cfn_consistency.specs.Groups.{Group, begun, LeadTo, IsBegun, MayBeOpen}

-- The last group may be unfinished, or not.
abbrev pub Ends : Bool → List Event → Group → Type 0
Ends true = MayBeOpen
Ends false = IsBegun

-- For each step after a history it is told whether those behind it lead to a fact from a new group on.
abbrev pub Tells : Network → (List Event → Group → Type 0) → List Event → List Step → List Bool → Type 0
Tells P Fact history [] told = Unit {0}
Tells P Fact history (step ∷ steps) [] = ⊥
Tells P Fact history (step ∷ steps) (first ∷ told) =
    (IsTrue first ↔ LeadTo P Fact (begun (Did step ∷ history)) (Did step ∷ history) steps) × Tells P Fact (Did step ∷ history) steps told

-- The live value a of the lower of two open variables of f got a full support, with regard to the variable at place j.
pub record GotFullSupportWith (P : Network) (start end : List Event) (f i j a : ℕ) : Type 0 where
  pub pair : HasOpenPair P end f i j
  pub lower : variable_at P f i < variable_at P f j
  pub live : IsTrue (is_live end (variable_at P f i) a)
  pub before : HasFullSupport P start f i j a → ⊥
  pub now : HasFullSupport P end f i j a
