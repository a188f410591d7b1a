-- What holds of local consistencies.
use Rattle.std.specs.Prelude.{◌≢◌, ℕ, ◌<◌, ◌≤◌, List, ◌++◌, length, IsTrue}
use Rattle.std.specs.List.{AllPairs}
use Rattle.cfn_model.specs.declared.step.Step.{Step}
use Rattle.cfn_model.specs.declared.step.Event.{Event}
use Rattle.cfn_model.specs.Network.{Network, IsNetwork}
use Rattle.cfn_model.specs.Sums.{is_live}
use Rattle.cfn_model.specs.Steps.{after, IsValue}
use Rattle.cfn_consistency.specs.declared.deletion.Deletion.{Deletion}
use Rattle.cfn_consistency.specs.declared.deletion.Source.{Source}
use Rattle.cfn_consistency.specs.Openness.{TakesPart}
use Rattle.cfn_consistency.specs.Consistency.{IsDead, IsNodeConsistent, IsArcConsistent, IsDirectional, IsExistential, AreArcConsistent, AreDirectional, AreExistential, AreFullyConsistent}
use Rattle.cfn_consistency.specs.Groups.{AreGroups, AreOpenGroups, GainAtNodes}
use Rattle.cfn_consistency.specs.Virtual.{Bans, without, IsDerivation, IsClosedFamily, AreSourcesOf}
use Rattle.cfn_consistency.specs.Agreement.{AgreeOnFunction, AgreeAround, AgreeNear, AgreeOnNodes}

-- What holds at a threshold holds at every greater one.
abbrev pub Rises : (Network → List Event → ℕ → Type 0) → Type 0
Rises Holds = (P : Network) (history : List Event) (k greater : ℕ) → k ≤ greater → Holds P history k → Holds P history greater

abbrev pub NodesRise : Type 0
NodesRise = Rises IsNodeConsistent

abbrev pub ArcsRise : Type 0
ArcsRise = Rises AreArcConsistent

abbrev pub DirectionalsRise : Type 0
DirectionalsRise = Rises AreDirectional

abbrev pub ExistentialsRise : Type 0
ExistentialsRise = Rises AreExistential

abbrev pub FullsRise : Type 0
FullsRise = Rises AreFullyConsistent

-- What is dead at a threshold is so at every smaller one.
abbrev pub DeadFalls : Type 0
DeadFalls = (P : Network) (history : List Event) (k smaller : ℕ) → smaller ≤ k → IsDead P history k → IsDead P history smaller

-- What is node consistent is not dead.
abbrev pub NeverBoth : Type 0
NeverBoth = (P : Network) (history : List Event) (k : ℕ) → IsNetwork P → IsNodeConsistent P history k → IsDead P history k → ⊥

-- One fact holds exactly where the other does.
abbrev pub Exactly : Type 0 → Type 0 → Type 0
Exactly A B = (A → B) × (B → A)

-- Which functions take part, and the arc consistency of one, depend on what is live and on its residual costs alone.
abbrev pub PartIsLocal : Type 0
PartIsLocal = (P : Network) (one other : List Event) (f : ℕ) → AgreeOnFunction P one other f → Exactly (TakesPart P one f) (TakesPart P other f)

abbrev pub ArcIsLocal : Type 0
ArcIsLocal = (P : Network) (one other : List Event) (f : ℕ) → AgreeOnFunction P one other f → Exactly (IsArcConsistent P one f) (IsArcConsistent P other f)

-- Directional arc consistency of a function depends on the unary costs of its variables' live values as well.
abbrev pub DirectionalIsLocal : Type 0
DirectionalIsLocal = (P : Network) (one other : List Event) (f : ℕ) → AgreeAround P one other f → Exactly (IsDirectional P one f) (IsDirectional P other f)

-- Existential arc consistency of a variable depends on what is around its functions.
abbrev pub ExistentialIsLocal : Type 0
ExistentialIsLocal = (P : Network) (one other : List Event) (x : ℕ) → AgreeNear P one other x → Exactly (IsExistential P one x) (IsExistential P other x)

-- Node consistency depends on the floor, the live values and their unary costs.
abbrev pub NodesAreLocal : Type 0
NodesAreLocal = (P : Network) (one other : List Event) (k : ℕ) → AgreeOnNodes P one other → Exactly (IsNodeConsistent P one k) (IsNodeConsistent P other k)

-- Steps that gain at nodes are groups, and groups behind groups are groups.
abbrev pub NodesGroup : Type 0
NodesGroup = (P : Network) (history : List Event) (steps : List Step) → GainAtNodes history steps → AreGroups P history steps

abbrev pub GroupsJoin : Type 0
GroupsJoin = (P : Network) (history : List Event) (steps more : List Step) → AreGroups P history steps → AreGroups P (after steps history) more → AreGroups P history (steps ++ more)

-- Groups behind which there are groups, the last of which may be unfinished, are such groups.
abbrev pub OpenGroupsJoin : Type 0
OpenGroupsJoin = (P : Network) (history : List Event) (steps more : List Step) → AreGroups P history steps → AreOpenGroups P (after steps history) more → AreOpenGroups P history (steps ++ more)

-- Where a derivation ends in a closed family, no derivation under the same bans empties a variable.
abbrev pub ClosedStaysClosed : Type 0
ClosedStaysClosed =
    (P : Network) (history : List Event) (q : ℕ) (bans : Bans) (closed others : List Deletion) → IsNetwork P → IsClosedFamily P (without closed history) q bans → IsDerivation P history q bans others → (x : ℕ) → x < length P.sizes → (a : ℕ) × IsValue P x a × IsTrue (is_live (without others history) x a)

-- No source of a deletion stands twice.
abbrev pub SourcesDiffer : Type 0
SourcesDiffer =
    (P : Network) (history : List Event) (q f i a : ℕ) (earlier : List Deletion) (sources : List Source) → AreSourcesOf P history q f i a earlier sources → AllPairs (λ (s : Source) (other : Source). s ≢ other) sources
