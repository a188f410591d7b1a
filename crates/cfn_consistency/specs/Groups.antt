-- What the steps of an enforcing call gain: they fall into groups, each a run of extends and projects and then a step
-- that closes it (Cooper et al. 2010).
use Rattle.std.specs.Prelude.{◌≡◌, ℕ, ◌<◌, ◌⊎◌, List, [], ◌∷◌, IsTrue}
use Rattle.cfn_model.specs.declared.step.Step.{Step}
use Rattle.cfn_model.specs.declared.step.Step.TheVariants.{Project, Extend, Lift, CutValue, CutTuple}
use Rattle.cfn_model.specs.declared.step.Event.{Event}
use Rattle.cfn_model.specs.declared.step.Event.TheVariants.{Did}
use Rattle.cfn_model.specs.Network.{Network, Fits, variable_at, dims_at, cell}
use Rattle.cfn_model.specs.Sums.{is_live, is_live_tuple}
use Rattle.cfn_consistency.specs.Openness.{TakesPart, HasOpenPair}
use Rattle.cfn_consistency.specs.Consistency.{HasSupport, HasFullSupport}

-- A step that may stand before the one that closes its group.
abbrev pub IsShift : Step → Type 0
IsShift (Project f i a m) = Unit {0}
IsShift (Extend f i a m) = Unit {0}
IsShift (Lift x m) = ⊥
IsShift (CutValue x a) = ⊥
IsShift (CutTuple f c) = ⊥

-- A step projects to the value a at place i of f, or extends it.
abbrev pub Projects : ℕ → ℕ → ℕ → Step → Type 0
Projects f i a (Project g j b m) = (g ≡ f) × (j ≡ i) × (b ≡ a)
Projects f i a (Extend g j b m) = ⊥
Projects f i a (Lift x m) = ⊥
Projects f i a (CutValue x b) = ⊥
Projects f i a (CutTuple g c) = ⊥

abbrev pub Extends : ℕ → ℕ → ℕ → Step → Type 0
Extends f i a (Project g j b m) = ⊥
Extends f i a (Extend g j b m) = (g ≡ f) × (j ≡ i) × (b ≡ a)
Extends f i a (Lift x m) = ⊥
Extends f i a (CutValue x b) = ⊥
Extends f i a (CutTuple g c) = ⊥

-- A step does what another one does, with any amount.
abbrev pub Repeats : Step → Step → Type 0
Repeats (Project f i a m) other = Projects f i a other
Repeats (Extend f i a m) other = Extends f i a other
Repeats (Lift x m) other = ⊥
Repeats (CutValue x a) other = ⊥
Repeats (CutTuple f c) other = ⊥

-- A step repeats none of these.
abbrev pub IsNew : List Step → Step → Type 0
IsNew [] step = Unit {0}
IsNew (other ∷ steps) step = (Repeats step other → ⊥) × IsNew steps step

-- The tuple of f with the number c is live.
pub record IsLiveCell (P : Network) (history : List Event) (f c : ℕ) : Type 0 where
  pub tuple : List ℕ
  pub fits : Fits (dims_at P f) tuple
  pub cell : cell (dims_at P f) tuple ≡ c
  pub live : IsTrue (is_live_tuple P history f tuple)

-- Between two histories the live value a at place i of f got a support.
pub record GotSupport (P : Network) (start end : List Event) (f i a : ℕ) : Type 0 where
  pub part : TakesPart P end f
  pub live : IsTrue (is_live end (variable_at P f i) a)
  pub before : HasSupport P start f i a → ⊥
  pub now : HasSupport P end f i a

-- The live value a of the lower of two open variables of f, which stands at place i, got a full support.
pub record GotFullSupport (P : Network) (start end : List Event) (f i a : ℕ) : Type 0 where
  pub place : ℕ
  pub pair : HasOpenPair P end f i place
  pub lower : variable_at P f i < variable_at P f place
  pub live : IsTrue (is_live end (variable_at P f i) a)
  pub before : HasFullSupport P start f i place a → ⊥
  pub now : HasFullSupport P end f i place a

-- A step after a history closes the group that began at start: it lifts, it cuts what was live, or by its project a value
-- got a support or a full support.
abbrev pub Closes : Network → List Event → List Event → Step → Type 0
Closes P start history (Project f i a m) =
    GotSupport P start (Did (Project f i a m) ∷ history) f i a ⊎ GotFullSupport P start (Did (Project f i a m) ∷ history) f i a
Closes P start history (Extend f i a m) = ⊥
Closes P start history (Lift x m) = Unit {0}
Closes P start history (CutValue x a) = IsTrue (is_live history x a)
Closes P start history (CutTuple f c) = IsLiveCell P history f c

-- A group that began after a history, and its steps so far, the newest first.
pub record Group : Type 0 where
  pub start : List Event
  pub steps : List Step

abbrev pub begun : List Event → Group
begun history = record { start = history; steps = [] }

abbrev pub with_shift : Group → Step → Group
with_shift group step = record { start = group.start; steps = step ∷ group.steps }

-- Steps after a history, in a group, each a new one in its group, lead to a history and a group of which a fact holds.
abbrev pub LeadTo : Network → (List Event → Group → Type 0) → Group → List Event → List Step → Type 0
LeadTo P Fact group history [] = Fact history group
LeadTo P Fact group history (step ∷ steps) =
    IsNew group.steps step
    × ((IsShift step × LeadTo P Fact (with_shift group step) (Did step ∷ history) steps) ⊎ (Closes P group.start history step × LeadTo P Fact (begun (Did step ∷ history)) (Did step ∷ history) steps))

-- Nothing of a group is done yet; and anything may be.
abbrev pub IsBegun : List Event → Group → Type 0
IsBegun history group = group ≡ begun history

abbrev pub MayBeOpen : List Event → Group → Type 0
MayBeOpen history group = Unit {0}

-- Steps after a history are groups, in each of which nothing is extended twice and nothing projected to twice.
abbrev pub AreGroups : Network → List Event → List Step → Type 0
AreGroups P history steps = LeadTo P IsBegun (begun history) history steps

-- They are groups, the last of which may be unfinished.
abbrev pub AreOpenGroups : Network → List Event → List Step → Type 0
AreOpenGroups P history steps = LeadTo P MayBeOpen (begun history) history steps

-- For node consistency each step is a group of its own: it lifts, or cuts a live value.
abbrev pub GainsAtNode : List Event → Step → Type 0
GainsAtNode history (Project f i a m) = ⊥
GainsAtNode history (Extend f i a m) = ⊥
GainsAtNode history (Lift x m) = Unit {0}
GainsAtNode history (CutValue x a) = IsTrue (is_live history x a)
GainsAtNode history (CutTuple f c) = ⊥

abbrev pub GainAtNodes : List Event → List Step → Type 0
GainAtNodes history [] = Unit {0}
GainAtNodes history (step ∷ steps) = GainsAtNode history step × GainAtNodes (Did step ∷ history) steps
