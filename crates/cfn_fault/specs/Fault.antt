-- The first line of a certificate that fails, and how (Cooper et al. 2010, Allouche et al. 2015). Lines count from 1.
use Rattle.std.specs.Prelude.{◌≡◌, ℕ, ◌+◌, ◌<◌, ◌≤◌, List, [], ◌∷◌, ◌++◌, length, slice_index_or, Some, if◌then◌else◌, ◌==◌}
use Rattle.cfn_model.specs.declared.step.Step.{Step}
use Rattle.cfn_model.specs.declared.step.Step.TheVariants.{Project, Extend, Lift, CutValue, CutTuple}
use Rattle.cfn_model.specs.declared.step.Event.{Event}
use Rattle.cfn_model.specs.declared.step.Event.TheVariants.{Did, Took, Refused}
use Rattle.cfn_model.specs.Network.{Network, Fits, cost}
use Rattle.cfn_model.specs.Words.{with_first}
use Rattle.cfn_model.specs.Steps.{IsDecision, InRange, Allowed, after}
use Rattle.cfn_model.specs.Tree.{Tree, Open, Closed, Split, CanClose, bound}
use Rattle.cfn_model.specs.Certificate.{Solution, Certificate, threshold}
use Rattle.cfn_model.specs.Text.{IsSpelled, Spells, spelling, head_lines}
use Rattle.cfn_fault.specs.declared.kind.FaultKind.{FaultKind}
use Rattle.cfn_fault.specs.declared.kind.FaultKind.TheVariants as kinds
use Rattle.cfn_fault.specs.Nodes.{Item, Makes, LeavesOpen, Closes, Splits}

-- The lines of a text, each with its LF. Bytes behind the last LF are a line.
abbrev pub lines : List ℕ → List (List ℕ)
lines [] = []
lines (b ∷ bytes) = if b == 10 then (b ∷ []) ∷ lines bytes else with_first b (lines bytes)

-- The line behind the first i lines; a missing line is empty.
abbrev pub line_at : List ℕ → ℕ → List ℕ
line_at bytes i = slice_index_or (lines bytes) i []

-- The first l lines of the bytes are the first l lines of the certificate.
abbrev pub Begins : Certificate → List ℕ → ℕ → Type 0
Begins c bytes l = (i : ℕ) → i < l → line_at (spelling c) i ≡ line_at bytes i

-- No certificate begins with the first l lines of the bytes.
abbrev pub NoneBeginsWith : List ℕ → ℕ → Type 0
NoneBeginsWith bytes l = (c : Certificate) → IsSpelled c → Begins c bytes l → ⊥

-- The text alone fails at line l, whatever the network: no certificate begins with the first l lines, and one does with
-- any fewer.
pub record TextFault (bytes : List ℕ) (l : ℕ) : Type 0 where
  pub none : NoneBeginsWith bytes l
  pub some : (fewer : ℕ) → fewer < l → (c : Certificate) × IsSpelled c × Begins c bytes fewer

-- A line of a tree, and what happened on the path before it.
pub record Place : Type 0 where
  pub history : List Event
  pub item : Item

abbrev pub place : List Event → Item → Place
place history item = record { history = history; item = item }

-- The places of a tree's lines, in the order of the text.
abbrev pub block_places : List Event → List Step → List Place
block_places history [] = []
block_places history (step ∷ steps) = place history (Makes step) ∷ block_places (Did step ∷ history) steps

abbrev pub places : List Event → Tree → List Place
places history (Open block) = block_places history block ++ place (after block history) LeavesOpen ∷ []
places history (Closed block) = block_places history block ++ place (after block history) Closes ∷ []
places history (Split block d first second) =
    block_places history block
    ++ place (after block history) (Splits d)
    ∷ (places (Took d ∷ after block history) first ++ places (Refused d ∷ after block history) second)

-- How a step fails that is in range and not allowed.
abbrev pub refusal_of : Step → FaultKind
refusal_of (Project f i a m) = kinds.Project
refusal_of (Extend f i a m) = kinds.Extend
refusal_of (Lift x m) = kinds.Lift
refusal_of (CutValue x a) = kinds.Cut
refusal_of (CutTuple f c) = kinds.Cut

-- A step is out of range, or in range and not allowed.
pub data FailsStep (P : Network) (k : ℕ) (history : List Event) (step : Step) (kind : FaultKind) : Type 0 where
  OutOfRange : kind ≡ kinds.Range → (InRange P step → ⊥) → FailsStep P k history step kind
  NotAllowed : kind ≡ refusal_of step → InRange P step → (Allowed P history k step → ⊥) → FailsStep P k history step kind

-- What a place's line says is wrong at the threshold k: its step fails, its leaf may not be closed, or its split's
-- decision names no value of a variable.
abbrev pub FailsPlace : Network → ℕ → List Event → Item → FaultKind → Type 0
FailsPlace P k history (Makes step) kind = FailsStep P k history step kind
FailsPlace P k history LeavesOpen kind = ⊥
FailsPlace P k history Closes kind = (kind ≡ kinds.Close) × (CanClose P history k → ⊥)
FailsPlace P k history (Splits d) kind = (kind ≡ kinds.Range) × (IsDecision P d → ⊥)

-- A certificate's numbers are the network's.
pub record HasNumbers (P : Network) (c : Certificate) : Type 0 where
  pub variables : c.variables ≡ length P.sizes
  pub functions : c.functions ≡ length P.functions
  pub upper : c.upper ≡ P.upper

-- A line of a certificate is wrong with a kind.
pub data FailsLine (P : Network) (c : Certificate) (l : ℕ) (kind : FaultKind) : Type 0 where
  OtherNetwork : l ≡ 2 → kind ≡ kinds.Network → (HasNumbers P c → ⊥) → FailsLine P c l kind
  NotBelow : (best : Solution) → l ≡ 4 → kind ≡ kinds.Best → c.best ≡ Some best → P.upper ≤ best.cost → FailsLine P c l kind
  NoSolution : (best : Solution) → l ≡ 5 → kind ≡ kinds.Best → c.best ≡ Some best → (Fits P.sizes best.values × (cost P best.values ≡ best.cost) → ⊥) → FailsLine P c l kind
  AtPlace : (before behind : List Place) (at : Place) → l ≡ length (head_lines c) + 2 + length before → places [] c.tree ≡ before ++ at ∷ behind
      → FailsPlace P (threshold c) at.history at.item kind → FailsLine P c l kind

-- Line l of the bytes fails: the text does, or a certificate begins with the first l lines and its line l is wrong.
pub data Fails (P : Network) (bytes : List ℕ) (l : ℕ) (kind : FaultKind) : Type 0 where
  AsText : kind ≡ kinds.Text → TextFault bytes l → Fails P bytes l kind
  InCertificate : (c : Certificate) → IsSpelled c → Begins c bytes l → FailsLine P c l kind → Fails P bytes l kind

-- The first line that fails decides. Where none does, the lower bound is judged, on line 3.
pub data Fault (P : Network) (bytes : List ℕ) (l : ℕ) (kind : FaultKind) : Type 0 where
  First : Fails P bytes l kind → ((earlier : ℕ) (other : FaultKind) → earlier < l → Fails P bytes earlier other → ⊥) → Fault P bytes l kind
  LowerAbove : (c : Certificate) → l ≡ 3 → kind ≡ kinds.Lower → ((other : ℕ) (its : FaultKind) → Fails P bytes other its → ⊥) → Spells c bytes
      → bound P [] c.tree (threshold c) < c.lower → Fault P bytes l kind
