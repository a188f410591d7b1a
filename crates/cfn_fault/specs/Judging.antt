-- When a line fails, said by the lines before it: what a checker that goes over the lines has to look at.
use Rattle.std.specs.Prelude.{◌≡◌, ℕ, ◌<◌, ◌≤◌, min, List, [], ◌∷◌, ◌++◌, length, fold}
use Rattle.cfn_model.specs.declared.step.Event.{Event}
use Rattle.cfn_model.specs.Network.{Network, Fits, cost}
use Rattle.cfn_model.specs.Sums.{floor}
use Rattle.cfn_model.specs.Steps.{IsDecision, Allowed}
use Rattle.cfn_model.specs.Tree.{CanClose}
use Rattle.cfn_fault.specs.declared.kind.FaultKind.{FaultKind}
use Rattle.cfn_fault.specs.declared.kind.FaultKind.TheVariants as kinds
use Rattle.cfn_fault.specs.Nodes.{Item, Makes, LeavesOpen, Closes, Splits, paths_after}
use Rattle.cfn_fault.specs.Fault.{FailsPlace}
use Rattle.cfn_fault.specs.Lines.{Line, Version, Numbers, Lower, NoBest, Best, Values, Root, Node, End, State, AtVersion, AtNumbers, AtLower, AtBest, AtValues, AtRoot, AtNodes, AtOver, Runs}

-- The threshold that lines say, once they have said it.
abbrev pub threshold_in : List Line → ℕ
threshold_in (Version version ∷ Numbers n e upper ∷ Lower lower ∷ NoBest ∷ ls) = upper
threshold_in (Version version ∷ Numbers n e upper ∷ Lower lower ∷ Best cost ∷ ls) = cost
threshold_in ls = 0

-- The lower bound that lines say, once they have said it.
abbrev pub lower_in : List Line → ℕ
lower_in (Version version ∷ Numbers n e upper ∷ Lower lower ∷ ls) = lower
lower_in ls = 0

-- A line of a node fails at the path that is due.
abbrev pub NodeFails : Network → ℕ → State → Item → FaultKind → Type 0
NodeFails P k (AtNodes version (history ∷ paths)) item kind = FailsPlace P k history item kind
NodeFails P k (AtNodes version []) item kind = ⊥
NodeFails P k AtVersion item kind = ⊥
NodeFails P k (AtNumbers version) item kind = ⊥
NodeFails P k (AtLower version) item kind = ⊥
NodeFails P k (AtBest version) item kind = ⊥
NodeFails P k (AtValues version) item kind = ⊥
NodeFails P k (AtRoot version) item kind = ⊥
NodeFails P k AtOver item kind = ⊥

-- A line fails behind these lines, which lead to that state.
abbrev pub LineFails : Network → List Line → State → Line → FaultKind → Type 0
LineFails P front s (Version version) kind = ⊥
LineFails P front s (Numbers n e upper) kind = (kind ≡ kinds.Network) × ((n ≡ length P.sizes) × (e ≡ length P.functions) × (upper ≡ P.upper) → ⊥)
LineFails P front s (Lower lower) kind = ⊥
LineFails P front s NoBest kind = ⊥
LineFails P front s (Best cost) kind = (kind ≡ kinds.Best) × (P.upper ≤ cost)
LineFails P front s (Values values) kind = (kind ≡ kinds.Best) × (Fits P.sizes values × (cost P values ≡ threshold_in front) → ⊥)
LineFails P front s Root kind = ⊥
LineFails P front s (Node item) kind = NodeFails P (threshold_in front) s item kind
LineFails P front s End kind = ⊥

-- None of these lines fails.
abbrev pub NoneFails : Network → List Line → Type 0
NoneFails P ls = (front back : List Line) (l : Line) (s : State) (kind : FaultKind) → ls ≡ front ++ l ∷ back → Runs AtVersion front s → LineFails P front s l kind → ⊥

-- What a place's line says is right at the threshold k.
abbrev pub PassesPlace : Network → ℕ → List Event → Item → Type 0
PassesPlace P k history (Makes step) = Allowed P history k step
PassesPlace P k history LeavesOpen = Unit {0}
PassesPlace P k history Closes = CanClose P history k
PassesPlace P k history (Splits d) = IsDecision P d

abbrev pub NodePasses : Network → ℕ → State → Item → Type 0
NodePasses P k (AtNodes version (history ∷ paths)) item = PassesPlace P k history item
NodePasses P k (AtNodes version []) item = Unit {0}
NodePasses P k AtVersion item = Unit {0}
NodePasses P k (AtNumbers version) item = Unit {0}
NodePasses P k (AtLower version) item = Unit {0}
NodePasses P k (AtBest version) item = Unit {0}
NodePasses P k (AtValues version) item = Unit {0}
NodePasses P k (AtRoot version) item = Unit {0}
NodePasses P k AtOver item = Unit {0}

-- A line is right behind these lines, which lead to that state.
abbrev pub LinePasses : Network → List Line → State → Line → Type 0
LinePasses P front s (Version version) = Unit {0}
LinePasses P front s (Numbers n e upper) = (n ≡ length P.sizes) × (e ≡ length P.functions) × (upper ≡ P.upper)
LinePasses P front s (Lower lower) = Unit {0}
LinePasses P front s NoBest = Unit {0}
LinePasses P front s (Best cost) = cost < P.upper
LinePasses P front s (Values values) = Fits P.sizes values × (cost P values ≡ threshold_in front)
LinePasses P front s Root = Unit {0}
LinePasses P front s (Node item) = NodePasses P (threshold_in front) s item
LinePasses P front s End = Unit {0}

-- Each of these lines is right.
abbrev pub AllPass : Network → List Line → Type 0
AllPass P ls = (front back : List Line) (l : Line) (s : State) → ls ≡ front ++ l ∷ back → Runs AtVersion front s → LinePasses P front s l

-- The floors of the open leaves among these lines, where these paths are due.
abbrev pub floor_at : Network → List Event → Item → List ℕ
floor_at P history (Makes step) = []
floor_at P history LeavesOpen = floor P history ∷ []
floor_at P history Closes = []
floor_at P history (Splits d) = []

abbrev pub open_floors : Network → List (List Event) → List Line → List ℕ
open_floors P paths [] = []
open_floors P [] (l ∷ ls) = []
open_floors P (history ∷ paths) (Node item ∷ ls) = floor_at P history item ++ open_floors P (paths_after history item ++ paths) ls
open_floors P (history ∷ paths) (l ∷ ls) = open_floors P (history ∷ paths) ls

-- The least of a threshold and floors.
abbrev pub lowest : ℕ → List ℕ → ℕ
lowest k floors = fold min k floors

-- The bound that the lines of a certificate show.
abbrev pub bound_in : Network → List Line → ℕ
bound_in P ls = lowest (threshold_in ls) (open_floors P ([] ∷ []) ls)
