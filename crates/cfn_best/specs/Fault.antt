-- The first line of a list's text that fails, and how. Lines count from 1.
use Rattle.std.specs.Prelude.{◌≡◌, ℕ, ◌+◌, ◌<◌, ◌≤◌, List, [], ◌∷◌, ◌++◌, length}
use Rattle.cfn_model.specs.declared.step.Event.{Event}
use Rattle.cfn_model.specs.Network.{Network, cost}
use Rattle.cfn_model.specs.Certificate.{Solution, IsSolution}
use Rattle.cfn_fault.specs.declared.kind.FaultKind.{FaultKind}
use Rattle.cfn_fault.specs.declared.kind.FaultKind.TheVariants as kinds
use Rattle.cfn_fault.specs.Lines as lines
use Rattle.cfn_fault.specs.Nodes.{Item}
use Rattle.cfn_fault.specs.Fault.{FailsPlace}
use Rattle.cfn_fault.specs.Judging.{PassesPlace}
use Rattle.cfn_best.specs.declared.kind.ListFault.{ListFault}
use Rattle.cfn_best.specs.declared.kind.ListFault.TheVariants.{Certificate, Listed}
use Rattle.cfn_best.specs.Tree.{IsLeafOf}
use Rattle.cfn_best.specs.List.{IsBefore}
use Rattle.cfn_best.specs.Lines.{ListLine, Heading, Count, Lists, Says, bytes_of, text_of, IsSpelledLine, State, AtHeading, AtNumbers, AtCount, AtLower, AtBest, AtList, AtNodes, AtOver, Follows, Claim, threshold}

-- An assignment comes behind all of an ordered list: it comes behind the last one.
abbrev pub ComesBehind : List Solution → Solution → Type 0
ComesBehind [] s = Unit {0}
ComesBehind (t ∷ []) s = IsBefore t s
ComesBehind (t ∷ u ∷ list) s = ComesBehind (u ∷ list) s

-- It may be the next one of a list: it is a solution, and comes behind those before it.
pub record IsNext (P : Network) (list : List Solution) (s : Solution) : Type 0 where
  pub solution : IsSolution P s
  pub behind : ComesBehind list s

-- A line is right where a state says.
abbrev pub LinePasses : Network → State → ListLine → Type 0
LinePasses P AtNumbers (Says (lines.Numbers n e upper)) = (n ≡ length P.sizes) × (e ≡ length P.functions) × (upper ≡ P.upper)
LinePasses P (AtBest count lower) (Says (lines.Best many)) = many ≤ count
LinePasses P (AtList claim left) (Says (lines.Values (cost ∷ values))) = IsNext P claim.list (record { cost = cost; values = values })
LinePasses P (AtNodes claim least (history ∷ paths)) (Says (lines.Node item)) = PassesPlace P (threshold P claim) history item
LinePasses P (AtNodes claim least (history ∷ paths)) (Lists j) = IsLeafOf P claim.list history j
LinePasses P s l = Unit {0}

-- How a node's line fails: as it would in a certificate.
abbrev pub FailsNode : Network → ℕ → List Event → Item → ListFault → Type 0
FailsNode P k history item kind = (its : FaultKind) × (kind ≡ Certificate its) × FailsPlace P k history item its

-- A line that may come is wrong there, with a kind.
abbrev pub LineFails : Network → State → ListLine → ListFault → Type 0
LineFails P AtNumbers (Says (lines.Numbers n e upper)) kind = (kind ≡ Certificate kinds.Network) × ((n ≡ length P.sizes) × (e ≡ length P.functions) × (upper ≡ P.upper) → ⊥)
LineFails P (AtBest count lower) (Says (lines.Best many)) kind = (kind ≡ Certificate kinds.Best) × (count < many)
LineFails P (AtList claim left) (Says (lines.Values (cost ∷ values))) kind = (kind ≡ Certificate kinds.Best) × (IsNext P claim.list (record { cost = cost; values = values }) → ⊥)
LineFails P (AtNodes claim least (history ∷ paths)) (Says (lines.Node item)) kind = FailsNode P (threshold P claim) history item kind
LineFails P (AtNodes claim least (history ∷ paths)) (Lists j) kind = (kind ≡ Listed) × (IsLeafOf P claim.list history j → ⊥)
LineFails P s l kind = ⊥

-- A line that has a spelling may come where a state says, and is right there.
pub record Passes (P : Network) (s : State) (l : ListLine) (t : State) : Type 0 where
  pub spelled : IsSpelledLine l
  pub follows : Follows P s l t
  pub right : LinePasses P s l

-- Lines that are right one behind the other, from one state to another.
abbrev pub AllPass : Network → State → List ListLine → State → Type 0
AllPass P s [] t = s ≡ t
AllPass P s (l ∷ ls) t = (m : State) × Passes P s l m × AllPass P m ls t

-- The first n lines of the bytes are right and lead to a state, and the rest is behind them.
pub record HasPassed (P : Network) (bytes rest : List ℕ) (n : ℕ) (s : State) : Type 0 where
  pub lines : List ListLine
  pub count : length lines ≡ n
  pub text : bytes ≡ text_of lines ++ rest
  pub right : AllPass P AtHeading lines s

-- A line that has a spelling may come where a state says.
abbrev pub MayCome : Network → State → ListLine → Type 0
MayCome P s l = IsSpelledLine l × (t : State) × Follows P s l t

-- What stands behind the lines follows no grammar: no line that may come, and more than nothing where nothing may come.
pub record NoneComes (P : Network) (s : State) (rest : List ℕ) : Type 0 where
  pub line : (l : ListLine) (more : List ℕ) → MayCome P s l → rest ≡ bytes_of l ++ more → ⊥
  pub over : (claim : Claim) (least : ℕ) → s ≡ AtOver claim least → rest ≡ [] → ⊥

-- The first line that fails decides: it does not follow the grammar, or says what is wrong. Where none does, the lower
-- bound is judged, on line 4.
pub data Fault (P : Network) (bytes : List ℕ) (l : ℕ) (kind : ListFault) : Type 0 where
  ByGrammar : (rest : List ℕ) (n : ℕ) (s : State) → HasPassed P bytes rest n s → NoneComes P s rest → l ≡ n + 1 → kind ≡ Certificate kinds.Text → Fault P bytes l kind
  ByLine : (rest more : List ℕ) (n : ℕ) (s : State) (its : ListLine) → HasPassed P bytes rest n s → MayCome P s its → rest ≡ bytes_of its ++ more → LineFails P s its kind → l ≡ n + 1 → Fault P bytes l kind
  LowerAbove : (n : ℕ) (claim : Claim) (least : ℕ) → HasPassed P bytes [] n (AtOver claim least) → least < claim.lower → l ≡ 4 → kind ≡ Certificate kinds.Lower → Fault P bytes l kind
