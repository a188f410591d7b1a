-- The first line of a record's text that fails, and how. Lines count from 1.
use Rattle.std.specs.Prelude.{◌≡◌, ◌≢◌, ℕ, ◌+◌, ◌<◌, ◌≤◌, List, [], ◌∷◌, ◌++◌, length, Option}
use Rattle.std.specs.List.{AllByRecursion}
use Rattle.cfn_model.specs.declared.step.Event.{Event}
use Rattle.cfn_model.specs.Network.{Network}
use Rattle.cfn_model.specs.Tree.{Tree, count}
use Rattle.cfn_model.specs.Certificate.{Solution, Good}
use Rattle.cfn_fault.specs.Lines as lines
use Rattle.cfn_fault.specs.Lines.{Line}
use Rattle.cfn_machine.specs.Pool.{Out, IsLeaf, Pool, tree_of}
use Rattle.cfn_record.specs.declared.kind.RecordFault.{RecordFault}
use Rattle.cfn_record.specs.declared.kind.RecordFault.TheVariants as kinds
use Rattle.cfn_record.specs.Entries.{Entry, Took, Follows, Runs}
use Rattle.cfn_record.specs.Lines.{RecordLine, Heading, Budget, Take, Give, Back, Recall, Sweep, Says, bytes_of, text_of, IsSpelledLine, lines_of_tree, lines_of_entries, lines_of_best, State, AtHeading, AtOver, LineFollows}
use Rattle.cfn_record.specs.Replaying.{opening, certificate_of}

-- Some lines come to a pool: they are the first three, those of some entries, and others behind them, and the entries make that pool of
-- the opening.
pub record ComesTo (P : Network) (front others : List RecordLine) (pool : Pool) : Type 0 where
  pub variables : ℕ
  pub functions : ℕ
  pub upper : ℕ
  pub budget : ℕ
  pub entries : List Entry
  pub lines_are : front ≡ Heading ∷ Says (lines.Numbers variables functions upper) ∷ Budget budget ∷ (lines_of_entries entries ++ others)
  pub run : Runs P (opening P budget) entries pool

-- Lines of events come to such a pool.
pub record PoolIs (P : Network) (front : List RecordLine) (IsSuch : Pool → Type 0) : Type 0 where
  pub pool : Pool
  pub comes : ComesTo P front [] pool
  pub such : IsSuch pool

-- A leaf is out to a worker with a grant.
abbrev pub IsOutTo : Pool → ℕ → ℕ → ℕ → Type 0
IsOutTo pool worker leaf grant = (path : List Event) × IsLeaf pool.tree [] leaf (Out worker grant) path

-- A tree's lines stand in front of the bytes.
pub record StandsFirst (bytes : List ℕ) (tree : Tree) : Type 0 where
  pub spelled : AllByRecursion IsSpelledLine (lines_of_tree tree)
  pub rest : List ℕ
  pub text : bytes ≡ text_of (lines_of_tree tree) ++ rest

-- A tree has 1 to grant split and closed nodes.
abbrev pub KeepsGrant : ℕ → Tree → Type 0
KeepsGrant grant tree = (1 ≤ count tree) × (count tree ≤ grant)

-- Where the lines of a whole piece stand in front of the bytes, it has so many.
abbrev pub PieceKeepsGrant : List ℕ → ℕ → Type 0
PieceKeepsGrant bytes grant = (tree : Tree) → StandsFirst bytes tree → KeepsGrant grant tree

-- What is seen at a give is at most the piece's threshold and what was seen before.
abbrev pub IsSeen : Pool → ℕ → ℕ → Type 0
IsSeen pool threshold seen = (seen ≤ threshold) × (seen ≤ pool.view.seen)

-- A give is right behind these lines: its leaf is out to the worker with the grant, its piece has so many nodes, where all of its lines
-- stand behind, and what it saw it could see.
pub record GivePasses (P : Network) (front : List RecordLine) (more : List ℕ) (worker leaf grant threshold seen : ℕ) : Type 0 where
  pub pool : Pool
  pub comes : ComesTo P front [] pool
  pub out : IsOutTo pool worker leaf grant
  pub granted : PieceKeepsGrant more grant
  pub sees : IsSeen pool threshold seen

-- The certificate that the lines come to is good.
pub record ComesToGood (P : Network) (front : List RecordLine) : Type 0 where
  pub best : Option Solution
  pub pool : Pool
  pub comes : ComesTo P front (lines_of_best best) pool
  pub good : Good P (certificate_of P best (tree_of pool.tree))

-- The three numbers of a line are those of the network.
abbrev pub HasNumbers : Network → ℕ → ℕ → ℕ → Type 0
HasNumbers P n e upper = (n ≡ length P.sizes) × (e ≡ length P.functions) × (upper ≡ P.upper)

-- A line that certificates have too is right behind these lines.
abbrev pub SaidPasses : Network → List RecordLine → Line → Type 0
SaidPasses P front (lines.Numbers n e upper) = HasNumbers P n e upper
SaidPasses P front lines.NoBest = PoolIs P front (λ pool. pool.view.seen ≡ P.upper)
SaidPasses P front (lines.Best cost) = PoolIs P front (λ pool. pool.view.seen ≡ cost)
SaidPasses P front lines.End = ComesToGood P front
SaidPasses P front l = Unit {0}

-- A line that may come is right behind these lines, with these bytes behind it.
abbrev pub LinePasses : Network → List RecordLine → List ℕ → RecordLine → Type 0
LinePasses P front more Heading = Unit {0}
LinePasses P front more (Budget budget) = Unit {0}
LinePasses P front more (Take worker want leaf grant) = PoolIs P front (λ pool. (new : Pool) × Follows P pool (Took worker want leaf grant) new)
LinePasses P front more (Give worker leaf grant threshold seen) = GivePasses P front more worker leaf grant threshold seen
LinePasses P front more (Back worker leaf grant) = PoolIs P front (λ pool. IsOutTo pool worker leaf grant)
LinePasses P front more Recall = Unit {0}
LinePasses P front more (Sweep seen) = PoolIs P front (λ pool. seen ≤ pool.view.seen)
LinePasses P front more (Says l) = SaidPasses P front l

-- A give is wrong behind these lines. Its leaf is not out to the worker with the grant; or all lines of its piece stand behind, and it has
-- another number of split and closed nodes; or neither, and it saw what it could not see.
pub data GiveFails (P : Network) (front : List RecordLine) (more : List ℕ) (worker leaf grant threshold seen : ℕ) (kind : RecordFault) : Type 0 where
  NotOut : (pool : Pool) → ComesTo P front [] pool → kind ≡ kinds.Give → (IsOutTo pool worker leaf grant → ⊥) → GiveFails P front more worker leaf grant threshold seen kind
  BreaksGrant : (pool : Pool) → ComesTo P front [] pool → kind ≡ kinds.Give → (tree : Tree) → StandsFirst more tree → (KeepsGrant grant tree → ⊥) → GiveFails P front more worker leaf grant threshold seen kind
  SeenAbove : (pool : Pool) → ComesTo P front [] pool → kind ≡ kinds.Seen → IsOutTo pool worker leaf grant → PieceKeepsGrant more grant → (IsSeen pool threshold seen → ⊥) → GiveFails P front more worker leaf grant threshold seen kind

-- The certificate that the lines come to is not good.
pub record ComesToBad (P : Network) (front : List RecordLine) : Type 0 where
  pub best : Option Solution
  pub pool : Pool
  pub comes : ComesTo P front (lines_of_best best) pool
  pub bad : Good P (certificate_of P best (tree_of pool.tree)) → ⊥

-- A line that certificates have too is wrong behind these lines, with a kind.
abbrev pub SaidFails : Network → List RecordLine → Line → RecordFault → Type 0
SaidFails P front (lines.Numbers n e upper) kind = (kind ≡ kinds.Network) × (HasNumbers P n e upper → ⊥)
SaidFails P front lines.NoBest kind = (kind ≡ kinds.Seen) × PoolIs P front (λ pool. pool.view.seen ≢ P.upper)
SaidFails P front (lines.Best cost) kind = (kind ≡ kinds.Seen) × PoolIs P front (λ pool. pool.view.seen ≢ cost)
SaidFails P front lines.End kind = (kind ≡ kinds.Certificate) × ComesToBad P front
SaidFails P front l kind = ⊥

-- A line that may come is wrong behind these lines, with these bytes behind it and with a kind.
abbrev pub LineFails : Network → List RecordLine → List ℕ → RecordLine → RecordFault → Type 0
LineFails P front more Heading kind = ⊥
LineFails P front more (Budget budget) kind = ⊥
LineFails P front more (Take worker want leaf grant) kind = (kind ≡ kinds.Take) × PoolIs P front (λ pool. (new : Pool) → Follows P pool (Took worker want leaf grant) new → ⊥)
LineFails P front more (Give worker leaf grant threshold seen) kind = GiveFails P front more worker leaf grant threshold seen kind
LineFails P front more (Back worker leaf grant) kind = (kind ≡ kinds.Back) × PoolIs P front (λ pool. IsOutTo pool worker leaf grant → ⊥)
LineFails P front more Recall kind = ⊥
LineFails P front more (Sweep seen) kind = (kind ≡ kinds.Seen) × PoolIs P front (λ pool. pool.view.seen < seen)
LineFails P front more (Says l) kind = SaidFails P front l kind

-- A line that has a spelling may come where a state says, and is right behind these lines, with these bytes behind it.
pub record Passes (P : Network) (front : List RecordLine) (s : State) (l : RecordLine) (more : List ℕ) (t : State) : Type 0 where
  pub spelled : IsSpelledLine l
  pub follows : LineFollows s l t
  pub right : LinePasses P front more l

-- Lines that are right one behind the other, from one state to another, behind some lines and with some bytes behind them.
abbrev pub AllPass : Network → List RecordLine → State → List RecordLine → List ℕ → State → Type 0
AllPass P front s [] rest t = s ≡ t
AllPass P front s (l ∷ ls) rest t = (m : State) × Passes P front s l (text_of ls ++ rest) m × AllPass P (front ++ l ∷ []) m ls rest t

-- These lines stand in front of the bytes, with the rest behind them, are right, and lead to a state.
pub record HasPassed (P : Network) (bytes rest : List ℕ) (front : List RecordLine) (s : State) : Type 0 where
  pub text : bytes ≡ text_of front ++ rest
  pub right : AllPass P [] AtHeading front rest s

-- A line that has a spelling may come where a state says.
abbrev pub MayCome : State → RecordLine → Type 0
MayCome s l = IsSpelledLine l × (t : State) × LineFollows s l t

-- What stands behind the lines follows no grammar: no line that may come, and more than nothing where nothing may come.
pub record NoneComes (s : State) (rest : List ℕ) : Type 0 where
  pub line : (l : RecordLine) (more : List ℕ) → MayCome s l → rest ≡ bytes_of l ++ more → ⊥
  pub over : s ≡ AtOver → rest ≡ [] → ⊥

-- The first line that fails decides: it does not follow the grammar, or says what is wrong.
pub data Fault (P : Network) (bytes : List ℕ) (l : ℕ) (kind : RecordFault) : Type 0 where
  ByGrammar : (rest : List ℕ) (front : List RecordLine) (s : State) → HasPassed P bytes rest front s → NoneComes s rest → l ≡ length front + 1 → kind ≡ kinds.Text → Fault P bytes l kind
  ByLine : (rest more : List ℕ) (front : List RecordLine) (s : State) (its : RecordLine) → HasPassed P bytes rest front s → MayCome s its → rest ≡ bytes_of its ++ more → LineFails P front more its kind → l ≡ length front + 1 → Fault P bytes l kind
