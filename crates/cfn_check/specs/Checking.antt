-- What the judge of a certificate finds.
use Rattle.std.specs.Prelude.{◌≡◌, ℕ, ◌≤◌, List, [], ◌∷◌, ◌++◌, length, Option, Some, None, unwrap_or}
use Rattle.cfn_model.specs.declared.version.Version.{Version}
use Rattle.cfn_model.specs.Network.{Network, Fits, cost}
use Rattle.cfn_model.specs.Certificate.{Solution, Certificate, Good}
use Rattle.cfn_model.specs.Text.{Spells}
use Rattle.cfn_fault.specs.declared.kind.FaultKind.{FaultKind}
use Rattle.cfn_fault.specs.Fault.{Fault}
use Rattle.cfn_fault.specs.Lines as lines
use Rattle.cfn_fault.specs.Lines.{Line, State}
use Rattle.cfn_fault.specs.Laws.{Fronts}
use Rattle.cfn_fault.specs.Judging.{AllPass, open_floors, lowest}
use Rattle.cfn_certtext.specs.Reading.{Reading, HasRead}
use Rattle.cfn_check.specs.declared.answer.Check.{Check}
use Rattle.cfn_check.specs.declared.answer.Check.TheVariants.{Verified, Refused}
use Rattle.cfn_check.specs.declared.answer.Stop.{Stop}
use Rattle.cfn_check.specs.declared.answer.Stop.TheVariants as stops
use Rattle.cfn_check.specs.Walking.{Walking}

-- The cost of the best assignment, if there is one.
abbrev pub cost_of : Option Solution → Option ℕ
cost_of None = None
cost_of (Some best) = Some best.cost

-- An assignment has the cost, if there is one.
abbrev pub IsReached : Network → Option ℕ → Type 0
IsReached P None = Unit {0}
IsReached P (Some best) = (values : List ℕ) × Fits P.sizes values × (cost P values ≡ best)

-- The bytes spell a good certificate with this lower bound and best cost; so no assignment costs less, and one costs that.
pub record IsVerified (P : Network) (bytes : List ℕ) (lower : ℕ) (best : Option ℕ) : Type 0 where
  pub certificate : Certificate
  pub spells : Spells certificate bytes
  pub good : Good P certificate
  pub lower_is : certificate.lower ≡ lower
  pub best_is : cost_of certificate.best ≡ best
  pub bound : (values : List ℕ) → Fits P.sizes values → lower ≤ cost P values
  pub reached : IsReached P best

-- What a certificate comes to: it is good, or a line is the first that fails.
abbrev pub IsChecked : Network → List ℕ → Check → Type 0
IsChecked P bytes (Verified lower best) = IsVerified P bytes lower best
IsChecked P bytes (Refused kind line) = Fault P bytes line kind

abbrev pub IsStop : Network → List ℕ → Stop → Type 0
IsStop P bytes (stops.Refused kind line) = Fault P bytes line kind
IsStop P bytes stops.Memory = Unit {0}

-- These lines were read, and all of them are right.
pub record Right (P : Network) (r : Reading) (ls : List Line) (s : State) : Type 0 where
  pub read : HasRead r ls s
  pub left : r.left ≡ []
  pub pass : AllPass P ls

-- The lines of the version and the numbers of the network.
abbrev pub front_lines : Version → Network → List Line
front_lines version P = lines.Version version ∷ lines.Numbers (length P.sizes) (length P.functions) P.upper ∷ []

-- All lines before those of nodes.
abbrev pub opening_lines : Version → Network → ℕ → Option ℕ → List ℕ → List Line
opening_lines version P lower None values =
    lines.Version version ∷ lines.Numbers (length P.sizes) (length P.functions) P.upper ∷ lines.Lower lower ∷ lines.NoBest ∷ lines.Root ∷ []
opening_lines version P lower (Some cost) values =
    lines.Version version ∷ lines.Numbers (length P.sizes) (length P.functions) P.upper ∷ lines.Lower lower ∷ lines.Best cost ∷ lines.Values values ∷ lines.Root ∷ []

-- The tree's lines so far are right, and the walk has come where they lead.
pub record InTree (P : Network) (r : Reading) (w : Walking) (lower : ℕ) (best : Option ℕ) : Type 0 where
  pub version : Version
  pub values : List ℕ
  pub nodes : List Line
  pub right : Right P r (opening_lines version P lower best values ++ nodes) (lines.AtNodes version w.paths)
  pub network : w.network ≡ P
  pub threshold : w.threshold ≡ unwrap_or best P.upper
  pub least : w.least ≡ lowest w.threshold (open_floors P ([] ∷ []) (opening_lines version P lower best values ++ nodes))

-- A line is due where a state says.
abbrev pub IsDue : Reading → State → Type 0
IsDue r s = (ls : List Line) × HasRead r ls s × (r.left ≡ [])

-- A line is due where a state says, in some version.
abbrev pub IsDueIn : Reading → (Version → State) → Type 0
IsDueIn r s = (version : Version) × IsDue r (s version)

-- Where all lines so far are right, the text is refused as the answer says.
abbrev pub Stops : Reading → Stop → Type 0
Stops r stop = (P : Network) (ls : List Line) (s : State) → Right P r ls s → IsStop P r.text stop

-- These are all lines of the text, and they are right.
pub record IsAll (P : Network) (bytes : List ℕ) (ls : List Line) : Type 0 where
  pub fronts : Fronts bytes [] ls lines.AtOver
  pub pass : AllPass P ls

-- The lines before the best assignment.
abbrev pub best_front : Version → Network → ℕ → List Line
best_front version P lower = lines.Version version ∷ lines.Numbers (length P.sizes) (length P.functions) P.upper ∷ lines.Lower lower ∷ []

-- The lines up to the version, the numbers and the lower bound were read, and are right.
abbrev pub IsBegun : Network → Reading → Type 0
IsBegun P r = (version : Version) × Right P r (lines.Version version ∷ []) (lines.AtNumbers version)

abbrev pub IsNumbered : Network → Reading → Type 0
IsNumbered P r = (version : Version) × Right P r (front_lines version P) (lines.AtLower version)

abbrev pub IsBounded : Network → Reading → ℕ → Type 0
IsBounded P r lower = (version : Version) × Right P r (best_front version P lower) (lines.AtBest version)

-- All lines before those of nodes were read, and are right.
abbrev pub IsOpened : Network → Reading → ℕ → Option ℕ → Type 0
IsOpened P r lower best =
    (version : Version) × (values : List ℕ) × Right P r (opening_lines version P lower best values) (lines.AtNodes version ([] ∷ []))

-- Where the bytes spell a good certificate, it is verified; and where a line is the first that fails, it is refused there.
pub record IsExact (P : Network) (bytes : List ℕ) (answer : Check) : Type 0 where
  pub good : (c : Certificate) → Spells c bytes → Good P c → answer ≡ Verified c.lower (cost_of c.best)
  pub fault : (kind : FaultKind) (line : ℕ) → Fault P bytes line kind → answer ≡ Refused kind line
