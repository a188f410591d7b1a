-- What the definitions of a fault come to.
use Rattle.std.specs.Prelude.{◌≡◌, ℕ, ◌+◌, ◌<◌, ◌≤◌, ◌⊎◌, List, [], ◌∷◌, ◌++◌, length}
use Rattle.std.specs.List.{AllByRecursion}
use Rattle.cfn_model.specs.Network.{Network}
use Rattle.cfn_model.specs.Certificate.{Certificate, Good}
use Rattle.cfn_model.specs.Text.{IsSpelled, Spells}
use Rattle.cfn_fault.specs.declared.kind.FaultKind.{FaultKind}
use Rattle.cfn_fault.specs.declared.kind.FaultKind.TheVariants as kinds
use Rattle.cfn_fault.specs.Fault.{Begins, NoneBeginsWith, TextFault, Fault}
use Rattle.cfn_fault.specs.Lines.{Line, text_of, IsSpelledLine, lines_of, State, AtVersion, AtOver, Runs}
use Rattle.cfn_fault.specs.Judging.{LineFails, LinePasses, AllPass, lower_in, bound_in}

-- Bytes spell one certificate at most.
abbrev pub OneCertificate : Type 0
OneCertificate = (bytes : List ℕ) (c d : Certificate) → Spells c bytes → Spells d bytes → c ≡ d

-- Every text spells a certificate, or the text alone fails at some line.
abbrev pub SpellsOrTextFault : Type 0
SpellsOrTextFault = (bytes : List ℕ) → ((c : Certificate) × Spells c bytes) ⊎ ((l : ℕ) × TextFault bytes l)

-- Where the bytes spell a certificate, the text alone does not fail.
abbrev pub NoTextFaultWhereSpelled : Type 0
NoTextFaultWhereSpelled = (bytes : List ℕ) (c : Certificate) (l : ℕ) → Spells c bytes → TextFault bytes l → ⊥

-- The text alone fails at one line at most.
abbrev pub OneTextFault : Type 0
OneTextFault = (bytes : List ℕ) (l m : ℕ) → TextFault bytes l → TextFault bytes m → l ≡ m

-- A fault of the kind of texts is the text's alone: no other line is said to fail so.
abbrev pub FaultOfText : Type 0
FaultOfText = (P : Network) (bytes : List ℕ) (l : ℕ) → Fault P bytes l kinds.Text → TextFault bytes l

-- A text has one fault at most: one line, and one kind.
abbrev pub OneFault : Type 0
OneFault = (P : Network) (bytes : List ℕ) (l m : ℕ) (kind other : FaultKind) → Fault P bytes l kind → Fault P bytes m other → (l ≡ m) × (kind ≡ other)

-- Where the bytes spell a good certificate, there is no fault.
abbrev pub NoFaultWhereGood : Type 0
NoFaultWhereGood = (P : Network) (bytes : List ℕ) (c : Certificate) (l : ℕ) (kind : FaultKind) → Spells c bytes → Good P c → Fault P bytes l kind → ⊥

-- Every text spells a good certificate, or has a fault.
abbrev pub GoodOrFault : Type 0
GoodOrFault = (P : Network) (bytes : List ℕ) → ((c : Certificate) × Spells c bytes × Good P c) ⊎ ((l : ℕ) × (kind : FaultKind) × Fault P bytes l kind)

-- These lines stand in front of the bytes, may come one behind the other, and lead to that state.
pub record Fronts (bytes rest : List ℕ) (ls : List Line) (s : State) : Type 0 where
  pub text : bytes ≡ text_of ls ++ rest
  pub run : Runs AtVersion ls s
  pub spelled : AllByRecursion IsSpelledLine ls

-- Lines in front that may come one behind the other are those of some certificate, as far as they go.
abbrev pub SomeBegins : Type 0
SomeBegins = (bytes rest : List ℕ) (ls : List Line) (s : State) → Fronts bytes rest ls s → (c : Certificate) × IsSpelled c × Begins c bytes (length ls)

-- Every certificate that begins with the lines of the text has them as its own.
abbrev pub AllBegin : Type 0
AllBegin = (bytes rest : List ℕ) (ls : List Line) (s : State) (c : Certificate) → Fronts bytes rest ls s → IsSpelled c → Begins c bytes (length ls) → (more : List Line) × (lines_of c ≡ ls ++ more)

-- Lines that are a whole text, up to the end, are those of a certificate that it spells.
abbrev pub WholeSpells : Type 0
WholeSpells = (bytes : List ℕ) (ls : List Line) → Fronts bytes [] ls AtOver → (c : Certificate) × Spells c bytes × (lines_of c ≡ ls)

-- Where the lines in front are right, and no certificate begins with the next one too, that one does not follow the grammar.
abbrev pub TextFaults : Type 0
TextFaults = (P : Network) (bytes rest : List ℕ) (ls : List Line) (s : State) → Fronts bytes rest ls s → AllPass P ls
    → NoneBeginsWith bytes (length ls + 1) → Fault P bytes (length ls + 1) kinds.Text

-- Where the lines in front are right, and the next one fails behind them, it is the fault.
abbrev pub LineFaults : Type 0
LineFaults = (P : Network) (bytes rest : List ℕ) (ls : List Line) (s t : State) (l : Line) (kind : FaultKind) → Runs AtVersion ls s → Fronts bytes rest (ls ++ l ∷ []) t → AllPass P ls
    → LineFails P ls s l kind → Fault P bytes (length ls + 1) kind

-- Where all lines of a whole text are right, it is the text of a certificate, which is good where its lower bound is at most
-- the bound that its lines show; and else the lower bound is the fault.
pub record IsWhole (P : Network) (bytes : List ℕ) (ls : List Line) (c : Certificate) : Type 0 where
  pub spells : Spells c bytes
  pub lines : lines_of c ≡ ls
  pub good : lower_in ls ≤ bound_in P ls → Good P c
  pub fault : bound_in P ls < lower_in ls → Fault P bytes 3 kinds.Lower

abbrev pub WholeTexts : Type 0
WholeTexts = (P : Network) (bytes : List ℕ) (ls : List Line) → Fronts bytes [] ls AtOver → AllPass P ls → (c : Certificate) × IsWhole P bytes ls c

-- A line that is right does not fail, and one more right line leaves all right.
abbrev pub OneMorePasses : Type 0
OneMorePasses = (P : Network) (ls : List Line) (s : State) (l : Line) → Runs AtVersion ls s → AllPass P ls → LinePasses P ls s l → AllPass P (ls ++ l ∷ [])
