-- The command `check`: how a run of it ends, and what each status of it says.
use Rattle.std.specs.Prelude.{ℕ, List, ◌≤◌, ◌≡◌, ◌⊎◌}
use Rattle.cfn_model.specs.Network.{Network, IsNetwork, Fits, cost}
use Rattle.cfn_model.specs.Certificate.{Certificate, Good}
use Rattle.cfn_model.specs.Text.{Spells, memory_fault_text}
use Rattle.cfn_fault.specs.declared.kind.FaultKind.{FaultKind}
use Rattle.cfn_check.specs.Checking.{cost_of}
use Rattle.cfn_report.specs.Texts.{verified_text, refused_text}
use Rattle.cfn_desk.specs.Outside.{Outside, Call}
use Rattle.cfn_cli.specs.Request.Checking.{CheckRequest}
use Rattle.cfn_app.specs.declared.status.Status.{Status}
use Rattle.cfn_app.specs.declared.status.Status.TheVariants.{Done, NoMemory, Disproved, Nothing, LimitSpent, Usage, Refused, Fault}
use Rattle.cfn_app.specs.Endings.{Ends, IsHindered}
use Rattle.cfn_app.specs.Loading.{Paired, Unpaired, ReadsAs, RefusesAs, Tells}
use Rattle.cfn_wcnf.specs.declared.fault.Unread.{Unread as FirstUnread}
use Rattle.cfn_app.specs.Saying.{Says, SaysNoMemory, Refuted, PairRefused}
use Rattle.cfn_fault.specs.Fault as faults

-- A text was judged good: it spells a certificate that is good, which alone implies its bounds.
pub record Verifies (P : Network) (bytes : List ℕ) (c : Certificate) : Type 0 where
  pub spells : Spells c bytes
  pub good : Good P c
  pub network : IsNetwork P
  pub bounds : (values : List ℕ) → Fits P.sizes values → c.lower ≤ cost P values

-- What is said of a certificate's text: its bounds, or its first line that fails.
pub data Judges (P : Network) (text : List ℕ) (calls now : List Call) (status : Status) : Type 0 where
  verified : (c : Certificate) → Verifies P text c → Ends (record { calls = calls; text = verified_text c.lower (cost_of c.best); status = Done }) now status → Judges P text calls now status
  disproved : (l : ℕ) (kind : FaultKind) → faults.Fault P text l kind → Ends (record { calls = calls; text = refused_text kind l; status = Disproved }) now status → Judges P text calls now status
  no_memory : Ends (record { calls = calls; text = memory_fault_text; status = NoMemory }) now status → Judges P text calls now status

-- How a run of `check` ends: both files were not loaded and read, or the certificate is judged.
pub data Checks (ask : CheckRequest) (old : Outside) (now : List Call) (status : Status) : Type 0 where
  unpaired : Unpaired ask.format ask.file ask.certificate old now status → Checks ask old now status
  judged : (P : Network) (text : List ℕ) (middle : Outside) → Paired ask.format ask.file ask.certificate old P text middle → Judges P text middle.calls now status → Checks ask old now status

-- ---- what its statuses say

-- The certificate is good, and its bounds were said.
abbrev pub Verified : CheckRequest → Outside → Outside → Type 0
Verified ask old new =
    (P : Network) × (text : List ℕ) × (c : Certificate) × (middle : Outside) × Paired ask.format ask.file ask.certificate old P text middle × Verifies P text c
    × Says old middle.calls (verified_text c.lower (cost_of c.best)) new

abbrev pub CheckSays : CheckRequest → Outside → Outside → Status → Type 0
CheckSays ask old new Done = Verified ask old new
CheckSays ask old new Nothing = ⊥
CheckSays ask old new LimitSpent = ⊥
CheckSays ask old new Usage = ⊥
CheckSays ask old new Refused = PairRefused ask.format ask.file ask.certificate old new
CheckSays ask old new Fault = Unit {0}
CheckSays ask old new NoMemory = SaysNoMemory old new
CheckSays ask old new Disproved = Refuted ask.format ask.file ask.certificate old new

-- What a status of `check` says; a file that is refused ends with that, a good certificate is verified, and any other
-- text is refused.
pub record CheckStatus (ask : CheckRequest) (old new : Outside) (status : Status) : Type 0 where
  pub says : CheckSays ask old new status
  pub refused : (bytes : List ℕ) (refusal : FirstUnread) → Tells old ask.file bytes → RefusesAs ask.format bytes refusal → (status ≡ Refused) ⊎ IsHindered status
  pub verified : (bytes text : List ℕ) (P : Network) (c : Certificate) → Tells old ask.file bytes → Tells old ask.certificate text → ReadsAs ask.format bytes P → Spells c text → Good P c → (status ≡ Done) ⊎ IsHindered status
  pub refuted : (bytes text : List ℕ) (P : Network) (l : ℕ) (kind : FaultKind) → Tells old ask.file bytes → Tells old ask.certificate text → ReadsAs ask.format bytes P → faults.Fault P text l kind → (status ≡ Disproved) ⊎ IsHindered status
