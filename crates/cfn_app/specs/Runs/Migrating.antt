-- The command `migrate`: how a run of it ends, and what each status of it says.
use Rattle.std.specs.Prelude.{◌≡◌, ℕ, true, false, List, ◌∷◌, ◌⊎◌}
use Rattle.cfn_model.specs.Network.{Network}
use Rattle.cfn_model.specs.Certificate.{Certificate, in_second, Good}
use Rattle.cfn_model.specs.Text.{spelling, write_fault_text, memory_fault_text, Spells}
use Rattle.cfn_fault.specs.declared.kind.FaultKind.{FaultKind}
use Rattle.cfn_report.specs.Texts.{refused_text, migrated_text}
use Rattle.cfn_desk.specs.Outside.{Outside, Open, after, Close, Writing, Stored, puts, says}
use Rattle.cfn_cli.specs.Request.Migrating.{MigrateRequest}
use Rattle.cfn_app.specs.declared.status.Status.{Status}
use Rattle.cfn_app.specs.declared.status.Status.TheVariants.{Done, Fault, NoMemory, Disproved, Nothing, LimitSpent, Usage, Refused}
use Rattle.cfn_cli.specs.declared.format.Format.TheVariants.{Wcsp}
use Rattle.cfn_app.specs.Endings.{Ends, IsHindered, Outputs}
use Rattle.cfn_app.specs.Loading.{Paired, Unpaired, ReadsAs, RefusesAs, Tells}
use Rattle.cfn_app.specs.Runs.Checking.{Verifies}
use Rattle.cfn_wcnf.specs.declared.fault.Unread.{Unread as FirstUnread}
use Rattle.cfn_app.specs.Saying.{SaysNoMemory, Refuted, PairRefused}
use Rattle.cfn_fault.specs.Fault as faults

-- A certificate's text was to be written under a name: that can't be opened for writing; or it is written, and that is said.
pub data Rewrites (second out : List ℕ) (old new : Outside) (status : Status) : Type 0 where
  unopened : new.files ≡ old.files → Ends (record { calls = Open out false ∷ old.calls; text = write_fault_text; status = Fault }) new.calls status → Rewrites second out old new status
  put_out : Outputs second migrated_text Done (after (Open out true) old) new status → Rewrites second out old new status

-- What becomes of a certificate's text: its first line that fails is said, and nothing is written; or it is good, and is
-- written in the second version.
pub data Upgrades (P : Network) (text out : List ℕ) (old new : Outside) (status : Status) : Type 0 where
  disproved : (l : ℕ) (kind : FaultKind) → faults.Fault P text l kind → new.files ≡ old.files → Ends (record { calls = old.calls; text = refused_text kind l; status = Disproved }) new.calls status → Upgrades P text out old new status
  no_memory : new.files ≡ old.files → Ends (record { calls = old.calls; text = memory_fault_text; status = NoMemory }) new.calls status → Upgrades P text out old new status
  upgraded : (c : Certificate) → Verifies P text c → Rewrites (spelling (in_second c)) out old new status → Upgrades P text out old new status

-- How a run of `migrate` ends: both files were not loaded and read, or the certificate is judged and written.
pub data Migrates (ask : MigrateRequest) (old new : Outside) (status : Status) : Type 0 where
  unpaired : new.files ≡ old.files → Unpaired Wcsp ask.file ask.certificate old new.calls status → Migrates ask old new status
  judged : (P : Network) (text : List ℕ) (middle : Outside) → Paired Wcsp ask.file ask.certificate old P text middle → Upgrades P text ask.out middle new status → Migrates ask old new status

-- ---- what its statuses say

-- The certificate is good, and it was written in the second version, which is as good: under the name that was asked for
-- stands its text, and that was said.
pub record Migrated (ask : MigrateRequest) (old new : Outside) : Type 0 where
  pub network : Network
  pub text : List ℕ
  pub certificate : Certificate
  pub middle : Outside
  pub paired : Paired Wcsp ask.file ask.certificate old network text middle
  pub verifies : Verifies network text certificate
  pub spells : Spells (in_second certificate) (spelling (in_second certificate))
  pub good : Good network (in_second certificate)
  pub stored : Stored old.files (Writing ask.out (spelling (in_second certificate))) new.files
  pub calls : new.calls ≡ says migrated_text (Close true ∷ puts (spelling (in_second certificate)) (Open ask.out true ∷ middle.calls))

abbrev pub MigrateSays : MigrateRequest → Outside → Outside → Status → Type 0
MigrateSays ask old new Done = Migrated ask old new
MigrateSays ask old new Nothing = ⊥
MigrateSays ask old new LimitSpent = ⊥
MigrateSays ask old new Usage = ⊥
MigrateSays ask old new Refused = PairRefused Wcsp ask.file ask.certificate old new
MigrateSays ask old new Fault = Unit {0}
MigrateSays ask old new NoMemory = SaysNoMemory old new
MigrateSays ask old new Disproved = Refuted Wcsp ask.file ask.certificate old new

-- What a status of `migrate` says; a file that is refused ends with that, a good certificate is written, and any other
-- text is refused.
pub record MigrateStatus (ask : MigrateRequest) (old new : Outside) (status : Status) : Type 0 where
  pub says : MigrateSays ask old new status
  pub refused : (bytes : List ℕ) (refusal : FirstUnread) → Tells old ask.file bytes → RefusesAs Wcsp bytes refusal → (status ≡ Refused) ⊎ IsHindered status
  pub migrated : (bytes text : List ℕ) (P : Network) (c : Certificate) → Tells old ask.file bytes → Tells old ask.certificate text → ReadsAs Wcsp bytes P → Spells c text → Good P c → (status ≡ Done) ⊎ IsHindered status
  pub refuted : (bytes text : List ℕ) (P : Network) (l : ℕ) (kind : FaultKind) → Tells old ask.file bytes → Tells old ask.certificate text → ReadsAs Wcsp bytes P → faults.Fault P text l kind → (status ≡ Disproved) ⊎ IsHindered status
