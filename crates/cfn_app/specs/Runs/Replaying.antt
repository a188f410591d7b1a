-- The command `replay`: how a run of it ends, what each status of it says, and that it writes a recorded run's certificate again.
use Rattle.std.specs.Prelude.{◌≡◌, ◌⊎◌, ℕ, true, false, List, ◌∷◌}
use Rattle.cfn_model.specs.declared.report.ResultWord.{ResultWord}
use Rattle.cfn_model.specs.Network.{Network}
use Rattle.cfn_model.specs.Certificate.{Certificate}
use Rattle.cfn_model.specs.Text.{spelling, write_fault_text, memory_fault_text}
use Rattle.cfn_machine.specs.Pool.{tree_of}
use Rattle.cfn_record.specs.declared.kind.RecordFault.{RecordFault}
use Rattle.cfn_record.specs.Fault as faults
use Rattle.cfn_record.specs.Lines.{Record, Spells}
use Rattle.cfn_record.specs.Replaying.{GoodRecord, certificate_of}
use Rattle.cfn_certwrite.specs.Records as records
use Rattle.cfn_certwrite.specs.RecordTexts.{replayed_text, record_refused_text}
use Rattle.cfn_desk.specs.Outside.{Outside, Open, Close, Stored, Writing, after, puts, says}
use Rattle.cfn_cli.specs.Request.Recording.{RecordedRequest}
use Rattle.cfn_cli.specs.Request.Replaying.{ReplayRequest}
use Rattle.cfn_wcnf.specs.declared.fault.Unread.{Unread as FirstUnread}
use Rattle.cfn_app.specs.declared.status.Status.{Status}
use Rattle.cfn_app.specs.declared.status.Status.TheVariants.{Done, Nothing, LimitSpent, Usage, Refused, Fault, NoMemory, Disproved}
use Rattle.cfn_app.specs.Endings.{Ends, Outputs, IsHindered}
use Rattle.cfn_app.specs.Loading.{Paired, Unpaired, ReadsAs, RefusesAs, Tells}
use Rattle.cfn_app.specs.Saying.{Says, SaysNoMemory, PairRefused}
use Rattle.cfn_app.specs.Runs.Checking.{Verifies}
use Rattle.cfn_app.specs.Runs.Recording.{Recorded}

-- A text spells a good record of the network, which comes to a certificate; and that is good by its own text.
pub record ComesTo (P : Network) (text : List ℕ) (c : Certificate) : Type 0 where
  pub its : Record
  pub spells : Spells its text
  pub good : GoodRecord P its
  pub comes : certificate_of P its.best (tree_of good.pool.tree) ≡ c
  pub verifies : Verifies P (spelling c) c

-- The text of a certificate was to be written under a name: that can't be opened for writing; or it is written, and that is said.
pub data WritesAgain (text out : List ℕ) (old new : Outside) (status : Status) : Type 0 where
  unopened : new.files ≡ old.files → Ends (record { calls = Open out false ∷ old.calls; text = write_fault_text; status = Fault }) new.calls status → WritesAgain text out old new status
  put_out : Outputs text replayed_text Done (after (Open out true) old) new status → WritesAgain text out old new status

-- What becomes of a record's text: its first line that fails is said; or memory is refused; or the certificate that it comes to is
-- written.
pub data RunsAgain (P : Network) (text out : List ℕ) (old new : Outside) (status : Status) : Type 0 where
  disproved : (l : ℕ) (kind : RecordFault) → faults.Fault P text l kind → new.files ≡ old.files → Ends (record { calls = old.calls; text = record_refused_text kind l; status = Disproved }) new.calls status → RunsAgain P text out old new status
  no_memory : new.files ≡ old.files → Ends (record { calls = old.calls; text = memory_fault_text; status = NoMemory }) new.calls status → RunsAgain P text out old new status
  replayed : (c : Certificate) → ComesTo P text c → WritesAgain (spelling c) out old new status → RunsAgain P text out old new status

-- How a run of `replay` ends: both files were not loaded and read, or the record is run again.
pub data Replays (ask : ReplayRequest) (old new : Outside) (status : Status) : Type 0 where
  unpaired : new.files ≡ old.files → Unpaired ask.format ask.file ask.recording old new.calls status → Replays ask old new status
  runs : (P : Network) (text : List ℕ) (middle : Outside) → Paired ask.format ask.file ask.recording old P text middle → RunsAgain P text ask.certificate middle new status → Replays ask old new status

-- ---- what its statuses say

-- The record is good, the certificate that it comes to is written, and that was said.
pub record Replayed (ask : ReplayRequest) (old new : Outside) : Type 0 where
  pub network : Network
  pub text : List ℕ
  pub middle : Outside
  pub paired : Paired ask.format ask.file ask.recording old network text middle
  pub certificate : Certificate
  pub comes : ComesTo network text certificate
  pub stored : Stored old.files (Writing ask.certificate (spelling certificate)) new.files
  pub calls : new.calls ≡ says replayed_text (Close true ∷ puts (spelling certificate) (Open ask.certificate true ∷ middle.calls))

-- A line of the record fails, no earlier one does, and how it fails was said.
abbrev pub RefutedRecord : ReplayRequest → Outside → Outside → Type 0
RefutedRecord ask old new =
    (P : Network) × (text : List ℕ) × (l : ℕ) × (kind : RecordFault) × (middle : Outside) × Paired ask.format ask.file ask.recording old P text middle × faults.Fault P text l kind
    × Says old middle.calls (record_refused_text kind l) new

abbrev pub ReplaySays : ReplayRequest → Outside → Outside → Status → Type 0
ReplaySays ask old new Done = Replayed ask old new
ReplaySays ask old new Nothing = ⊥
ReplaySays ask old new LimitSpent = ⊥
ReplaySays ask old new Usage = ⊥
ReplaySays ask old new Refused = PairRefused ask.format ask.file ask.recording old new
ReplaySays ask old new Fault = Unit {0}
ReplaySays ask old new NoMemory = SaysNoMemory old new
ReplaySays ask old new Disproved = RefutedRecord ask old new

-- What a status of `replay` says; a file that is refused ends with that, a good record is replayed, and any other text is refused.
pub record ReplayStatus (ask : ReplayRequest) (old new : Outside) (status : Status) : Type 0 where
  pub says : ReplaySays ask old new status
  pub refused : (bytes : List ℕ) (refusal : FirstUnread) → Tells old ask.file bytes → RefusesAs ask.format bytes refusal → (status ≡ Refused) ⊎ IsHindered status
  pub replayed : (bytes text : List ℕ) (P : Network) (r : Record) → Tells old ask.file bytes → Tells old ask.recording text → ReadsAs ask.format bytes P → Spells r text → GoodRecord P r → (status ≡ Done) ⊎ IsHindered status
  pub refuted : (bytes text : List ℕ) (P : Network) (l : ℕ) (kind : RecordFault) → Tells old ask.file bytes → Tells old ask.recording text → ReadsAs ask.format bytes P → faults.Fault P text l kind → (status ≡ Disproved) ⊎ IsHindered status

-- ---- a recorded run comes back

-- Where a run was recorded, and its record is replayed on a file with the same bytes, what is written is that run's certificate, byte
-- for byte; or a call of the desk failed, or memory was refused.
abbrev pub ComesBack : ReplayRequest → Outside → Outside → Status → Type 0
ComesBack ask old new status =
    (earlier : RecordedRequest) (before behind : Outside) (word : ResultWord) (run : Recorded earlier before behind word) → ask.format ≡ earlier.solve.format
    → Tells old ask.file run.certified.bytes → Tells old ask.recording (records.spelling run.recording)
    → ((status ≡ Done) × Stored old.files (Writing ask.certificate (spelling run.certified.certificate)) new.files) ⊎ IsHindered status
