-- The command `solve` where it is recorded: how a run of it ends, and what each status of it says.
use Rattle.std.specs.Prelude.{◌≡◌, ◌⊎◌, ℕ, ◌≤◌, true, false, List, ◌∷◌}
use Rattle.std.specs.List.{AllByRecursion}
use Rattle.cfn_model.specs.declared.report.Row.{Row}
use Rattle.cfn_model.specs.declared.report.ResultWord.{ResultWord}
use Rattle.cfn_model.specs.declared.report.ResultWord.TheVariants as words
use Rattle.cfn_model.specs.Network.{Network}
use Rattle.cfn_model.specs.Certificate.{Certificate, threshold}
use Rattle.cfn_model.specs.Text.{spelling, report, write_fault_text, memory_fault_text}
use Rattle.cfn_machine.specs.Pool.{tree_of}
use Rattle.cfn_record.specs.Entries.{Entry, Took, Gave, Freed, CalledBack, Swept}
use Rattle.cfn_record.specs.Lines.{Record, Spells}
use Rattle.cfn_record.specs.Replaying.{GoodRecord, certificate_of}
use Rattle.cfn_certwrite.specs.Records as records
use Rattle.cfn_desk.specs.Outside.{Outside, Load, Open, Close, Discard, Bytes, HasFile, Stored, after, puts, Writing, says}
use Rattle.cfn_cli.specs.Request.Recording.{RecordedRequest}
use Rattle.cfn_low.specs.Outcome.{fresh}
use Rattle.cfn_wcnf.specs.declared.fault.Unread.{Unread as FirstUnread}
use Rattle.cfn_app.specs.declared.status.Status.{Status}
use Rattle.cfn_app.specs.declared.status.Status.TheVariants.{Done, Nothing, LimitSpent, Fault, NoMemory, Usage, Refused, Disproved}
use Rattle.cfn_app.specs.Endings.{Ends, Outputs, Wrote, NotWritten, IsHindered}
use Rattle.cfn_app.specs.Headline.{Promise}
use Rattle.cfn_app.specs.Loading.{ReadsAs, Unloaded, Unread, loaded, RefusesAs, Tells}
use Rattle.cfn_app.specs.Saying.{SaysNoMemory, FileRefused}
use Rattle.cfn_app.specs.Runs.Solving.{limits_of, status_of, IsReported}

-- ---- what a record promises

-- The thresholds of an entry are at least this one: that at which a piece was made, and those that the pool had seen.
abbrev pub IsAbove : ℕ → Entry → Type 0
IsAbove k (Took worker want leaf grant) = Unit {0}
IsAbove k (Gave worker leaf grant at seen tree) = (k ≤ at) × (k ≤ seen)
IsAbove k (Freed worker leaf grant) = Unit {0}
IsAbove k CalledBack = Unit {0}
IsAbove k (Swept seen) = k ≤ seen

-- The record of a search that has this certificate: it has a spelling and the budget that was asked for; it is good; what it records
-- comes to the certificate; and each threshold in it is at least the certificate's.
pub record IsRecordOf (P : Network) (budget : ℕ) (c : Certificate) (r : Record) : Type 0 where
  pub spells : Spells r (records.spelling r)
  pub budget_is : r.budget ≡ budget
  pub good : GoodRecord P r
  pub comes : certificate_of P r.best (tree_of good.pool.tree) ≡ c
  pub above : AllByRecursion (IsAbove (threshold c)) r.entries

-- ---- a run

-- A record was to be written under a name: that can't be opened for writing; or it is written, and then the report is said.
pub data PutsRecord (name record_text report_text : List ℕ) (due : Status) (old new : Outside) (status : Status) : Type 0 where
  unopened : new.files ≡ old.files → Ends (record { calls = Open name false ∷ old.calls; text = write_fault_text; status = Fault }) new.calls status → PutsRecord name record_text report_text due old new status
  put_out : Outputs record_text report_text due (after (Open name true) old) new status → PutsRecord name record_text report_text due old new status

-- How a run ends that writes a certificate into the file that was opened, then a record under a name, and then says its report.
pub data OutputsBoth (certificate name record_text report_text : List ℕ) (due : Status) (old new : Outside) (status : Status) : Type 0 where
  unwritten : (middle : Outside) → NotWritten certificate old middle → new.files ≡ middle.files → Ends (record { calls = middle.calls; text = write_fault_text; status = Fault }) new.calls status → OutputsBoth certificate name record_text report_text due old new status
  wrote : (middle : Outside) → Wrote certificate old middle → PutsRecord name record_text report_text due middle new status → OutputsBoth certificate name record_text report_text due old new status

-- How a run ends that searches a network and records it: as one that is not recorded, but that the record is written behind the
-- certificate.
pub data SearchesRecorded (P : Network) (ask : RecordedRequest) (old new : Outside) (status : Status) : Type 0 where
  unbegun : new.files ≡ old.files → Ends (record { calls = old.calls; text = memory_fault_text; status = NoMemory }) new.calls status → SearchesRecorded P ask old new status
  unopened : new.files ≡ old.files → Ends (record { calls = Open ask.solve.certificate false ∷ old.calls; text = write_fault_text; status = Fault }) new.calls status → SearchesRecorded P ask old new status
  no_memory : new.files ≡ old.files → Ends (record { calls = Discard ∷ Open ask.solve.certificate true ∷ old.calls; text = memory_fault_text; status = NoMemory }) new.calls status → SearchesRecorded P ask old new status
  searched : (nodes : ℕ) (c : Certificate) (rows : List Row) (word : ResultWord) (r : Record) → Promise P (fresh P) (limits_of ask.solve) nodes c rows word → IsRecordOf P ask.solve.budget c r →
      OutputsBoth (spelling c) ask.recording (records.spelling r) (report ask.solve.workers c rows nodes word) (status_of word) (after (Open ask.solve.certificate true) old) new status → SearchesRecorded P ask old new status

-- How a run of `solve` with a record ends: the file is not loaded, or not read, or searched.
pub data Records (ask : RecordedRequest) (old new : Outside) (status : Status) : Type 0 where
  unloaded : new.files ≡ old.files → Unloaded ask.solve.file old.calls new.calls status → Records ask old new status
  unread : (bytes : List ℕ) → HasFile old ask.solve.file bytes → new.files ≡ old.files → Unread ask.solve.format bytes (loaded ask.solve.file bytes old.calls) new.calls status → Records ask old new status
  read : (bytes : List ℕ) (P : Network) → HasFile old ask.solve.file bytes → ReadsAs ask.solve.format bytes P → SearchesRecorded P ask (after (Load ask.solve.file (Bytes bytes)) old) new status → Records ask old new status

-- ---- what its statuses say

-- The file's network was searched with this result, and its certificate is written.
pub record Certified (ask : RecordedRequest) (old : Outside) (word : ResultWord) (middle : Outside) : Type 0 where
  pub bytes : List ℕ
  pub network : Network
  pub nodes : ℕ
  pub certificate : Certificate
  pub rows : List Row
  pub file : HasFile old ask.solve.file bytes
  pub reads : ReadsAs ask.solve.format bytes network
  pub promise : Promise network (fresh network) (limits_of ask.solve) nodes certificate rows word
  pub stored : Stored old.files (Writing ask.solve.certificate (spelling certificate)) middle.files
  pub calls : middle.calls ≡ Close true ∷ puts (spelling certificate) (Open ask.solve.certificate true ∷ loaded ask.solve.file bytes old.calls)

-- So it was, and behind it the record of the search is written, and then its report was said.
pub record Recorded (ask : RecordedRequest) (old new : Outside) (word : ResultWord) : Type 0 where
  pub middle : Outside
  pub certified : Certified ask old word middle
  pub recording : Record
  pub is : IsRecordOf certified.network ask.solve.budget certified.certificate recording
  pub stored : Stored middle.files (Writing ask.recording (records.spelling recording)) new.files
  pub calls : new.calls ≡ says (report ask.solve.workers certified.certificate certified.rows certified.nodes word) (Close true ∷ puts (records.spelling recording) (Open ask.recording true ∷ middle.calls))

abbrev pub RecordedSays : RecordedRequest → Outside → Outside → Status → Type 0
RecordedSays ask old new Done = Recorded ask old new words.Optimum
RecordedSays ask old new Nothing = Recorded ask old new words.Nothing
RecordedSays ask old new LimitSpent = Recorded ask old new words.Budget ⊎ Recorded ask old new words.Time
RecordedSays ask old new Usage = ⊥
RecordedSays ask old new Refused = FileRefused ask.solve.format (λ bytes. loaded ask.solve.file bytes old.calls) ask.solve.file old new
RecordedSays ask old new Fault = Unit {0}
RecordedSays ask old new NoMemory = SaysNoMemory old new ⊎ Recorded ask old new words.Memory
RecordedSays ask old new Disproved = ⊥

-- What a status of `solve` with a record says; a file that is refused ends with that, and one that reads as a network with a report.
pub record RecordedStatus (ask : RecordedRequest) (old new : Outside) (status : Status) : Type 0 where
  pub says : RecordedSays ask old new status
  pub refused : (bytes : List ℕ) (refusal : FirstUnread) → Tells old ask.solve.file bytes → RefusesAs ask.solve.format bytes refusal → (status ≡ Refused) ⊎ IsHindered status
  pub solved : (bytes : List ℕ) (P : Network) → Tells old ask.solve.file bytes → ReadsAs ask.solve.format bytes P → IsReported status ⊎ IsHindered status
