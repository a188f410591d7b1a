-- The command `solve`: how a run of it ends, and what each status of it says.
use Rattle.std.specs.Prelude.{◌≡◌, ℕ, true, false, List, ◌∷◌, Option, Some, None, is_some, ◌⊎◌}
use Rattle.cfn_model.specs.declared.report.Row.{Row}
use Rattle.cfn_model.specs.declared.report.ResultWord.{ResultWord}
use Rattle.cfn_model.specs.Network.{Network}
use Rattle.cfn_model.specs.Certificate.{Solution, Certificate}
use Rattle.cfn_model.specs.Text.{spelling, report, write_fault_text, memory_fault_text}
use Rattle.cfn_desk.specs.Outside.{Outside, Load, Open, Close, Discard, Bytes, HasFile, Stored, after, puts, Writing, says}
use Rattle.cfn_low.specs.declared.outcome.Stop.{Stop}
use Rattle.cfn_cli.specs.Request.Solving.{SolveRequest}
use Rattle.cfn_app.specs.declared.status.Status.{Status}
use Rattle.cfn_app.specs.declared.status.Status.TheVariants.{Done, Nothing, LimitSpent, Fault, NoMemory, Usage, Refused, Disproved}
use Rattle.cfn_app.specs.Endings.{Ends, Outputs, IsHindered}
use Rattle.cfn_low.specs.Outcome.{Limits, Start, fresh, timed_nodes}
use Rattle.cfn_app.specs.Headline.{Promise}
use Rattle.cfn_app.specs.Loading.{ReadsAs, Unloaded, Unread, loaded, RefusesAs, Tells}
use Rattle.cfn_wcnf.specs.declared.fault.Unread.{Unread as FirstUnread}
use Rattle.cfn_app.specs.Saying.{SaysNoMemory, FileRefused}
use Rattle.cfn_model.specs.declared.report.ResultWord.TheVariants as words
use Rattle.cfn_low.specs.declared.outcome.Stop.TheVariants as stops

-- The status by the result of a search.
abbrev pub status_of : ResultWord → Status
status_of words.Optimum = Done
status_of words.Nothing = Nothing
status_of words.Budget = LimitSpent
status_of words.Time = LimitSpent
status_of words.Part = LimitSpent
status_of words.Memory = NoMemory

-- The result of a search, by why it stopped and whether it has a best assignment.
abbrev pub word_when_done : Option Solution → ResultWord
word_when_done None = words.Nothing
word_when_done (Some best) = words.Optimum

abbrev pub word_of : Stop → Option Solution → ResultWord
word_of stops.Done best = word_when_done best
word_of stops.Budget best = words.Budget
word_of stops.Time best = words.Time
word_of stops.Part best = words.Part
word_of stops.Memory best = words.Memory

-- The limits that are asked for.
abbrev pub limits_of : SolveRequest → Limits
limits_of ask = timed_nodes ask.budget (is_some ask.seconds)

-- How a run ends that searches a network, from what the search begins with: memory is refused before it begins; or its
-- certificate can't be opened for writing; or memory is refused before there is anything to report, and the file is dropped; or
-- what the search promises is written and said.
pub data Searches (P : Network) (start : Start) (ask : SolveRequest) (old new : Outside) (status : Status) : Type 0 where
  unbegun : new.files ≡ old.files → Ends (record { calls = old.calls; text = memory_fault_text; status = NoMemory }) new.calls status → Searches P start ask old new status
  unopened : new.files ≡ old.files → Ends (record { calls = Open ask.certificate false ∷ old.calls; text = write_fault_text; status = Fault }) new.calls status → Searches P start ask old new status
  no_memory : new.files ≡ old.files → Ends (record { calls = Discard ∷ Open ask.certificate true ∷ old.calls; text = memory_fault_text; status = NoMemory }) new.calls status → Searches P start ask old new status
  searched : (nodes : ℕ) (c : Certificate) (rows : List Row) (word : ResultWord) → Promise P start (limits_of ask) nodes c rows word →
      Outputs (spelling c) (report ask.workers c rows nodes word) (status_of word) (after (Open ask.certificate true) old) new status → Searches P start ask old new status

-- How a run of `solve` ends: the file is not loaded, or not read, or searched.
pub data Solves (ask : SolveRequest) (old new : Outside) (status : Status) : Type 0 where
  unloaded : new.files ≡ old.files → Unloaded ask.file old.calls new.calls status → Solves ask old new status
  unread : (bytes : List ℕ) → HasFile old ask.file bytes → new.files ≡ old.files → Unread ask.format bytes (loaded ask.file bytes old.calls) new.calls status → Solves ask old new status
  read : (bytes : List ℕ) (P : Network) → HasFile old ask.file bytes → ReadsAs ask.format bytes P → Searches P (fresh P) ask (after (Load ask.file (Bytes bytes)) old) new status → Solves ask old new status

-- ---- what its statuses say

-- The file's network was searched with this result: its certificate is written, and then its report was said.
pub record Solved (ask : SolveRequest) (old new : Outside) (word : ResultWord) : Type 0 where
  pub bytes : List ℕ
  pub network : Network
  pub nodes : ℕ
  pub certificate : Certificate
  pub rows : List Row
  pub file : HasFile old ask.file bytes
  pub reads : ReadsAs ask.format bytes network
  pub promise : Promise network (fresh network) (limits_of ask) nodes certificate rows word
  pub stored : Stored old.files (Writing ask.certificate (spelling certificate)) new.files
  pub calls : new.calls ≡ says (report ask.workers certificate rows nodes word) (Close true ∷ puts (spelling certificate) (Open ask.certificate true ∷ loaded ask.file bytes old.calls))

abbrev pub SolveSays : SolveRequest → Outside → Outside → Status → Type 0
SolveSays ask old new Done = Solved ask old new words.Optimum
SolveSays ask old new Nothing = Solved ask old new words.Nothing
SolveSays ask old new LimitSpent = Solved ask old new words.Budget ⊎ Solved ask old new words.Time
SolveSays ask old new Usage = ⊥
SolveSays ask old new Refused = FileRefused ask.format (λ bytes. loaded ask.file bytes old.calls) ask.file old new
SolveSays ask old new Fault = Unit {0}
SolveSays ask old new NoMemory = SaysNoMemory old new ⊎ Solved ask old new words.Memory
SolveSays ask old new Disproved = ⊥

-- A result was reported.
abbrev pub IsReported : Status → Type 0
IsReported status = (status ≡ Done) ⊎ ((status ≡ Nothing) ⊎ (status ≡ LimitSpent))

-- What a status of `solve` says; a file that is refused ends with that, and one that reads as a network with a report.
pub record SolveStatus (ask : SolveRequest) (old new : Outside) (status : Status) : Type 0 where
  pub says : SolveSays ask old new status
  pub refused : (bytes : List ℕ) (refusal : FirstUnread) → Tells old ask.file bytes → RefusesAs ask.format bytes refusal → (status ≡ Refused) ⊎ IsHindered status
  pub solved : (bytes : List ℕ) (P : Network) → Tells old ask.file bytes → ReadsAs ask.format bytes P → IsReported status ⊎ IsHindered status
