-- The command `kbest`: how a run of it ends, and what each status of it says.
use Rattle.std.specs.Prelude.{◌≡◌, ◌⊎◌, ℕ, ◌+◌, ◌<◌, ◌≤◌, true, false, List, [], ◌∷◌, length, is_some}
use Rattle.cfn_model.specs.Network.{Network, IsNetwork, Fits, cost}
use Rattle.cfn_model.specs.Tree.{count, splits, Strict}
use Rattle.cfn_model.specs.Certificate.{Solution}
use Rattle.cfn_model.specs.Text.{write_fault_text, memory_fault_text}
use Rattle.cfn_best.specs.Tree.{bound, solution_at}
use Rattle.cfn_best.specs.List.{ListCertificate, GoodList, threshold_of}
use Rattle.cfn_best.specs.Lines.{Spells}
use Rattle.cfn_best.specs.Laws.{IsNotIn}
use Rattle.cfn_ranking.specs.declared.word.ListWord.{ListWord}
use Rattle.cfn_ranking.specs.declared.word.ListWord.TheVariants as words
use Rattle.cfn_ranking.specs.Certificates.{spelling}
use Rattle.cfn_ranking.specs.Trees.{plain, open_leaves, OpenBelow}
use Rattle.cfn_ranking.specs.Finished.{threshold}
use Rattle.cfn_kbest.specs.Searching.{HasListCause}
use Rattle.cfn_certwrite.specs.ListTexts.{list_report}
use Rattle.cfn_desk.specs.Outside.{Outside, Load, Open, Close, Discard, Bytes, HasFile, Stored, after, puts, Writing, says}
use Rattle.cfn_cli.specs.Request.Listing.{KBestRequest}
use Rattle.cfn_wcnf.specs.declared.fault.Unread.{Unread as FirstUnread}
use Rattle.cfn_app.specs.declared.status.Status.{Status}
use Rattle.cfn_app.specs.declared.status.Status.TheVariants.{Done, Nothing, LimitSpent, Fault, NoMemory, Usage, Refused, Disproved}
use Rattle.cfn_app.specs.Endings.{Ends, Outputs, IsHindered}
use Rattle.cfn_app.specs.Loading.{ReadsAs, Unloaded, Unread, loaded, RefusesAs, Tells}
use Rattle.cfn_app.specs.Saying.{SaysNoMemory, FileRefused}
use Rattle.cfn_app.specs.Runs.Solving.{IsReported}

-- ---- what a search for a list promises

-- The status of a search that is complete, by its list; and that of any, by how it ended.
abbrev pub status_when_complete : List Solution → Status
status_when_complete [] = Nothing
status_when_complete (s ∷ list) = Done

abbrev pub list_status : ListWord → List Solution → Status
list_status words.Complete list = status_when_complete list
list_status words.Budget list = LimitSpent
list_status words.Time list = LimitSpent
list_status words.Memory list = NoMemory

-- A complete list has the cheapest assignments: its lower bound is its threshold, none that it lacks costs less than one that it
-- has, and where it has fewer than were asked for, each that it lacks is forbidden.
pub record IsComplete (P : Network) (c : ListCertificate) : Type 0 where
  pub lower : c.lower ≡ threshold_of P.upper c.count c.list
  pub cheapest : (values : List ℕ) (j : ℕ) → Fits P.sizes values → IsNotIn c.list values → j < length c.list → (solution_at c.list j).cost ≤ cost P values
  pub fewer : length c.list < c.count → (values : List ℕ) → Fits P.sizes values → IsNotIn c.list values → cost P values ≡ P.upper

-- What a search for a list promises: the list is good and has a spelling; as many were asked for as it says; its lower bound is
-- its tree's bound, and its open leaves have floors below the threshold; none was expanded to a split that leaves all as it was; as
-- many leaves were expanded as the budget allows at most, as its tree has splits at least, and as it has splits, closed leaves and
-- listed ones at most; and the search ended by its cause. So every assignment that is not listed costs at least the lower bound;
-- of a complete list none costs less than a listed one; and where that is empty, every assignment is forbidden.
pub record PromisesList (P : Network) (ask : KBestRequest) (spent : ℕ) (c : ListCertificate) (word : ListWord) : Type 0 where
  pub network : IsNetwork P
  pub good : GoodList P c
  pub spells : Spells c (spelling c)
  pub asked : c.count ≡ ask.count
  pub lower : c.lower ≡ bound P [] c.tree (threshold c)
  pub below : OpenBelow P [] c.tree (threshold c)
  pub strict : Strict P [] (plain c.tree)
  pub within : spent ≤ ask.budget
  pub expanded : splits (plain c.tree) ≤ spent
  pub counted : spent ≤ count (plain c.tree) + length c.list
  pub cause : HasListCause ask.budget (is_some ask.seconds) spent (open_leaves c.tree) word
  pub others : (values : List ℕ) → Fits P.sizes values → IsNotIn c.list values → c.lower ≤ cost P values
  pub complete : word ≡ words.Complete → IsComplete P c
  pub none_below : word ≡ words.Complete → c.list ≡ [] → (values : List ℕ) → Fits P.sizes values → cost P values ≡ P.upper

-- ---- a run

-- How a run ends that lists the cheapest assignments of a network: its certificate can't be opened for writing; or memory is
-- refused before there is anything to report, and the file is dropped; or what the search promises is written and said.
pub data Lists (P : Network) (ask : KBestRequest) (old new : Outside) (status : Status) : Type 0 where
  unopened : new.files ≡ old.files → Ends (record { calls = Open ask.certificate false ∷ old.calls; text = write_fault_text; status = Fault }) new.calls status → Lists P ask old new status
  no_memory : new.files ≡ old.files → Ends (record { calls = Discard ∷ Open ask.certificate true ∷ old.calls; text = memory_fault_text; status = NoMemory }) new.calls status → Lists P ask old new status
  listed : (spent : ℕ) (c : ListCertificate) (word : ListWord) → PromisesList P ask spent c word →
      Outputs (spelling c) (list_report c word) (list_status word c.list) (after (Open ask.certificate true) old) new status → Lists P ask old new status

-- How a run of `kbest` ends: the file is not loaded, or not read, or its network's cheapest assignments are listed.
pub data ListsBest (ask : KBestRequest) (old new : Outside) (status : Status) : Type 0 where
  unloaded : new.files ≡ old.files → Unloaded ask.file old.calls new.calls status → ListsBest ask old new status
  unread : (bytes : List ℕ) → HasFile old ask.file bytes → new.files ≡ old.files → Unread ask.format bytes (loaded ask.file bytes old.calls) new.calls status → ListsBest ask old new status
  read : (bytes : List ℕ) (P : Network) → HasFile old ask.file bytes → ReadsAs ask.format bytes P → Lists P ask (after (Load ask.file (Bytes bytes)) old) new status → ListsBest ask old new status

-- ---- what its statuses say

-- The file's network was searched with this result: its list is written, and then its report was said.
pub record ListedBest (ask : KBestRequest) (old new : Outside) (word : ListWord) : Type 0 where
  pub bytes : List ℕ
  pub network : Network
  pub spent : ℕ
  pub certificate : ListCertificate
  pub file : HasFile old ask.file bytes
  pub reads : ReadsAs ask.format bytes network
  pub promise : PromisesList network ask spent certificate word
  pub stored : Stored old.files (Writing ask.certificate (spelling certificate)) new.files
  pub calls : new.calls ≡ says (list_report certificate word) (Close true ∷ puts (spelling certificate) (Open ask.certificate true ∷ loaded ask.file bytes old.calls))

-- A complete list that has an assignment at least, and one that has none.
abbrev pub ListedSome : KBestRequest → Outside → Outside → Type 0
ListedSome ask old new = (found : ListedBest ask old new words.Complete) × (0 < length found.certificate.list)

abbrev pub ListedNone : KBestRequest → Outside → Outside → Type 0
ListedNone ask old new = (found : ListedBest ask old new words.Complete) × (found.certificate.list ≡ [])

abbrev pub KBestSays : KBestRequest → Outside → Outside → Status → Type 0
KBestSays ask old new Done = ListedSome ask old new
KBestSays ask old new Nothing = ListedNone ask old new
KBestSays ask old new LimitSpent = ListedBest ask old new words.Budget ⊎ ListedBest ask old new words.Time
KBestSays ask old new Usage = ⊥
KBestSays ask old new Refused = FileRefused ask.format (λ bytes. loaded ask.file bytes old.calls) ask.file old new
KBestSays ask old new Fault = Unit {0}
KBestSays ask old new NoMemory = SaysNoMemory old new ⊎ ListedBest ask old new words.Memory
KBestSays ask old new Disproved = ⊥

-- What a status of `kbest` says; a file that is refused ends with that, and one that reads as a network with a report.
pub record KBestStatus (ask : KBestRequest) (old new : Outside) (status : Status) : Type 0 where
  pub says : KBestSays ask old new status
  pub refused : (bytes : List ℕ) (refusal : FirstUnread) → Tells old ask.file bytes → RefusesAs ask.format bytes refusal → (status ≡ Refused) ⊎ IsHindered status
  pub listed : (bytes : List ℕ) (P : Network) → Tells old ask.file bytes → ReadsAs ask.format bytes P → IsReported status ⊎ IsHindered status
