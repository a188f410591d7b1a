-- The command `merge`: how a run of it ends, and what each status of it says.
use Rattle.std.specs.Prelude.{◌≡◌, ℕ, ◌+◌, ◌≤◌, true, false, List, ◌∷◌, ◌++◌, [], map, length, ◌⊎◌}
use Rattle.std.specs.List.{AllByRecursion}
use Rattle.cfn_model.specs.Network.{Network}
use Rattle.cfn_model.specs.Certificate.{Certificate, Good}
use Rattle.cfn_model.specs.Text.{spelling, write_fault_text, memory_fault_text, Spells}
use Rattle.cfn_fault.specs.declared.kind.FaultKind.{FaultKind}
use Rattle.cfn_fault.specs.Fault as faults
use Rattle.cfn_mending.specs.Merging.{all_merged}
use Rattle.cfn_merge.specs.Same.{same}
use Rattle.cfn_check.specs.Checking.{cost_of}
use Rattle.cfn_report.specs.Texts.{merged_text, refused_in_text}
use Rattle.cfn_desk.specs.Outside.{Outside, Call, Load, Open, Close, Bytes, HasFile, Stored, Writing, after, puts, says}
use Rattle.cfn_cli.specs.Request.Merging.{MergeRequest}
use Rattle.cfn_wcnf.specs.declared.fault.Unread.{Unread as FirstUnread}
use Rattle.cfn_app.specs.declared.status.Status.{Status}
use Rattle.cfn_app.specs.declared.status.Status.TheVariants.{Done, Nothing, LimitSpent, Usage, Refused, Fault, NoMemory, Disproved}
use Rattle.cfn_app.specs.Endings.{Ends, IsHindered, Outputs}
use Rattle.cfn_app.specs.Loading.{ReadsAs, RefusesAs, Tells, Unloaded, Unread, loaded}
use Rattle.cfn_app.specs.Runs.Checking.{Verifies}
use Rattle.cfn_app.specs.Saying.{Says, SaysNoMemory, FileRefused}

-- ---- certificates one after another

-- A file by its name, the text that it holds, and the certificate whose text that is.
pub record Part : Type 0 where
  pub name : List ℕ
  pub text : List ℕ
  pub certificate : Certificate

abbrev pub names_of : List Part → List (List ℕ)
names_of parts = map (λ p. p.name) parts

-- The file of that name has that text, which was judged good.
pub record IsPart (P : Network) (old : Outside) (part : Part) : Type 0 where
  pub has : HasFile old part.name part.text
  pub verifies : Verifies P part.text part.certificate

-- The calls after these files were loaded in their order.
abbrev pub all_loaded : List Part → List Call → List Call
all_loaded [] calls = calls
all_loaded (part ∷ parts) calls = all_loaded parts (loaded part.name part.text calls)

-- What a first one comes to, and the others merged with it one after another.
abbrev pub merged_of : Network → Part → List Part → Certificate
merged_of P first others = all_merged same P first.certificate (map (λ p. p.certificate) others)

-- How a run ends that could not take the certificate of a name, which is the one of a number: the file is not loaded; or a line of
-- the certificate is the first that fails; or memory is refused.
pub data NotTaken (P : Network) (name : List ℕ) (number : ℕ) (old : Outside) (now : List Call) (status : Status) : Type 0 where
  unloaded : Unloaded name old.calls now status → NotTaken P name number old now status
  disproved : (text : List ℕ) (l : ℕ) (kind : FaultKind) → HasFile old name text → faults.Fault P text l kind → Ends (record { calls = loaded name text old.calls; text = refused_in_text kind l number; status = Disproved }) now status → NotTaken P name number old now status
  no_memory : (text : List ℕ) → HasFile old name text → Ends (record { calls = loaded name text old.calls; text = memory_fault_text; status = NoMemory }) now status → NotTaken P name number old now status

-- All certificates of these names were taken in their order, each good, and this is what they come to.
pub record AllTaken (P : Network) (names : List (List ℕ)) (old : Outside) (c : Certificate) (new : Outside) : Type 0 where
  pub first : Part
  pub others : List Part
  pub names_are : names ≡ names_of (first ∷ others)
  pub parts : AllByRecursion (IsPart P old) (first ∷ others)
  pub is : c ≡ merged_of P first others
  pub outside : new ≡ record { calls = all_loaded (first ∷ others) old.calls; files = old.files }

-- How a run ends where they were not: one was not taken, behind those that were; or memory is refused behind all.
pub data NotAllTaken (P : Network) (names : List (List ℕ)) (old : Outside) (now : List Call) (status : Status) : Type 0 where
  not_taken : (before : List Part) (name : List ℕ) (rest : List (List ℕ)) → names ≡ names_of before ++ name ∷ rest → AllByRecursion (IsPart P old) before →
      NotTaken P name (length before + 1) (record { calls = all_loaded before old.calls; files = old.files }) now status → NotAllTaken P names old now status
  no_memory : (parts : List Part) → names ≡ names_of parts → AllByRecursion (IsPart P old) parts → Ends (record { calls = all_loaded parts old.calls; text = memory_fault_text; status = NoMemory }) now status → NotAllTaken P names old now status

-- ---- a run

-- What was merged was to be written under a name: that can't be opened for writing; or it is written, and its bounds are said.
pub data Writes (c : Certificate) (out : List ℕ) (old new : Outside) (status : Status) : Type 0 where
  unopened : new.files ≡ old.files → Ends (record { calls = Open out false ∷ old.calls; text = write_fault_text; status = Fault }) new.calls status → Writes c out old new status
  put_out : Outputs (spelling c) (merged_text c.lower (cost_of c.best)) Done (after (Open out true) old) new status → Writes c out old new status

-- What becomes of a network and the names of certificates: not all are taken, and nothing is written; or what they come to is.
pub data MergesInto (P : Network) (names : List (List ℕ)) (out : List ℕ) (old new : Outside) (status : Status) : Type 0 where
  not_all : new.files ≡ old.files → NotAllTaken P names old new.calls status → MergesInto P names out old new status
  writes : (c : Certificate) (middle : Outside) → AllTaken P names old c middle → Writes c out middle new status → MergesInto P names out old new status

-- How a run of `merge` ends: the file is not loaded, or not read, or the certificates are merged.
pub data Merges (ask : MergeRequest) (old new : Outside) (status : Status) : Type 0 where
  unloaded : new.files ≡ old.files → Unloaded ask.file old.calls new.calls status → Merges ask old new status
  unread : (bytes : List ℕ) → HasFile old ask.file bytes → new.files ≡ old.files → Unread ask.format bytes (loaded ask.file bytes old.calls) new.calls status → Merges ask old new status
  read : (bytes : List ℕ) (P : Network) → HasFile old ask.file bytes → ReadsAs ask.format bytes P → MergesInto P ask.certificates ask.out (after (Load ask.file (Bytes bytes)) old) new status → Merges ask old new status

-- ---- what its statuses say

-- All certificates are good, and what they come to was written, which is good, with a lower bound of at least each one's: under the
-- name that was asked for stands its text, and its bounds were said.
pub record Merged (ask : MergeRequest) (old new : Outside) : Type 0 where
  pub bytes : List ℕ
  pub network : Network
  pub first : Part
  pub others : List Part
  pub file : HasFile old ask.file bytes
  pub reads : ReadsAs ask.format bytes network
  pub names : ask.certificates ≡ names_of (first ∷ others)
  pub parts : AllByRecursion (IsPart network old) (first ∷ others)
  pub good : Good network (merged_of network first others)
  pub lower : AllByRecursion (λ part. part.certificate.lower ≤ (merged_of network first others).lower) (first ∷ others)
  pub spells : Spells (merged_of network first others) (spelling (merged_of network first others))
  pub stored : Stored old.files (Writing ask.out (spelling (merged_of network first others))) new.files
  pub calls : new.calls ≡ says (merged_text (merged_of network first others).lower (cost_of (merged_of network first others).best))
      (Close true ∷ puts (spelling (merged_of network first others)) (Open ask.out true ∷ all_loaded (first ∷ others) (loaded ask.file bytes old.calls)))

-- A certificate is not good, the first such one in their order: its first line that fails was said, and which one it is.
pub record RefutedIn (ask : MergeRequest) (old new : Outside) : Type 0 where
  pub bytes : List ℕ
  pub network : Network
  pub before : List Part
  pub name : List ℕ
  pub text : List ℕ
  pub rest : List (List ℕ)
  pub line : ℕ
  pub kind : FaultKind
  pub file : HasFile old ask.file bytes
  pub reads : ReadsAs ask.format bytes network
  pub names : ask.certificates ≡ names_of before ++ name ∷ rest
  pub parts : AllByRecursion (IsPart network old) before
  pub has : HasFile old name text
  pub fault : faults.Fault network text line kind
  pub says : Says old (loaded name text (all_loaded before (loaded ask.file bytes old.calls))) (refused_in_text kind line (length before + 1)) new

abbrev pub MergeSays : MergeRequest → Outside → Outside → Status → Type 0
MergeSays ask old new Done = Merged ask old new
MergeSays ask old new Nothing = ⊥
MergeSays ask old new LimitSpent = ⊥
MergeSays ask old new Usage = ⊥
MergeSays ask old new Refused = FileRefused ask.format (λ bytes. loaded ask.file bytes old.calls) ask.file old new
MergeSays ask old new Fault = Unit {0}
MergeSays ask old new NoMemory = SaysNoMemory old new
MergeSays ask old new Disproved = RefutedIn ask old new

-- The desk tells the file of a part, whose text spells its certificate, which is good.
pub record IsToldPart (P : Network) (old : Outside) (part : Part) : Type 0 where
  pub told : Tells old part.name part.text
  pub spells : Spells part.certificate part.text
  pub good : Good P part.certificate

-- What a status of `merge` says; a file that is refused ends with that, good certificates are merged, and where one has a fault
-- they are refused.
pub record MergeStatus (ask : MergeRequest) (old new : Outside) (status : Status) : Type 0 where
  pub says : MergeSays ask old new status
  pub refused : (bytes : List ℕ) (refusal : FirstUnread) → Tells old ask.file bytes → RefusesAs ask.format bytes refusal → (status ≡ Refused) ⊎ IsHindered status
  pub merged : (bytes : List ℕ) (P : Network) (parts : List Part) → Tells old ask.file bytes → ReadsAs ask.format bytes P → ask.certificates ≡ names_of parts → AllByRecursion (IsToldPart P old) parts → (status ≡ Done) ⊎ IsHindered status
  pub refuted : (bytes text name : List ℕ) (P : Network) (before rest : List (List ℕ)) (l : ℕ) (kind : FaultKind) → Tells old ask.file bytes → ReadsAs ask.format bytes P → ask.certificates ≡ before ++ name ∷ rest → Tells old name text → faults.Fault P text l kind →
      (status ≡ Disproved) ⊎ IsHindered status
