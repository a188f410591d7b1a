-- The command `checkbest`: how a run of it ends, and what each status of it says.
use Rattle.std.specs.Prelude.{ℕ, Bool, true, false, List, length, ◌≤◌, ◌≡◌, ◌⊎◌}
use Rattle.cfn_model.specs.Network.{Network, IsNetwork, Fits, cost}
use Rattle.cfn_model.specs.Text.{memory_fault_text}
use Rattle.cfn_best.specs.declared.kind.ListFault.{ListFault}
use Rattle.cfn_best.specs.List.{ListCertificate, GoodList, is_complete}
use Rattle.cfn_best.specs.Lines.{Spells}
use Rattle.cfn_best.specs.Laws.{IsNotIn}
use Rattle.cfn_certwrite.specs.ListTexts.{list_verified_text, list_open_text, list_refused_text}
use Rattle.cfn_desk.specs.Outside.{Outside, Call}
use Rattle.cfn_cli.specs.Request.CheckingBest.{CheckBestRequest}
use Rattle.cfn_app.specs.declared.status.Status.{Status}
use Rattle.cfn_app.specs.declared.status.Status.TheVariants.{Done, NoMemory, Disproved, Nothing, LimitSpent, Usage, Refused, Fault}
use Rattle.cfn_app.specs.Endings.{Ends, IsHindered}
use Rattle.cfn_app.specs.Loading.{Paired, Unpaired, ReadsAs, RefusesAs, Tells}
use Rattle.cfn_wcnf.specs.declared.fault.Unread.{Unread as FirstUnread}
use Rattle.cfn_app.specs.Runs.Listing.{IsComplete}
use Rattle.cfn_app.specs.Saying.{Says, SaysNoMemory, PairRefused}
use Rattle.cfn_best.specs.Fault as faults

-- A text was judged good: it spells a list that is good, which alone implies that every assignment that is not listed costs at
-- least the lower bound.
pub record VerifiesBest (P : Network) (bytes : List ℕ) (c : ListCertificate) : Type 0 where
  pub spells : Spells c bytes
  pub good : GoodList P c
  pub network : IsNetwork P
  pub others : (values : List ℕ) → Fits P.sizes values → IsNotIn c.list values → c.lower ≤ cost P values

-- What is said of a good list: its lower bound and how many assignments it has, and where it is left open, that in a line more.
abbrev pub SaysGood : Bool → ℕ → ℕ → List Call → List Call → Status → Type 0
SaysGood true lower count calls now status = Ends (record { calls = calls; text = list_open_text lower count; status = LimitSpent }) now status
SaysGood false lower count calls now status = Ends (record { calls = calls; text = list_verified_text lower count; status = Done }) now status

-- What is said of a list's text: its lower bound and how many assignments it has, or its first line that fails. Where it is asked
-- whether the list is complete, a list that has no line more is: none that it lacks costs less than one that it has, and where it
-- has fewer than were asked for, each that it lacks is forbidden.
pub data JudgesBest (asked : Bool) (P : Network) (text : List ℕ) (calls now : List Call) (status : Status) : Type 0 where
  verified : (c : ListCertificate) → VerifiesBest P text c → (asked ≡ true → IsComplete P c) → SaysGood false c.lower (length c.list) calls now status → JudgesBest asked P text calls now status
  left_open : (c : ListCertificate) → VerifiesBest P text c → asked ≡ true → is_complete P c ≡ false → SaysGood true c.lower (length c.list) calls now status → JudgesBest asked P text calls now status
  disproved : (l : ℕ) (kind : ListFault) → faults.Fault P text l kind → Ends (record { calls = calls; text = list_refused_text kind l; status = Disproved }) now status → JudgesBest asked P text calls now status
  no_memory : Ends (record { calls = calls; text = memory_fault_text; status = NoMemory }) now status → JudgesBest asked P text calls now status

-- How a run of `checkbest` ends: both files were not loaded and read, or the list is judged.
pub data ChecksBest (ask : CheckBestRequest) (old : Outside) (now : List Call) (status : Status) : Type 0 where
  unpaired : Unpaired ask.format ask.file ask.certificate old now status → ChecksBest ask old now status
  judged : (P : Network) (text : List ℕ) (middle : Outside) → Paired ask.format ask.file ask.certificate old P text middle → JudgesBest ask.complete P text middle.calls now status → ChecksBest ask old now status

-- ---- what its statuses say

-- The list is good, and its lower bound and how many assignments it has were said. Where it was asked whether it is complete, it is.
abbrev pub VerifiedBest : CheckBestRequest → Outside → Outside → Type 0
VerifiedBest ask old new =
    (P : Network) × (text : List ℕ) × (c : ListCertificate) × (middle : Outside) × Paired ask.format ask.file ask.certificate old P text middle × VerifiesBest P text c
    × (ask.complete ≡ true → IsComplete P c) × Says old middle.calls (list_verified_text c.lower (length c.list)) new

-- The list is good and not complete, and that was asked and said.
abbrev pub LeftOpen : CheckBestRequest → Outside → Outside → Type 0
LeftOpen ask old new =
    (P : Network) × (text : List ℕ) × (c : ListCertificate) × (middle : Outside) × Paired ask.format ask.file ask.certificate old P text middle × VerifiesBest P text c
    × (ask.complete ≡ true) × (is_complete P c ≡ false) × Says old middle.calls (list_open_text c.lower (length c.list)) new

-- A line of the list fails, no earlier one does, and how it fails was said.
abbrev pub RefutedBest : CheckBestRequest → Outside → Outside → Type 0
RefutedBest ask old new =
    (P : Network) × (text : List ℕ) × (l : ℕ) × (kind : ListFault) × (middle : Outside) × Paired ask.format ask.file ask.certificate old P text middle × faults.Fault P text l kind
    × Says old middle.calls (list_refused_text kind l) new

abbrev pub CheckBestSays : CheckBestRequest → Outside → Outside → Status → Type 0
CheckBestSays ask old new Done = VerifiedBest ask old new
CheckBestSays ask old new Nothing = ⊥
CheckBestSays ask old new LimitSpent = LeftOpen ask old new
CheckBestSays ask old new Usage = ⊥
CheckBestSays ask old new Refused = PairRefused ask.format ask.file ask.certificate old new
CheckBestSays ask old new Fault = Unit {0}
CheckBestSays ask old new NoMemory = SaysNoMemory old new
CheckBestSays ask old new Disproved = RefutedBest ask old new

-- What a status of `checkbest` says; a file that is refused ends with that, a good list is verified, or left open where it is asked
-- whether it is complete and it is not, and any other text is refused.
pub record CheckBestStatus (ask : CheckBestRequest) (old new : Outside) (status : Status) : Type 0 where
  pub says : CheckBestSays ask old new status
  pub refused : (bytes : List ℕ) (refusal : FirstUnread) → Tells old ask.file bytes → RefusesAs ask.format bytes refusal → (status ≡ Refused) ⊎ IsHindered status
  pub verified : (bytes text : List ℕ) (P : Network) (c : ListCertificate) → Tells old ask.file bytes → Tells old ask.certificate text → ReadsAs ask.format bytes P → Spells c text → GoodList P c → (ask.complete ≡ true → is_complete P c ≡ true) → (status ≡ Done) ⊎ IsHindered status
  pub left_open : (bytes text : List ℕ) (P : Network) (c : ListCertificate) → Tells old ask.file bytes → Tells old ask.certificate text → ReadsAs ask.format bytes P → Spells c text → GoodList P c → ask.complete ≡ true → is_complete P c ≡ false → (status ≡ LimitSpent) ⊎ IsHindered status
  pub refuted : (bytes text : List ℕ) (P : Network) (l : ℕ) (kind : ListFault) → Tells old ask.file bytes → Tells old ask.certificate text → ReadsAs ask.format bytes P → faults.Fault P text l kind → (status ≡ Disproved) ⊎ IsHindered status
