-- The command `normal`: how a run of it ends, and what each status of it says.
use Rattle.std.specs.Prelude.{ℕ, List, ◌≡◌, ◌⊎◌}
use Rattle.cfn_model.specs.Network.{Network}
use Rattle.cfn_wcspwrite.specs.Canonical.{canonical}
use Rattle.cfn_desk.specs.Outside.{Outside, Call, HasFile}
use Rattle.cfn_cli.specs.Request.Normalizing.{NormalRequest}
use Rattle.cfn_cli.specs.declared.format.Format.TheVariants.{Wcsp}
use Rattle.cfn_app.specs.declared.status.Status.{Status}
use Rattle.cfn_app.specs.declared.status.Status.TheVariants.{Done, Nothing, LimitSpent, Usage, Refused, Fault, NoMemory, Disproved}
use Rattle.cfn_app.specs.Endings.{Ends, IsHindered}
use Rattle.cfn_app.specs.Loading.{ReadsAs, Unloaded, Unread, loaded, RefusesAs, Tells}
use Rattle.cfn_wcnf.specs.declared.fault.Unread.{Unread as FirstUnread}
use Rattle.cfn_app.specs.Saying.{Says, SaysNoMemory, FileRefused}

-- How a run of `normal` ends: the file is not loaded, or not read, or its network's canonical text is said, which reads as
-- that same network.
pub data Normalizes (ask : NormalRequest) (old : Outside) (now : List Call) (status : Status) : Type 0 where
  unloaded : Unloaded ask.file old.calls now status → Normalizes ask old now status
  unread : (bytes : List ℕ) → HasFile old ask.file bytes → Unread ask.format bytes (loaded ask.file bytes old.calls) now status → Normalizes ask old now status
  normalized : (bytes : List ℕ) (P : Network) → HasFile old ask.file bytes → ReadsAs ask.format bytes P → ReadsAs Wcsp (canonical P) P → Ends (record { calls = loaded ask.file bytes old.calls; text = canonical P; status = Done }) now status → Normalizes ask old now status

-- ---- what its statuses say

-- The canonical text of the file's network was said, and reads as that same network; so of a file that has that text, the
-- same text is said.
abbrev pub Normalized : NormalRequest → Outside → Outside → Type 0
Normalized ask old new =
    (bytes : List ℕ) × (P : Network) × HasFile old ask.file bytes × ReadsAs ask.format bytes P × ReadsAs Wcsp (canonical P) P × Says old (loaded ask.file bytes old.calls) (canonical P) new

abbrev pub NormalSays : NormalRequest → Outside → Outside → Status → Type 0
NormalSays ask old new Done = Normalized ask old new
NormalSays ask old new Nothing = ⊥
NormalSays ask old new LimitSpent = ⊥
NormalSays ask old new Usage = ⊥
NormalSays ask old new Refused = FileRefused ask.format (λ bytes. loaded ask.file bytes old.calls) ask.file old new
NormalSays ask old new Fault = Unit {0}
NormalSays ask old new NoMemory = SaysNoMemory old new
NormalSays ask old new Disproved = ⊥

-- What a status of `normal` says; a file that is refused ends with that, and the canonical text of one that reads as a
-- network is said.
pub record NormalStatus (ask : NormalRequest) (old new : Outside) (status : Status) : Type 0 where
  pub says : NormalSays ask old new status
  pub refused : (bytes : List ℕ) (refusal : FirstUnread) → Tells old ask.file bytes → RefusesAs ask.format bytes refusal → (status ≡ Refused) ⊎ IsHindered status
  pub normalized : (bytes : List ℕ) (P : Network) → Tells old ask.file bytes → ReadsAs ask.format bytes P → (status ≡ Done) ⊎ IsHindered status
