-- The command `trial`: how a run of it ends, and what each status of it says.
use Rattle.std.specs.Prelude.{ℕ, List, length, ◌≡◌, ◌⊎◌}
use Rattle.cfn_model.specs.Network.{Network, Least}
use Rattle.cfn_model.specs.Text.{memory_fault_text}
use Rattle.cfn_gen.specs.Generator.{instance}
use Rattle.cfn_report.specs.Texts.{trial_text}
use Rattle.cfn_desk.specs.Outside.{Call, Outside}
use Rattle.cfn_cli.specs.Request.Trying.{TrialRequest}
use Rattle.cfn_app.specs.declared.status.Status.{Status}
use Rattle.cfn_app.specs.declared.status.Status.TheVariants.{Done, NoMemory, Nothing, LimitSpent, Usage, Refused, Fault, Disproved}
use Rattle.cfn_app.specs.Endings.{Ends, IsHindered}
use Rattle.cfn_app.specs.Saying.{Says, SaysNoMemory}

-- The text of a network with its least cost.
abbrev pub trial_text_of : Network → ℕ → List ℕ
trial_text_of P least = trial_text (length P.sizes) (length P.functions) least

-- How a run of `trial` ends: the least cost of the network of the seed and size is said, or memory is refused.
pub data Tries (ask : TrialRequest) (calls now : List Call) (status : Status) : Type 0 where
  solved : (least : ℕ) → Least (instance ask.seed ask.size) least → Ends (record { calls = calls; text = trial_text_of (instance ask.seed ask.size) least; status = Done }) now status → Tries ask calls now status
  no_memory : Ends (record { calls = calls; text = memory_fault_text; status = NoMemory }) now status → Tries ask calls now status

-- ---- what its statuses say

-- The least cost of the network of the seed and size was said.
abbrev pub Tried : TrialRequest → Outside → Outside → Type 0
Tried ask old new =
    (least : ℕ) × Least (instance ask.seed ask.size) least × Says old old.calls (trial_text_of (instance ask.seed ask.size) least) new

abbrev pub TrialSays : TrialRequest → Outside → Outside → Status → Type 0
TrialSays ask old new Done = Tried ask old new
TrialSays ask old new Nothing = ⊥
TrialSays ask old new LimitSpent = ⊥
TrialSays ask old new Usage = ⊥
TrialSays ask old new Refused = ⊥
TrialSays ask old new Fault = Unit {0}
TrialSays ask old new NoMemory = SaysNoMemory old new
TrialSays ask old new Disproved = ⊥

-- What a status of `trial` says; where no call of the desk fails and memory is not refused, the least cost is said.
pub record TrialStatus (ask : TrialRequest) (old new : Outside) (status : Status) : Type 0 where
  pub says : TrialSays ask old new status
  pub tried : (status ≡ Done) ⊎ IsHindered status
