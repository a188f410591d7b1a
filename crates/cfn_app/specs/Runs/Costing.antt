-- The command `cost`: how a run of it ends, and what each status of it says.
use Rattle.std.specs.Prelude.{◌≢◌, ℕ, List, length, ◌≡◌, ◌⊎◌}
use Rattle.cfn_model.specs.Network.{Network, Fits, cost}
use Rattle.cfn_model.specs.Text.{cost_text, values_fault_text, value_fault_text}
use Rattle.cfn_net.specs.Fitting.{IsFirstMisfit}
use Rattle.cfn_desk.specs.Outside.{Outside, Call, HasFile}
use Rattle.cfn_cli.specs.Request.Costing.{CostRequest}
use Rattle.cfn_app.specs.declared.status.Status.{Status}
use Rattle.cfn_app.specs.declared.status.Status.TheVariants.{Done, Refused, Nothing, LimitSpent, Usage, Fault, NoMemory, Disproved}
use Rattle.cfn_app.specs.Endings.{Ends, IsHindered}
use Rattle.cfn_app.specs.Loading.{ReadsAs, Unloaded, Unread, loaded, RefusesAs, Tells}
use Rattle.cfn_wcnf.specs.declared.fault.Unread.{Unread as FirstUnread}
use Rattle.cfn_app.specs.Saying.{Says, SaysNoMemory, FileRefused}

-- What is said of an assignment: its cost, that it has another number of values than there are variables, or its first
-- value out of range.
pub data Prices (P : Network) (values : List ℕ) (calls now : List Call) (status : Status) : Type 0 where
  costs : Fits P.sizes values → Ends (record { calls = calls; text = cost_text P.upper (cost P values); status = Done }) now status → Prices P values calls now status
  wrong_number : length values ≢ length P.sizes → Ends (record { calls = calls; text = values_fault_text (length P.sizes) (length values); status = Refused }) now status → Prices P values calls now status
  wrong_value : (x : ℕ) → IsFirstMisfit P.sizes values x → Ends (record { calls = calls; text = value_fault_text x; status = Refused }) now status → Prices P values calls now status

-- How a run of `cost` ends: the file is not loaded, or not read, or the assignment is judged.
pub data Costs (ask : CostRequest) (old : Outside) (now : List Call) (status : Status) : Type 0 where
  unloaded : Unloaded ask.file old.calls now status → Costs ask old now status
  unread : (bytes : List ℕ) → HasFile old ask.file bytes → Unread ask.format bytes (loaded ask.file bytes old.calls) now status → Costs ask old now status
  priced : (bytes : List ℕ) (P : Network) → HasFile old ask.file bytes → ReadsAs ask.format bytes P → Prices P ask.values (loaded ask.file bytes old.calls) now status → Costs ask old now status

-- ---- what its statuses say

-- The cost of the assignment was said.
abbrev pub Costed : CostRequest → Outside → Outside → Type 0
Costed ask old new =
    (bytes : List ℕ) × (P : Network) × HasFile old ask.file bytes × ReadsAs ask.format bytes P × Fits P.sizes ask.values × Says old (loaded ask.file bytes old.calls) (cost_text P.upper (cost P ask.values)) new

-- What is wrong with an assignment, and what was said of it: the number of its values, or the first value out of range.
abbrev pub Misfits : Network → CostRequest → Outside → List Call → Outside → Type 0
Misfits P ask old calls new =
    ((length ask.values ≡ length P.sizes → ⊥) × Says old calls (values_fault_text (length P.sizes) (length ask.values)) new)
    ⊎ ((x : ℕ) × IsFirstMisfit P.sizes ask.values x × Says old calls (value_fault_text x) new)

abbrev pub ValuesRefused : CostRequest → Outside → Outside → Type 0
ValuesRefused ask old new = (bytes : List ℕ) × (P : Network) × HasFile old ask.file bytes × ReadsAs ask.format bytes P × Misfits P ask old (loaded ask.file bytes old.calls) new

abbrev pub CostSays : CostRequest → Outside → Outside → Status → Type 0
CostSays ask old new Done = Costed ask old new
CostSays ask old new Nothing = ⊥
CostSays ask old new LimitSpent = ⊥
CostSays ask old new Usage = ⊥
CostSays ask old new Refused = FileRefused ask.format (λ bytes. loaded ask.file bytes old.calls) ask.file old new ⊎ ValuesRefused ask old new
CostSays ask old new Fault = Unit {0}
CostSays ask old new NoMemory = SaysNoMemory old new
CostSays ask old new Disproved = ⊥

-- What a status of `cost` says; a file that is refused ends with that, the cost of an assignment that fits is said, and
-- one that does not fit is refused.
pub record CostStatus (ask : CostRequest) (old new : Outside) (status : Status) : Type 0 where
  pub says : CostSays ask old new status
  pub refused : (bytes : List ℕ) (refusal : FirstUnread) → Tells old ask.file bytes → RefusesAs ask.format bytes refusal → (status ≡ Refused) ⊎ IsHindered status
  pub costed : (bytes : List ℕ) (P : Network) → Tells old ask.file bytes → ReadsAs ask.format bytes P → Fits P.sizes ask.values → (status ≡ Done) ⊎ IsHindered status
  pub misfits : (bytes : List ℕ) (P : Network) → Tells old ask.file bytes → ReadsAs ask.format bytes P → (Fits P.sizes ask.values → ⊥) → (status ≡ Refused) ⊎ IsHindered status
