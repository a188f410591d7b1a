-- What the steps of a call gain: they are groups. Where it is spent the last one may be unfinished, and a step is due.
use Rattle.std.specs.Prelude.{◌≡◌, ℕ, ◌≤◌, List, ◌++◌, Result, Ok, Err, pos, slice_index, IsTrue}
use Rattle.cfn_model.specs.declared.step.Step.{Step}
use Rattle.cfn_model.specs.declared.step.Event.{Event}
use Rattle.cfn_model.specs.Network.{Network, Fits, dims_at}
use Rattle.cfn_model.specs.Sums.{residual, is_live, is_live_tuple}
use Rattle.cfn_model.specs.Steps.{IsValue, CanCutValue}
use Rattle.cfn_consistency.specs.Consistency.{AreFullyConsistent}
use Rattle.cfn_consistency.specs.Groups.{Group, begun, LeadTo, IsBegun, MayBeOpen}
use Rattle.cfn_store.specs.Standing.{Standing, history}
use Rattle.cfn_gain.specs.declared.limits.Limits.{Limits}
use Rattle.cfn_gain.specs.declared.limits.Halt.{Halt}
use Rattle.cfn_gain.specs.declared.limits.Halt.TheVariants.{Dead, Spent}

-- Between two standings there are steps alone, which lead to a group of which a fact holds.
pub record Leads (before after : Standing) (Fact : List Event → Group → Type 0) : Type 0 where
  pub network : after.network ≡ before.network
  pub base : after.base ≡ before.base
  pub steps : List Step
  pub block : after.block ≡ before.block ++ steps
  pub lead : LeadTo before.network Fact (begun (history before)) (history before) steps

-- They are groups; and groups, the last of which may be unfinished.
abbrev pub Gained : Standing → Standing → Type 0
Gained before after = Leads before after IsBegun

abbrev pub IsOpen : Standing → Standing → Type 0
IsOpen before after = Leads before after MayBeOpen

-- A step is due: at the threshold a store is not fully consistent.
abbrev pub IsDue : Standing → Limits → Type 0
IsDue s limits = AreFullyConsistent s.network (history s) limits.threshold → ⊥

-- What every call gains.
abbrev pub Gains : Standing → Standing → Limits → Result (Unit {0}) Halt → Type 0
Gains before after limits (Ok done) = Gained before after
Gains before after limits (Err Dead) = Gained before after
Gains before after limits (Err Spent) = IsOpen before after × IsDue after limits

-- The same of a call that goes on with a group which other steps began: it closes it.
abbrev pub GainsBehind : Standing → Standing → Limits → Result (Unit {0}) Halt → Type 0
GainsBehind now after limits result = (before : Standing) → IsOpen before now → Gains before after limits result

-- A live tuple of f with the value a at place i has this residual cost.
pub record HasCost (P : Network) (history : List Event) (f i a cost : ℕ) : Type 0 where
  pub tuple : List ℕ
  pub fits : Fits (dims_at P f) tuple
  pub at : slice_index tuple i ≡ a
  pub live : IsTrue (is_live_tuple P history f tuple)
  pub cost_is : residual P history f tuple ≡ pos cost

-- A live value of x, from the value n on, can be cut.
pub record HasCostly (P : Network) (history : List Event) (k x n : ℕ) : Type 0 where
  pub value : ℕ
  pub is : IsValue P x value
  pub from : n ≤ value
  pub live : IsTrue (is_live history x value)
  pub reaches : CanCutValue P history k x value
