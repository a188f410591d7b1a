-- The leaf that is handed out next, and what comes of handing it out.
use Rattle.std.specs.Prelude.{◌≡◌, ◌≢◌, ℕ, ◌+◌, ◌<◌, List, length, min, Result, Ok, Err}
use Rattle.cfn_model.specs.declared.step.Event.{Event}
use Rattle.cfn_model.specs.Sums.{floor}
use Rattle.cfn_machine.specs.Pool.{granted, Task, View}
use Rattle.cfn_machine.specs.Steps as steps
use Rattle.cfn_machine.specs.Steps.{IsFirst, PoolTakes, HasNone}
use Rattle.cfn_leaves.specs.declared.handing.Due.{Due}
use Rattle.cfn_leaves.specs.declared.handing.Lent.{Lent}
use Rattle.cfn_leaves.specs.declared.handing.Lack.{Lack}
use Rattle.cfn_leaves.specs.declared.handing.Lack.TheVariants.{Empty, Spent, Again}
use Rattle.cfn_leaves.specs.Out.{task_at}
use Rattle.cfn_leaves.specs.Ways.{IsPathOf}
use Rattle.cfn_leaves.specs.Value.{Holding, pool_of, pool_tree}

-- The reason of the machine's that an answer is.
abbrev pub reason_of : Lack → steps.Lack
reason_of Empty = steps.NoneOpen
reason_of Spent = steps.AllSpent
reason_of Again = steps.AllOut

-- It is the first free leaf, with its node, and the budget has so much left, which is not nothing.
pub record IsNext (h : Holding) (due : Due) : Type 0 where
  pub path : List Event
  pub first : IsFirst h.network (pool_tree h) due.leaf.leaf path
  pub floor_is : due.leaf.floor ≡ floor h.network path
  pub there : due.node.number < length h.tree
  pub of : IsPathOf h.tree due.node.number path
  pub lefts : due.left + (h.nodes + granted (pool_tree h)) ≡ h.budget
  pub some : due.left ≢ 0
  pub unspent : h.nodes ≢ h.budget

-- The next leaf, or why there is none.
abbrev pub IsDue : Holding → Result Due Lack → Type 0
IsDue h (Ok due) = IsNext h due
IsDue h (Err lack) = (view : View) → HasNone (pool_of h view) (reason_of lack)

-- The next leaf is handed out to a worker that wants so many nodes.
abbrev pub Lends : Holding → Due → ℕ → ℕ → Holding → Type 0
Lends old due worker want new = (path : List Event) → IsPathOf old.tree due.node.number path → (view : View) → PoolTakes old.network (pool_of old view) worker want (task_at due.leaf.leaf worker (min want due.left) due.leaf.floor path) (pool_of new view)

-- A leaf with this number is handed out with this grant.
pub record HandsLeaf (old : Holding) (worker want : ℕ) (lent : Lent) (new : Holding) : Type 0 where
  pub task : Task
  pub takes : (view : View) → PoolTakes old.network (pool_of old view) worker want task (pool_of new view)
  pub leaf : task.leaf ≡ lent.leaf
  pub grant : task.grant ≡ lent.grant

-- A leaf is handed out, or there is none for one reason, and nothing changes.
abbrev pub HandsOut : Holding → ℕ → ℕ → Result Lent Lack → Holding → Type 0
HandsOut old worker want (Ok lent) new = HandsLeaf old worker want lent new
HandsOut old worker want (Err lack) new = (new ≡ old) × ((view : View) → HasNone (pool_of old view) (reason_of lack))
