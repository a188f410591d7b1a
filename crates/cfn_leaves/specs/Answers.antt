-- What the calls on the leaves answer, each by a step of the pool.
use Rattle.std.specs.Prelude.{◌≡◌, ℕ}
use Rattle.cfn_explore.specs.Values.{TaskValue}
use Rattle.cfn_machine.specs.Pool.{View, IsSound}
use Rattle.cfn_machine.specs.Steps.{PoolTakes, HasNone, NoneOpen, AllSpent, AllOut}
use Rattle.cfn_leaves.specs.declared.taking.Taken.{Taken}
use Rattle.cfn_leaves.specs.declared.taking.Taken.TheVariants.{Given, Empty, Spent, Again, Memory}
use Rattle.cfn_leaves.specs.declared.handing.Lack.{Lack}
use Rattle.cfn_leaves.specs.declared.handing.Lack.TheVariants as lacks
use Rattle.cfn_leaves.specs.Value.{Holding, pool_of}

-- With some view the pool is sound.
abbrev pub IsSoundPool : Holding → Type 0
IsSoundPool h = (view : View) × IsSound h.network (pool_of h view)

-- A task of the network is handed out.
pub record Hands (old : Holding) (worker want : ℕ) (task : TaskValue) (new : Holding) : Type 0 where
  pub network : task.network ≡ old.network
  pub takes : (view : View) → PoolTakes old.network (pool_of old view) worker want task.task (pool_of new view)

-- A leaf is handed out, or there is none for one reason; where there is no memory for the path nothing changes.
abbrev pub Takes : Holding → ℕ → ℕ → Taken → Holding → Type 0
Takes old worker want (Given task) new = Hands old worker want task new
Takes old worker want Empty new = (new ≡ old) × ((view : View) → HasNone (pool_of old view) NoneOpen)
Takes old worker want Spent new = (new ≡ old) × ((view : View) → HasNone (pool_of old view) AllSpent)
Takes old worker want Again new = (new ≡ old) × ((view : View) → HasNone (pool_of old view) AllOut)
Takes old worker want Memory new = new ≡ old

-- The answer where there is none for a reason.
abbrev pub none_for : Lack → Taken
none_for lacks.Empty = Empty
none_for lacks.Spent = Spent
none_for lacks.Again = Again
