-- What the pool has of the word, and what it keeps.
use Rattle.std.specs.Prelude.{◌≡◌, ℕ, ◌≤◌, List, Option, Some, None, IfSome}
use Rattle.std.specs.List.{AllByRecursion}
use Rattle.cfn_model.specs.Network.{Network}
use Rattle.cfn_model.specs.Certificate.{Solution}
use Rattle.cfn_model.specs.declared.report.Row.{Row}
use Rattle.cfn_machine.specs.Pool.{View, Pool}
use Rattle.cfn_machine.specs.Laws.{IsPool}
use Rattle.cfn_low.specs.Steps.{IsCost}
use Rattle.cfn_low.specs.Holding.{Holding as Part}
use Rattle.cfn_leaves.specs.Value.{Holding as Leaves, pool_of}
use Rattle.cfn_model.specs.declared.limits.TheConstants.{GREATEST}
use Rattle.cfn_pool.specs.declared.recording.Recording.{Recording}
use Rattle.cfn_pool.specs.Recorded.{RecordingValue, IsRecordOf, HasRoom, outs}

-- The assignment of what is held.
abbrev pub values_of : Option Solution → Option (List ℕ)
values_of None = None
values_of (Some best) = Some best.values

-- A part of the word as the pool's view: the best assignment that is kept, what was seen, and the shares.
abbrev pub view_of : Part → View
view_of part = record { best = values_of part.held; seen = part.seen; shares = part.shares }

-- Each upper number of the rows is the cost of an assignment.
abbrev pub AreReached : Network → List Row → Type 0
AreReached P rows = AllByRecursion (λ (row : Row). IfSome row.upper (IsCost P)) rows

-- What contracts see: the leaves and the part of the word, which are a pool, and what is recorded, where a record is kept.
pub record Held : Type 0 where
  pub leaves : Leaves
  pub part : Part
  pub recorded : Option RecordingValue

abbrev pub pool : Held → Pool
pool h = pool_of h.leaves (view_of h.part)

-- What is recorded makes a pool that is alike, all leaves that are out are counted, and no number is too large to be recorded.
pub record IsRecorded (P : Network) (pool : Pool) (r : RecordingValue) : Type 0 where
  pub is : IsRecordOf P pool r.told
  pub counted : r.out ≡ outs pool.tree
  pub budget : pool.budget ≤ GREATEST
  pub seen : pool.view.seen ≤ GREATEST

-- They are a pool of the network, and what is recorded is what was done to it.
pub record IsHeld (P : Network) (h : Held) : Type 0 where
  pub own : h.leaves.network ≡ P
  pub pool_is : IsPool P (pool h)
  pub rows : AreReached P h.leaves.rows
  pub recorded : IfSome h.recorded (IsRecorded P (pool h))

-- The same, and there is room for what is promised of the record.
pub record IsPooled (P : Network) (h : Held) (recording : Recording) : Type 0 where
  pub held : IsHeld P h
  pub room : HasRoom 0 recording
