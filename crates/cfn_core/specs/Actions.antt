-- What the workers do: each action is one atomic step of one of them. An action that may not be done, or that names a
-- worker that is not there, by itself or by its task or piece, is answered Idle and changes nothing.
use Rattle.std.specs.Prelude.{◌≡◌, ℕ, ◌<◌, ◌≤◌, min, List, [], ◌∷◌, ◌++◌, length, slice_index_or, slice_set, Option, Some, None, MatchOption, filter, not, ◌==◌}
use Rattle.cfn_model.specs.Network.{Network}
use Rattle.cfn_machine.specs.Pool.{Task, Piece, IsPiece, View, Pool, price, cheaper, KeepsFitting}
use Rattle.cfn_machine.specs.Steps.{PoolTakes, Lack, NoneOpen, AllSpent, AllOut, HasNone, IsOut, PoolGives, IsNotOut, PoolReturns, pool_recalled, pool_swept, pool_met}
use Rattle.cfn_core.specs.World.{World, view_at, note_at}

pub data Action : Type 0 where
  Look : (worker : ℕ) → Action
  Lower : (worker : ℕ) (found : Option (List ℕ)) → Action
  Note : (worker : ℕ) → Action
  Meet : (worker : ℕ) → Action
  Take : (worker want : ℕ) → Action
  Give : (piece : Piece) (note : ℕ) → Action
  Back : (task : Task) → Action
  Recall : Action
  Sweep : Action

pub data Reply : Type 0 where
  Idle : Reply
  Seen : (threshold : ℕ) → Reply
  Noted : (note : ℕ) → Reply
  Given : (task : Task) → Reply
  Empty : Reply
  Spent : Reply
  Again : Reply
  Gone : Reply
  NotOut : Reply
  Done : Reply

-- What an action brings is of the network: an assignment fits it, and a piece is one.
abbrev pub IsAction : Network → Action → Type 0
IsAction P (Look worker) = Unit {0}
IsAction P (Lower worker found) = KeepsFitting P found
IsAction P (Note worker) = Unit {0}
IsAction P (Meet worker) = Unit {0}
IsAction P (Take worker want) = Unit {0}
IsAction P (Give piece note) = IsPiece P piece
IsAction P (Back task) = Unit {0}
IsAction P Recall = Unit {0}
IsAction P Sweep = Unit {0}

-- A note, a taking and a giving take memory, and no other action does: neither one alone, nor the one at a place of a list.
abbrev pub TakesMemory : Action → Type 0
TakesMemory (Look worker) = ⊥
TakesMemory (Lower worker found) = ⊥
TakesMemory (Note worker) = Unit {0}
TakesMemory (Meet worker) = ⊥
TakesMemory (Take worker want) = Unit {0}
TakesMemory (Give piece note) = Unit {0}
TakesMemory (Back task) = ⊥
TakesMemory Recall = ⊥
TakesMemory Sweep = ⊥

abbrev pub TakesMemoryAt : List Action → ℕ → Type 0
TakesMemoryAt actions place = TakesMemory (slice_index_or actions place Recall)

-- The answer is this reply, and leaves this world.
pub record Answers (due : Reply) (left : World) (r : Reply) (new : World) : Type 0 where
  pub reply : r ≡ due
  pub world : new ≡ left

-- A worker is there where its number is below that of the views. One whose view was met is there too.
abbrev pub IsThere : World → ℕ → Type 0
IsThere w worker = worker < length w.views

-- A worker looks at the word.
abbrev pub looked : World → ℕ → View → World
looked w i view = record w { views = slice_set w.views i (Some (record view { seen = w.word })) }

-- A worker has found an assignment: the word becomes its price where that is less.
abbrev pub lowered : Network → World → ℕ → Option (List ℕ) → View → World
lowered P w i found view = record w {
  word = min w.word (price P found);
  views = slice_set w.views i (Some (record view { best = cheaper P view.best found; seen = min w.word (price P found) }));
}

-- A worker notes what it has seen.
abbrev pub noted : World → View → World
noted w view = record w { notes = w.notes ++ Some view.seen ∷ [] }

-- A worker's view is joined into the pool's, and ends.
abbrev pub met : Network → World → ℕ → View → World
met P w i view = record w { pool = pool_met P w.pool view; views = slice_set w.views i None }

-- A leaf's task is in other hands no more.
abbrev pub without : ℕ → List Task → List Task
without n hands = filter (λ (task : Task). not (task.leaf == n)) hands

-- A leaf is taken: its task is in hand from then on. Where there is none, the answer says why.
abbrev pub CanTake : World → ℕ → ℕ → Type 0
CanTake w worker want = IsThere w worker × (1 ≤ want)

abbrev pub taken : World → Task → Pool → World
taken w task pool = record w { pool = pool; hands = task ∷ w.hands }

abbrev pub none_reply : Lack → Reply
none_reply NoneOpen = Empty
none_reply AllSpent = Spent
none_reply AllOut = Again

pub data Takes (P : Network) (w : World) (worker want : ℕ) (r : Reply) (new : World) : Type 0 where
  take_idle : (CanTake w worker want → ⊥) → Answers Idle w r new → Takes P w worker want r new
  take_none : (lack : Lack) → CanTake w worker want → HasNone w.pool lack → Answers (none_reply lack) w r new → Takes P w worker want r new
  take_task : (task : Task) (pool : Pool) → CanTake w worker want → PoolTakes P w.pool worker want task pool → Answers (Given task) (taken w task pool) r new → Takes P w worker want r new

-- A piece is given: its worker is there, and its note, which has seen at most its threshold. The note is heeded, and the
-- pool sees the word.
abbrev pub CanGive : World → Piece → ℕ → Type 0
CanGive w piece note = IsThere w piece.task.worker × MatchOption (note_at w.notes note) ⊥ (λ seen. seen ≤ piece.threshold)

abbrev pub given : World → Piece → ℕ → Pool → World
given w piece note pool = record w { pool = pool; notes = slice_set w.notes note None; hands = without piece.task.leaf w.hands }

pub data Gives (w : World) (piece : Piece) (note : ℕ) (r : Reply) (new : World) : Type 0 where
  give_idle : (CanGive w piece note → ⊥) → Answers Idle w r new → Gives w piece note r new
  give_gone : CanGive w piece note → (IsOut w.pool piece.task → ⊥) → Answers Gone w r new → Gives w piece note r new
  give_done : (pool : Pool) → CanGive w piece note → PoolGives w.pool w.word piece pool → Answers Done (given w piece note pool) r new → Gives w piece note r new

-- A task is given back: its worker is there, and its leaf is free again, where it is out to that worker with that grant.
abbrev pub returned : World → Task → Pool → World
returned w task pool = record w { pool = pool; hands = without task.leaf w.hands }

pub data Returns (w : World) (task : Task) (r : Reply) (new : World) : Type 0 where
  back_idle : (IsThere w task.worker → ⊥) → Answers Idle w r new → Returns w task r new
  back_not : IsThere w task.worker → IsNotOut w.pool task → Answers NotOut w r new → Returns w task r new
  back_done : (pool : Pool) → IsThere w task.worker → PoolReturns w.pool task pool → Answers Done (returned w task pool) r new → Returns w task r new

-- Every leaf that is out is called back.
abbrev pub all_back : World → World
all_back w = record w { pool = pool_recalled w.pool }

-- The pool sees the word, and closes what need not be searched.
abbrev pub cleared : Network → World → World
cleared P w = record w { pool = pool_swept P w.pool w.word }

-- What an action may answer, and the world that it leaves.
abbrev pub Acts : Network → World → Action → Reply → World → Type 0
Acts P w (Look i) r new = MatchOption (view_at w.views i) (Answers Idle w r new) (λ view. Answers (Seen w.word) (looked w i view) r new)
Acts P w (Lower i found) r new = MatchOption (view_at w.views i) (Answers Idle w r new) (λ view. Answers (Seen (min w.word (price P found))) (lowered P w i found view) r new)
Acts P w (Note i) r new = MatchOption (view_at w.views i) (Answers Idle w r new) (λ view. Answers (Noted (length w.notes)) (noted w view) r new)
Acts P w (Meet i) r new = MatchOption (view_at w.views i) (Answers Idle w r new) (λ view. Answers Done (met P w i view) r new)
Acts P w (Take i want) r new = Takes P w i want r new
Acts P w (Give piece note) r new = Gives w piece note r new
Acts P w (Back task) r new = Returns w task r new
Acts P w Recall r new = Answers Done (all_back w) r new
Acts P w Sweep r new = Answers Done (cleared P w) r new

-- A list of actions from a world on, with the answers and the world at the end.
abbrev pub Runs : Network → World → List Action → List Reply → World → Type 0
Runs P w [] [] new = new ≡ w
Runs P w [] (r ∷ replies) new = ⊥
Runs P w (action ∷ actions) [] new = ⊥
Runs P w (action ∷ actions) (r ∷ replies) new = (between : World) × Acts P w action r between × Runs P between actions replies new

abbrev pub AreActions : Network → List Action → Type 0
AreActions P [] = Unit {0}
AreActions P (action ∷ actions) = IsAction P action × AreActions P actions
