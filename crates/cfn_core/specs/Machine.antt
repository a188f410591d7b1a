-- What contracts see of the machine that runs: its network, and the world as the definitions have it, with the pool as
-- its leaves and a view.
use Rattle.std.specs.Prelude.{◌≡◌, ℕ, ◌<◌, List, length, slice_index_or, Option, Some, None, if◌then◌else◌}
use Rattle.std.specs.List.{AllByRecursion}
use Rattle.cfn_model.specs.Certificate.{Solution}
use Rattle.cfn_model.specs.Network.{Network, IsNetwork}
use Rattle.cfn_net.specs.Scoring.{Scoring}
use Rattle.cfn_machine.specs.Pool.{Task, View, cheaper, AreNumbered}
use Rattle.cfn_core.specs.declared.seat.Seat.{Seat}
use Rattle.cfn_core.specs.declared.action.Action.{Action}
use Rattle.cfn_core.specs.declared.action.Action.TheVariants.{Look, Lower, Note, Meet, Take, Give, Back, Recall, Sweep}
use Rattle.cfn_core.specs.declared.action.Reply.{Reply}
use Rattle.cfn_core.specs.declared.action.Reply.TheVariants.{Idle, Seen, Noted, Given, Empty, Spent, Again, Gone, NotOut, Done}
use Rattle.cfn_core.specs.World.{World}
use Rattle.cfn_core.specs.Actions as actions
use Rattle.cfn_core.specs.Laws.{IsWorld, IsHanded}
use Rattle.cfn_leaves.specs.Value.{Holding as Leaves, pool_of}
use Rattle.cfn_explore.specs.Values.{piece_of}

-- The network, the pool's leaves and its view, the word, the views of it, the notes and the tasks in hand.
pub record Machine : Type 0 where
  pub network : Network
  pub leaves : Leaves
  pub view : View
  pub word : ℕ
  pub views : List (Option View)
  pub notes : List (Option ℕ)
  pub hands : List Task

-- The world that it is in.
abbrev pub world_of : Machine → World
world_of m = record {
  pool = pool_of m.leaves m.view;
  word = m.word;
  views = m.views;
  notes = m.notes;
  hands = m.hands;
}

-- The assignment that is held, if one is, and the view that a seat holds, if it is not met.
abbrev pub found_of : Option Solution → Option (List ℕ)
found_of None = None
found_of (Some held) = Some held.values

abbrev pub seat_of : Seat → Option View
seat_of seat = if seat.met then None else Some (record { best = found_of seat.best.held; seen = seat.seen; shares = 1 })

-- A worker's seat.
pub record IsSeat (seats : List Seat) (i : ℕ) (seat : Seat) : Type 0 where
  pub there : i < length seats
  pub is : slice_index_or seats i seat ≡ seat

-- A seat after an assignment was offered to it.
pub record IsOffered (seat : Seat) (found : Scoring) (threshold : ℕ) (new : Seat) : Type 0 where
  pub met : new.met ≡ seat.met
  pub seen : new.seen ≡ threshold
  pub network : new.best.network ≡ seat.best.network
  pub best : found_of new.best.held ≡ cheaper found.network (found_of seat.best.held) (found_of found.held)

-- What an action and an answer are by the definitions.
abbrev pub action_of : Action → actions.Action
action_of (Look worker) = actions.Look worker
action_of (Lower worker found) = actions.Lower worker (found_of found.held)
action_of (Note worker) = actions.Note worker
action_of (Meet worker) = actions.Meet worker
action_of (Take worker want) = actions.Take worker want
action_of (Give piece note) = actions.Give (piece_of piece) note
action_of (Back task) = actions.Back task.task
action_of Recall = actions.Recall
action_of Sweep = actions.Sweep

abbrev pub reply_of : Reply → actions.Reply
reply_of Idle = actions.Idle
reply_of (Seen threshold) = actions.Seen threshold
reply_of (Noted note) = actions.Noted note
reply_of (Given task) = actions.Given task.task
reply_of Empty = actions.Empty
reply_of Spent = actions.Spent
reply_of Again = actions.Again
reply_of Gone = actions.Gone
reply_of NotOut = actions.NotOut
reply_of Done = actions.Done

-- What an action brings is of the network.
abbrev pub IsOf : Network → Action → Type 0
IsOf P (Look worker) = Unit {0}
IsOf P (Lower worker found) = found.network ≡ P
IsOf P (Note worker) = Unit {0}
IsOf P (Meet worker) = Unit {0}
IsOf P (Take worker want) = Unit {0}
IsOf P (Give piece note) = piece.network ≡ P
IsOf P (Back task) = Unit {0}
IsOf P Recall = Unit {0}
IsOf P Sweep = Unit {0}

-- The task that an answer hands out is of the network.
abbrev pub IsReplyOf : Network → Reply → Type 0
IsReplyOf P Idle = Unit {0}
IsReplyOf P (Seen threshold) = Unit {0}
IsReplyOf P (Noted note) = Unit {0}
IsReplyOf P (Given task) = task.network ≡ P
IsReplyOf P Empty = Unit {0}
IsReplyOf P Spent = Unit {0}
IsReplyOf P Again = Unit {0}
IsReplyOf P Gone = Unit {0}
IsReplyOf P NotOut = Unit {0}
IsReplyOf P Done = Unit {0}

-- A machine keeps what every world keeps, and its leaves are of its network.
pub record IsMachine (m : Machine) : Type 0 where
  pub network : IsNetwork m.network
  pub leaves : m.leaves.network ≡ m.network
  pub world : IsWorld m.network (world_of m)
  pub numbered : AreNumbered (world_of m).pool
  pub handed : IsHanded m.network (world_of m)

-- The assignments that are kept are of the network.
abbrev pub IsSeatOf : Network → Seat → Type 0
IsSeatOf P seat = seat.best.network ≡ P

-- What the type of the running machine keeps.
pub record IsInside (m : Machine) (best : Scoring) (seats : List Seat) : Type 0 where
  pub machine : IsMachine m
  pub own : best.network ≡ m.network
  pub each : AllByRecursion (IsSeatOf m.network) seats
