-- What contracts see of the ends of a lane.
use Rattle.std.specs.Prelude.{◌≡◌, ℕ, ◌+◌, List, [], ◌∷◌, ◌++◌, map, length, All}
use Rattle.atomic_blocks.specs.Lent.{RowsId}

-- Which lane it is, for how many pushes it has room, how many parts its worker's end has, and what that end has pushed and taken.
pub record Owned (T : Type 0) : Type 0 where
  pub lane : RowsId
  pub room : ℕ
  pub parts : ℕ
  pub pushed : List T
  pub taken : List T

-- Which lane it is, and what this end has taken from it.
pub record Stolen (T : Type 0) : Type 0 where
  pub lane : RowsId
  pub taken : List T

-- Nothing was pushed to this lane or taken by its worker, and it has so much room.
pub record IsNew {T : Type 0} (room : ℕ) (lane : Owned T) : Type 0 where
  pub room_is : lane.room ≡ room
  pub pushed : lane.pushed ≡ []
  pub taken : lane.taken ≡ []

-- The ends of one worker: that of its own lane, and those that steal, one for each worker's lane in the order of the workers.
pub record EndsValue (T : Type 0) : Type 0 where
  pub lane : Owned T
  pub thieves : List (Stolen T)

-- One of some thieves took this task, and the others took nothing.
pub record OneTook {T : Type 0} (task : T) (old new : List (Stolen T)) : Type 0 where
  pub before : List (Stolen T)
  pub thief : Stolen T
  pub behind : List (Stolen T)
  pub was : old ≡ before ++ thief ∷ behind
  pub is : new ≡ before ++ record thief { taken = thief.taken ++ task ∷ [] } ∷ behind

-- A thief of a worker took this task, and no other end of that worker took anything.
abbrev pub Steals : {T : Type 0} → T → EndsValue T → EndsValue T → Type 0
Steals task old new = (new ≡ record old { thieves = new.thieves }) × OneTook task old.thieves new.thieves

-- A worker popped this task from its own lane, and stole none.
abbrev pub Pops : {T : Type 0} → T → EndsValue T → EndsValue T → Type 0
Pops task old new = new ≡ record old { lane = record old.lane { taken = old.lane.taken ++ task ∷ [] } }

-- Which lanes some thieves steal from.
abbrev pub lanes_of : {T : Type 0} → List (Stolen T) → List RowsId
lanes_of {T} thieves = map (λ (t : Stolen T). t.lane) thieves

-- Of which lanes the ends of one worker are: its own, with so many parts, and those that it steals from.
pub record Access : Type 0 where
  pub own : RowsId
  pub parts : ℕ
  pub others : List RowsId

abbrev pub access : {T : Type 0} → EndsValue T → Access
access e = record { own = e.lane.lane; parts = e.lane.parts; others = lanes_of e.thieves }

-- The own lanes of some workers.
abbrev pub own_lanes : List Access → List RowsId
own_lanes all = map (λ (a : Access). a.own) all

-- A worker steals from these lanes, and its own lane's end has all parts but one for each.
pub record IsOneOf (lanes : List RowsId) (a : Access) : Type 0 where
  pub others : a.others ≡ lanes
  pub parts : a.parts + length lanes ≡ 128

-- These are all ends of the lanes of some workers: each steals from all their lanes, in the order of the workers.
abbrev pub AreAll : List Access → Type 0
AreAll all = All (IsOneOf (own_lanes all)) all

-- The last of some thieves joins the end of a lane, and the others are left.
pub record Absorbs {T : Type 0} (old new : Owned T) (thieves left : List (Stolen T)) : Type 0 where
  pub thief : Stolen T
  pub last : thieves ≡ left ++ thief ∷ []
  pub joined : new ≡ record old { parts = old.parts + 1; taken = old.taken ++ thief.taken }

-- The last thief, of another lane, is gone, and the own lane's end has one part more.
pub record Meets (old new : Access) (other : RowsId) : Type 0 where
  pub own : new.own ≡ old.own
  pub parts : new.parts ≡ old.parts + 1
  pub others : old.others ≡ new.others ++ other ∷ []

-- A list ends with this.
abbrev pub EndsWith : {X : Type 0} → List X → X → Type 0
EndsWith {X} xs x = (rest : List X) × (xs ≡ rest ++ x ∷ [])
