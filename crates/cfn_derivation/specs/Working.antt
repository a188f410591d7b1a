-- How far a derivation has come.
use Rattle.std.specs.Prelude.{◌≡◌, ℕ, ◌+◌, ◌<◌, ◌≤◌, List, [], ◌∷◌, ◌++◌, length, pos, ◌<ℤ◌, IsTrue, IsFalse}
use Rattle.cfn_model.specs.declared.step.Event.{Event}
use Rattle.cfn_model.specs.Network.{Network, arity, variable_at}
use Rattle.cfn_model.specs.Sums.{unary, is_live}
use Rattle.cfn_model.specs.Steps.{IsValue, IsPlace}
use Rattle.cfn_queue.specs.Waiting.{Waiting, is_in, with_item}
use Rattle.cfn_consistency.specs.declared.deletion.Deletion.{Deletion}
use Rattle.cfn_consistency.specs.Openness.{TakesPart}
use Rattle.cfn_consistency.specs.Virtual.{Bans, HasCheapTuple}
use Rattle.cfn_store.specs.Standing.{Standing, history}
use Rattle.cfn_derivation.specs.Derived.{live_values, IsDerived}

-- The deletions so far, the variables that lost values since their functions were looked at, and for how many deletions there
-- is room.
pub record Work : Type 0 where
  pub deletions : List Deletion
  pub waiting : Waiting
  pub room : ℕ

-- One deletion more, whose variable waits.
abbrev pub with_deletion : Work → Deletion → Work
with_deletion work d = record { deletions = work.deletions ++ d ∷ []; waiting = with_item work.waiting d.variable; room = work.room }

-- There is room to delete all that is live.
pub record HasRoom (s : Standing) (work : Work) : Type 0 where
  pub list : length work.deletions + live_values s.network (history s) ≤ work.room
  pub spare : live_values s.network (history s) ≤ s.spare
  pub size : work.waiting.size ≡ length s.network.sizes

-- What values place i of f has to delete may change with the values of x: x stands in the scope of f, and in one of two variables at
-- the other place.
abbrev pub IsBehind : Network → ℕ → ℕ → ℕ → Type 0
IsBehind P x f i = (j : ℕ) × (j < arity P f) × (variable_at P f j ≡ x) × (arity P f ≡ 2 → j ≡ i → ⊥)

-- No such variable waits.
abbrev pub NoneWaitsBehind : Network → List ℕ → ℕ → ℕ → Type 0
NoneWaitsBehind P waiting f i = (x : ℕ) → IsTrue (is_in x waiting) → IsBehind P x f i → ⊥

-- No live value of x has a unary cost of q or more, but for bans.
abbrev pub IsLow : Network → List Event → ℕ → Bans → ℕ → Type 0
IsLow P history q bans x = (a : ℕ) → IsValue P x a → IsTrue (is_live history x a) → IsFalse (bans.own x a) → unary P history x a <ℤ pos q

-- The value a at place i of f, where it is live, has a live tuple of residual cost below q, but for bans.
abbrev pub IsQuietAt : Network → List Event → ℕ → Bans → ℕ → ℕ → ℕ → Type 0
IsQuietAt P history q bans f i a = IsPlace P f i a → IsTrue (is_live history (variable_at P f i) a) → IsFalse (bans.by f i a) → HasCheapTuple P history f i a q

-- A function that takes part has nothing to delete at a place, unless a variable waits that may change it.
abbrev pub IsDone : Network → List Event → ℕ → Bans → List ℕ → ℕ → Type 0
IsDone P history q bans waiting f = TakesPart P history f → (i a : ℕ) → NoneWaitsBehind P waiting f i → IsQuietAt P history q bans f i a

-- A part of a derivation: deletions come behind those before, and their variables wait. Where no variable waits that may change
-- what a place has to delete, the function took part before where it does, and what was quiet there is.
pub record Goes (q : ℕ) (bans : Bans) (before after : Standing) (old new : Work) : Type 0 where
  pub deletions : List Deletion
  pub list : new.deletions ≡ old.deletions ++ deletions
  pub derived : IsDerived before after q bans deletions
  pub room : HasRoom after new
  pub capacity : new.room ≡ old.room
  pub waits : (x : ℕ) → IsTrue (is_in x old.waiting.items) → IsTrue (is_in x new.waiting.items)
  pub part : (f i : ℕ) → NoneWaitsBehind before.network new.waiting.items f i → TakesPart before.network (history after) f → TakesPart before.network (history before) f
  pub quiet : (f i a : ℕ) → NoneWaitsBehind before.network new.waiting.items f i → IsQuietAt before.network (history before) q bans f i a → IsQuietAt before.network (history after) q bans f i a
  pub fewer : length new.waiting.items + live_values before.network (history after) ≤ length old.waiting.items + live_values before.network (history before)

-- The same, whatever waits.
pub record Extends (q : ℕ) (bans : Bans) (before after : Standing) (old new : Work) : Type 0 where
  pub deletions : List Deletion
  pub list : new.deletions ≡ old.deletions ++ deletions
  pub derived : IsDerived before after q bans deletions
  pub room : HasRoom after new
  pub capacity : new.room ≡ old.room
