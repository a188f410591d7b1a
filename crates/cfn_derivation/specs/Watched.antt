-- What is known of a store before a derivation, so that not all of it need be looked at.
use Rattle.std.specs.Prelude.{◌≡◌, ℕ, ◌<◌, ◌≤◌, List, length, pos, ◌≤ℤ◌, IsTrue, IsFalse}
use Rattle.cfn_model.specs.declared.step.Event.{Event}
use Rattle.cfn_model.specs.declared.step.Step.{Step}
use Rattle.cfn_model.specs.declared.step.Step.TheVariants.{Project, Extend, Lift, CutValue, CutTuple}
use Rattle.cfn_model.specs.Network.{Network, variable_at}
use Rattle.cfn_model.specs.Sums.{unary, is_live}
use Rattle.cfn_model.specs.Steps.{IsValue}
use Rattle.cfn_queue.specs.Waiting.{Waiting, is_in}
use Rattle.cfn_consistency.specs.declared.deletion.Deletion.{Deletion}
use Rattle.cfn_consistency.specs.Openness.{TakesPart}
use Rattle.cfn_consistency.specs.Consistency.{IsArcConsistent}
use Rattle.cfn_derivation.specs.Derived.{value_count}
use Rattle.cfn_derivation.specs.Working.{Work}

-- A network, the functions that may not be arc consistent, the variables that may have a live value of unary cost q or more,
-- and the deletions of the newest derivation.
pub record Watch : Type 0 where
  pub network : Network
  pub touched : Waiting
  pub costly : Waiting
  pub deletions : List Deletion

-- A function that takes part and is not among the touched ones is arc consistent.
abbrev pub TouchedAre : Network → List Event → List ℕ → Type 0
TouchedAre P history touched = (f : ℕ) → IsFalse (is_in f touched) → TakesPart P history f → IsArcConsistent P history f

-- A variable with a live value of unary cost q or more is among the costly ones.
abbrev pub CostlyAre : Network → List Event → ℕ → List ℕ → Type 0
CostlyAre P history q costly = (x a : ℕ) → IsValue P x a → IsTrue (is_live history x a) → pos q ≤ℤ unary P history x a → IsTrue (is_in x costly)

pub record IsWatched (P : Network) (history : List Event) (watch : Watch) (q : ℕ) : Type 0 where
  pub functions : TouchedAre P history watch.touched.items
  pub variables : CostlyAre P history q watch.costly.items

-- A live value of x has a unary cost of q or more.
pub record HasCostly (P : Network) (history : List Event) (q x : ℕ) : Type 0 where
  pub value : ℕ
  pub is : IsValue P x value
  pub live : IsTrue (is_live history x value)
  pub high : pos q ≤ℤ unary P history x value

-- The listed variables have one.
abbrev pub AreCostly : Network → List Event → ℕ → List ℕ → Type 0
AreCostly P history q costly = (x : ℕ) → IsTrue (is_in x costly) → HasCostly P history q x

-- A step raises a unary cost of x.
abbrev pub Rises : Network → Step → ℕ → Type 0
Rises P (Project f i a m) x = variable_at P f i ≡ x
Rises P (Extend f i a m) x = ⊥
Rises P (Lift y m) x = ⊥
Rises P (CutValue y a) x = ⊥
Rises P (CutTuple f c) x = ⊥

-- What goes is listed, and what was listed is so.
pub record Grows (Goes : ℕ → Type 0) (old new : Waiting) : Type 0 where
  pub size : new.size ≡ old.size
  pub stays : (i : ℕ) → IsTrue (is_in i old.items) → IsTrue (is_in i new.items)
  pub listed : (i : ℕ) → Goes i → IsTrue (is_in i new.items)

-- A list of all numbers below a size.
pub record IsFilled (size : ℕ) (queue : Waiting) : Type 0 where
  pub size_is : queue.size ≡ size
  pub all : (i : ℕ) → i < size → IsTrue (is_in i queue.items)

-- There is room for each function, each variable and each value.
pub record HasSizes (P : Network) (work : Work) (touched costly : Waiting) : Type 0 where
  pub touched_is : touched.size ≡ length P.functions
  pub costly_is : costly.size ≡ length P.sizes
  pub waiting_is : work.waiting.size ≡ length P.sizes
  pub room_is : value_count P ≤ work.room
