-- What a search asks of propagation.
use Rattle.std.specs.Prelude.{◌≡◌, ℕ, zero, suc, ◌<◌, ◌≤◌, Bool, true, false, List, ◌++◌, length, slice_index, Option, Some, None, IsTrue}
use Rattle.cfn_model.specs.declared.step.Step.{Step}
use Rattle.cfn_model.specs.declared.step.Event.{Event}
use Rattle.cfn_model.specs.Network.{Network}
use Rattle.cfn_model.specs.Sums.{is_live}
use Rattle.cfn_model.specs.Steps.{IsValue, Run}
use Rattle.cfn_model.specs.Tree.{CanClose}
use Rattle.cfn_consistency.specs.Consistency.{AreFullyConsistent}
use Rattle.cfn_gain.specs.declared.settling.Settling.{Settling}
use Rattle.cfn_gain.specs.declared.settling.Settling.TheVariants.{Settled, Dead, Spent}
use Rattle.cfn_store.specs.Standing.{Standing, history}
use Rattle.cfn_gain.specs.Gains.{Gained, IsOpen}
use Rattle.cfn_vac.specs.Roots.{HasLifted}

-- Between two standings there are steps alone, which run at k.
pub record GoesOn (before now : Standing) (k : ℕ) : Type 0 where
  pub network : now.network ≡ before.network
  pub base : now.base ≡ before.base
  pub steps : List Step
  pub block : now.block ≡ before.block ++ steps
  pub runs : Run before.network (history before) steps k

-- The one live value of each variable is an assignment's.
pub record OnlyOf (P : Network) (history : List Event) (values : List ℕ) : Type 0 where
  pub live : (x : ℕ) → x < length P.sizes → IsTrue (is_live history x (slice_index values x))
  pub each : (x a : ℕ) → IsValue P x a → IsTrue (is_live history x a) → a ≡ slice_index values x

-- What is found at a leaf: it is dead; or it is fully consistent, and not dead; or it is neither.
abbrev pub Finds : Network → List Event → ℕ → Settling → Type 0
Finds P history k Settled = AreFullyConsistent P history k × (CanClose P history k → ⊥)
Finds P history k Dead = CanClose P history k
Finds P history k Spent = (CanClose P history k → ⊥) × (AreFullyConsistent P history k → ⊥)

-- The steps that were added fall into groups, each of which gains something. Where the store is not fully consistent the last
-- one may be unfinished.
abbrev pub Groups : Standing → Standing → Settling → Type 0
Groups before now Settled = Gained before now
Groups before now Dead = IsOpen before now
Groups before now Spent = IsOpen before now

-- A standing differs from another one at most in how many more events it has room for.
pub record IsAtPlace (before now : Standing) : Type 0 where
  pub network : now.network ≡ before.network
  pub base : now.base ≡ before.base
  pub block : now.block ≡ before.block

-- A round at the root: lifts by virtual arc consistency, and then groups, the last of which may be unfinished.
pub record IsRound (P : Network) (before now : Standing) : Type 0 where
  pub start : Standing
  pub at : IsAtPlace before start
  pub lifted : Standing
  pub lifts : HasLifted P start lifted
  pub groups : IsOpen lifted now

-- A number of rounds one after another.
abbrev pub AreRounds : Network → ℕ → Standing → Standing → Type 0
AreRounds P zero before now = IsAtPlace before now
AreRounds P (suc n) before now = (mid : Standing) × AreRounds P n before mid × IsRound P mid now

-- What is enforced at the root: groups, the last of which may be unfinished, and then four rounds at most.
pub record IsRooted (P : Network) (before now : Standing) : Type 0 where
  pub settled : Standing
  pub groups : IsOpen before settled
  pub rounds : ℕ
  pub few : rounds ≤ 4
  pub are : AreRounds P rounds settled now

-- Where it is neither, the block has at least so many steps.
abbrev pub IsSpent : ℕ → Standing → Settling → Type 0
IsSpent steps s Settled = Unit {0}
IsSpent steps s Dead = Unit {0}
IsSpent steps s Spent = steps ≤ length s.block

-- At a place the network was fully consistent at some threshold.
abbrev pub IsSettledAt : Network → List Event → Type 0
IsSettledAt P history = (k : ℕ) × AreFullyConsistent P history k

-- The side of a split that leads on from such a place, if it is one.
abbrev pub since_of : Bool → Event → Option Event
since_of true side = Some side
since_of false side = None
