-- What is due, and what looking at it makes of it.
use Rattle.std.specs.Prelude.{ℕ, ◌<◌, ◌⊎◌, length, Option, Some, None}
use Rattle.cfn_model.specs.Network.{Network}
use Rattle.cfn_store.specs.Standing.{Standing, history}
use Rattle.cfn_due.specs.Dues.{Dues, NothingWaits, waiting, Holds}
use Rattle.cfn_due.specs.Resting.{Resting, AreSure}
use Rattle.cfn_due.specs.Siding.{Siding, AreSupported}
use Rattle.cfn_gain.specs.Calls.{IsUnchanged, Grows}

-- A network, what is due in a store of it, and what is known of values that rest and of supports.
pub record Revising : Type 0 where
  pub network : Network
  pub due : Dues
  pub rests : Resting
  pub sides : Siding

-- What does not wait is consistent in a store.
abbrev pub HoldsIn : Standing → Dues → Type 0
HoldsIn s due = Holds s.network (history s) due

-- What is sure of values that rest is so in a store.
abbrev pub IsSureIn : Standing → Resting → Type 0
IsSureIn s rests = AreSure s.network (history s) rests

-- And what is known of supports.
abbrev pub IsKnownIn : Standing → Siding → Type 0
IsKnownIn s sides = AreSupported s.network (history s) sides

-- After one look what does not wait is consistent; steps were made, or less waits.
pub record IsRevised (before after : Standing) (old new : Dues) : Type 0 where
  pub holds : HoldsIn after new
  pub sooner : Grows before after ⊎ (IsUnchanged before after × (waiting new < waiting old))

-- After some of them steps were made, or nothing waits.
pub record IsRunOut (before after : Standing) (new : Dues) : Type 0 where
  pub holds : HoldsIn after new
  pub why : Grows before after ⊎ NothingWaits new
