-- What can be made is allowed, and a variable with no live value closes a leaf.
use Rattle.std.proofs.Common.{◌≡◌, ℕ, ◌<◌, inr, length}
use Rattle.cfn_model.specs.declared.step.Step.{Step}
use Rattle.cfn_model.specs.declared.step.Step.TheVariants.{Project, Extend, Lift, CutValue, CutTuple}
use Rattle.cfn_model.specs.Steps.{Allowed}
use Rattle.cfn_model.specs.Tree.{CanClose}
use Rattle.cfn_rows.specs.Sets.{live_count}
use Rattle.cfn_rows.proofs.CallerLemmas.{live_below_none}
use Rattle.cfn_store.specs.Standing.{Standing, history}
use Rattle.cfn_store.specs.Rooms.{sets_of}
use Rattle.cfn_trim.specs.Making.{CanMake}

pub can_allowed : (s : Standing) (k : ℕ) (step : Step) → CanMake s k step → Allowed s.network (history s) k step
can_allowed s k (Project f i a m) can = (can.place, can.some, can.enough)
can_allowed s k (Extend f i a m) can = (can.place, can.some, can.enough)
can_allowed s k (Lift x m) can = (can.variable, can.some, can.enough)
can_allowed s k (CutValue x a) can = can
can_allowed s k (CutTuple f c) can = can

pub wiped : (s : Standing) (k x : ℕ) → x < length s.network.sizes → live_count (sets_of s) x ≡ 0 → CanClose s.network (history s) k
wiped s k x variable none = inr (x, variable, λ a l. live_below_none (history s) x _ a none l)
