-- The side by which a store stands behind a place where the network was fully consistent.
use Rattle.std.proofs.Common.{◌≡◌, List, ◌∷◌, refl, sym, ◌∙◌, subst}
use Rattle.std.specs.Prelude.{Bool, true, false, Option, None, Some, IfSome}
use Rattle.cfn_model.specs.declared.step.Event.{Event}
use Rattle.cfn_model.specs.Network.{Network}
use Rattle.cfn_store.specs.Standing.{Standing, history}
use Rattle.cfn_consistency.specs.Consistency.{AreFullyConsistent}
use Rattle.cfn_edac.specs.Settling.{IsBehindSettled}
use Rattle.cfn_dive.specs.Enforcing.{IsSettledAt, since_of}

-- a store that stands at the same place stands behind the same one
behind_moved : (event : Event) (s t : Standing) → s.network ≡ t.network → history s ≡ history t → IsBehindSettled s event → IsBehindSettled t event
behind_moved event s t network way is = record {
  before = is.before;
  threshold = is.threshold;
  path = sym way ∙ is.path;
  settled = subst (λ P. AreFullyConsistent P is.before is.threshold) network is.settled;
}

pub since_moved : (since : Option Event) (s t : Standing) → s.network ≡ t.network → history s ≡ history t → IfSome since (IsBehindSettled s) → IfSome since (IsBehindSettled t)
since_moved None s t network way is = tt
since_moved (Some event) s t network way is = behind_moved event s t network way is

-- and behind the place of a split, where it was fully consistent there
pub since_split : (settled : Bool) (side : Event) (now : Standing) (before : List Event) → history now ≡ side ∷ before → (settled ≡ true → IsSettledAt now.network before) → IfSome (since_of settled side) (IsBehindSettled now)
since_split false side now before way is = tt
since_split true side now before way is = record { before = before; threshold = (is refl).0; path = way; settled = (is refl).1 }

pub settled_moved : (P Q : Network) (h g : List Event) → P ≡ Q → h ≡ g → IsSettledAt P h → IsSettledAt Q g
settled_moved P Q h g network way is = (is.0, subst (λ p. AreFullyConsistent p g is.0) network (subst (λ path. AreFullyConsistent P path is.0) way is.1))
