-- What a machine keeps.
use Rattle.std.proofs.Common.{◌≡◌, ℕ, ◌≤◌, ◌∙◌, List, [], ◌∷◌, ◌++◌, refl, sym, subst}
use Rattle.std.specs.List.{AllByRecursion}
use Rattle.cfn_model.specs.Network.{Network, IsNetwork}
use Rattle.cfn_machine.specs.Pool.{AreNumbered}
use Rattle.cfn_core.specs.World.{World, opening}
use Rattle.cfn_core.specs.Actions.{Action, Reply, IsAction, Acts, Runs}
use Rattle.cfn_core.specs.Laws.{IsWorld, IsHanded}
use Rattle.cfn_core.specs.Machine.{Machine, world_of, IsMachine}
use Rattle.cfn_core.proofs.Keeping.{opens, keeps}
use Rattle.cfn_core.proofs.Handing.{opens_numbered, keeps_numbered, opens_handed, keeps_handed}

-- the opening
pub is_opened : (P : Network) (workers budget : ℕ) (m : Machine) → m.network ≡ P → m.leaves.network ≡ P → world_of m ≡ opening P workers budget → IsNetwork P → workers ≤ 64 → IsMachine m
is_opened P workers budget m network leaves world is few = record {
  network = subst IsNetwork (sym network) is;
  leaves = leaves ∙ sym network;
  world = subst (λ Q. IsWorld Q (world_of m)) (sym network) (subst (IsWorld P) (sym world) (opens P workers budget is few));
  numbered = subst (λ (w : World). AreNumbered w.pool) (sym world) (opens_numbered P workers budget);
  handed = subst (λ Q. IsHanded Q (world_of m)) (sym network) (subst (IsHanded P) (sym world) (opens_handed P workers budget));
}

-- a machine after an action
pub acted : (m new : Machine) (a : Action) (r : Reply) → IsMachine m → IsAction m.network a → Acts m.network (world_of m) a r (world_of new) → new.network ≡ m.network → new.leaves.network ≡ m.leaves.network → IsMachine new
acted m new a r is brings acts network leaves = record {
  network = subst IsNetwork (sym network) is.network;
  leaves = leaves ∙ is.leaves ∙ sym network;
  world = subst (λ P. IsWorld P (world_of new)) (sym network) (keeps m.network (world_of m) (world_of new) a r brings is.world acts);
  numbered = keeps_numbered m.network (world_of m) (world_of new) a r is.numbered acts;
  handed = subst (λ P. IsHanded P (world_of new)) (sym network) (keeps_handed m.network (world_of m) (world_of new) a r is.numbered is.handed acts);
}

-- a list of actions and one more
pub runs_more : (P : Network) (actions : List Action) (replies : List Reply) (w between new : World) (a : Action) (r : Reply) → Runs P w actions replies between → Acts P between a r new → Runs P w (actions ++ a ∷ []) (replies ++ r ∷ []) new
runs_more P [] [] w between new a r runs acts = (new, subst (λ b. Acts P b a r new) runs acts, refl)
runs_more P [] (y ∷ replies) w between new a r runs acts = absurd runs
runs_more P (x ∷ actions) [] w between new a r runs acts = absurd runs
runs_more P (x ∷ actions) (y ∷ replies) w between new a r runs acts = (runs.0, runs.1, runs_more P actions replies runs.0 between new a r runs.2 acts)

-- a fact of each of a list and of one more
pub each_more : {X : Type 0} (Q : X → Type 0) (xs : List X) (x : X) → AllByRecursion Q xs → Q x → AllByRecursion Q (xs ++ x ∷ [])
each_more Q [] x each own = (own, tt)
each_more Q (y ∷ xs) x each own = (each.0, each_more Q xs x each.1 own)
