-- What an expansion leaves of the weights of functions.
use Rattle.std.proofs.Common.{◌≡◌, ℕ, ◌≤◌, ◌⊎◌, true, false, inl, inr, Bool, List, length, subst}
use Rattle.std.specs.Prelude.{Result, Ok, Err, OnOk}
use Rattle.cfn_model.specs.declared.step.Event.{Event}
use Rattle.cfn_model.specs.Network.{Network}
use Rattle.cfn_model.specs.Steps.{Run, after}
use Rattle.cfn_model.specs.Tree.{CanClose}
use Rattle.cfn_consistency.specs.Consistency.{AreFullyConsistent}
use Rattle.cfn_store.specs.Standing.{Standing, history}
use Rattle.cfn_branch.specs.Weighing.{Blames}
use Rattle.cfn_dive.specs.Blaming.{IsWeighed}
use Rattle.cfn_dive.specs.Growing.{InGroups}
use Rattle.cfn_dive.specs.Limit.{step_limit}
use Rattle.cfn_dive.specs.Diving.{IsSettledOrSpent}

-- what was made is so
pub on_ok : {A E : Type 0} (result : Result A E) (X : Type 0) → X → OnOk result X
on_ok (Ok a) X x = x
on_ok (Err e) X x = tt

-- a dead leaf blames the function of the newest project, where there is one
pub weighed_dead : (P : Network) (s : Standing) (path : List Event) (k least most : ℕ) (old mid new : List ℕ) → s.network ≡ P → s.base ≡ path → Run P s.base s.block k → InGroups s.network s.base s.block → CanClose s.network (history s) k → mid ≡ old → Blames s.block mid new → least ≤ k → k ≤ most → IsWeighed P path least most old new
weighed_dead P s path k least most old mid new network base runs groups closes same blames above below = record {
  threshold = k;
  above = above;
  below = below;
  steps = s.block;
  runs = subst (λ h. Run P h s.block k) base runs;
  groups = subst (λ h. InGroups P h s.block) base (subst (λ Q. InGroups Q s.base s.block) network groups);
  ends = inl (subst (λ h. CanClose P (after s.block h) k) base (subst (λ Q. CanClose Q (history s) k) network closes), subst (λ w. Blames s.block w new) same blames);
}

settled_or_spent : (P : Network) (s : Standing) (k : ℕ) (settled : Bool) → s.network ≡ P → IsSettledOrSpent settled s k → AreFullyConsistent P (history s) k ⊎ (step_limit P ≤ length s.block)
settled_or_spent P s k true network is = inl (subst (λ Q. AreFullyConsistent Q (history s) k) network is)
settled_or_spent P s k false network is = inr (subst (λ Q. step_limit Q ≤ length s.block) network is)

-- where a leaf is not dead no function is to blame
pub weighed_alive : (P : Network) (s : Standing) (path : List Event) (k least most : ℕ) (settled : Bool) (old new : List ℕ) → s.network ≡ P → s.base ≡ path → Run P s.base s.block k → InGroups s.network s.base s.block → IsSettledOrSpent settled s k → (CanClose s.network (history s) k → ⊥) → new ≡ old → least ≤ k → k ≤ most → IsWeighed P path least most old new
weighed_alive P s path k least most settled old new network base runs groups is alive same above below = record {
  threshold = k;
  above = above;
  below = below;
  steps = s.block;
  runs = subst (λ h. Run P h s.block k) base runs;
  groups = subst (λ h. InGroups P h s.block) base (subst (λ Q. InGroups Q s.base s.block) network groups);
  ends = inr (subst (λ h. AreFullyConsistent P (after s.block h) k ⊎ (step_limit P ≤ length s.block)) base (settled_or_spent P s k settled network is), subst (λ h. CanClose P (after s.block h) k → ⊥) base (subst (λ Q. CanClose Q (history s) k → ⊥) network alive), same);
}
