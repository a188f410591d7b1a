-- The leaf of one assignment, and the shifts that close it.
use Rattle.std.proofs.Common.{◌≡◌, ℕ, ◌<◌, ◌≤◌, List, length, sym, subst}
use Rattle.cfn_model.specs.Network.{Network, Fits, cost}
use Rattle.cfn_model.specs.Steps.{IsValue}
use Rattle.cfn_store.specs.Standing.{Standing, history}
use Rattle.cfn_trim.specs.Leaves.{IsLeaf, AddsShifts}
use Rattle.cfn_dive.specs.Enforcing.{GoesOn, OnlyOf}

-- the leaf of one assignment
pub is_leaf : (P : Network) (s : Standing) (values : List ℕ) (k : ℕ) → s.network ≡ P → Fits P.sizes values → OnlyOf P (history s) values → k ≤ cost P values → IsLeaf s values k
is_leaf P s values k same fits only dear = record {
  fits = subst (λ (Q : Network). Fits Q.sizes values) (sym same) fits;
  live = λ x h. only.live x (subst (λ (Q : Network). x < length Q.sizes) same h);
  only = λ x a value live. only.each x a (subst (λ Q. IsValue Q x a) same value) live;
  dear = subst (λ Q. k ≤ cost Q values) (sym same) dear;
}

-- the shifts that close it run at every threshold
pub goes_by_shifts : (before now : Standing) (k : ℕ) → AddsShifts before now → GoesOn before now k
goes_by_shifts before now k adds = record {
  network = adds.network;
  base = adds.base;
  steps = adds.steps;
  block = adds.block;
  runs = adds.runs k;
}
