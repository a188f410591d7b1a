use Rattle.std.proofs.Common.{◌≡◌, ◌⊎◌, ℕ, ◌-◌, ◌<◌, ◌≤◌, List, length, take, get_or}
use Rattle.cfn_model.specs.Network.{Fits, cost}
use Rattle.cfn_plain.proofs.costs.+least_from.Given as goal

-- how many variables have no value yet
abbrev pub decreases-least_from : goal.decreases-least_from
decreases-least_from l = length l.network.now.sizes - l.x

-- the least so far is at most the costs of the assignments with a smaller value of x
abbrev pub invariant-loop-value : goal.invariant-loop-value
invariant-loop-value l = record {
  fits : Fits l.network.sizes l.values;
  before : take l.x l.values ≡ take l.x l.initial.values;
  below : l.least ≤ l.best;
  bound : (other : List ℕ) → Fits l.network.sizes other → take l.x other ≡ take l.x l.initial.values → get_or other l.x 0 < l.value → l.least ≤ cost l.network other;
  reached : (l.least ≡ l.best) ⊎ ((other : List ℕ) × Fits l.network.sizes other × (cost l.network other ≡ l.least));
}
