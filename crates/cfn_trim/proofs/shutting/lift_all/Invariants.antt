use Rattle.std.proofs.Common.{◌≡◌, ℕ, List}
use Rattle.cfn_trim.specs.Shifting.{IsShutting}
use Rattle.cfn_trim.proofs.shutting.lift_all.Given as goal

abbrev pub invariant-loop-x : goal.invariant-loop-x
invariant-loop-x l = (l.store.network ≡ l.initial.store.network) × ((values : List ℕ) → IsShutting l.initial.store l.initial.store values l.k 0 0 → IsShutting l.initial.store l.store values l.k l.x 0)
