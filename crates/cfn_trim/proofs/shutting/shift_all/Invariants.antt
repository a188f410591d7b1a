use Rattle.std.proofs.Common.{◌≡◌, ℕ, List, length}
use Rattle.cfn_store.specs.Standing.{Standing}
use Rattle.cfn_trim.specs.Shifting.{IsShutting}
use Rattle.cfn_trim.proofs.shutting.shift_all.Given as goal

abbrev pub invariant-loop-f : goal.invariant-loop-f
invariant-loop-f l = (l.store.network ≡ l.initial.store.network) × ((before : Standing) (values : List ℕ) → IsShutting before l.initial.store values l.k (length l.initial.store.network.sizes) 0 → IsShutting before l.store values l.k (length l.initial.store.network.sizes) l.f)
