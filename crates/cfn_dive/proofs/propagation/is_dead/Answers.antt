use Rattle.std.proofs.Common.{ℕ, ◌<◌, length, subst, arith}
use Rattle.cfn_gain.specs.Passes.{HasLive}
use Rattle.cfn_gain.proofs.CallerLemmas.{not_dead}
use Rattle.cfn_store.specs.Standing.{history}
use Rattle.cfn_dive.proofs.propagation.is_dead.Goals as goal

pub returns-else-floor-from-clause-alive : goal.returns-else-floor-from-clause-alive
returns-else-floor-from-clause-alive c = λ none.
    let s = c.args.store.now in
    let below = c.if-floor-from.false in
    not_dead s.network (history s) c.args.k (omega (arith, below, c.floor.ensures, c.from.ensures))
    (subst (λ P. (y : ℕ) → y < length P.sizes → HasLive P (history s) y) c.network.ensures (c.is_wiped.ensures.some none))
