-- A variable with no live value closes a leaf.
use Rattle.std.proofs.Common.{◌<◌, length, eqb-true, inr, sym, ap, ◌∙◌, arith}
use Rattle.cfn_rows.proofs.CallerLemmas.{live_below_none}
use Rattle.cfn_store.specs.Standing.{history}
use Rattle.cfn_enforcing_tests.proofs.trimming.closes.Goals as goal

pub returns-then-variables-gt0 : goal.returns-then-variables-gt0
returns-then-variables-gt0 c zero =
    let same = ap (λ P. length P.sizes) c.network.ensures in
    let variable : 0 < length c.args.store.now.network.sizes = omega (arith, c.if-variables-gt0.true, c.variables.ensures, same) in
    let none = sym c.count.ensures ∙ eqb-true c.count.result 0 zero in
    inr (0, variable, λ a l. live_below_none (history c.args.store.now) 0 _ a none l)
