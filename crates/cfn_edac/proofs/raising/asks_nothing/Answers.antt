use Rattle.std.proofs.Common.{◌≡◌, sym, ◌∙◌, subst, length, arith}
use Rattle.std.proofs.lemmas.Bool.{eqb-true}
use Rattle.cfn_store.specs.Standing.{history}
use Rattle.cfn_edac.specs.Asking.{Asks}
use Rattle.cfn_edac.proofs.Amounts.{good_of_asks}
use Rattle.cfn_edac.proofs.raising.asks_nothing.Goals as goal

pub returns-then-is_live : goal.returns-then-is_live
returns-then-is_live c = λ zero.
    let s = c.args.store.now in
    let none : c.asked.result ≡ 0 = eqb-true c.asked.result 0 zero in
    good_of_asks s.network (history s) c.args.x c.args.pairs.now c.args.value c.requires.value (sym c.is_live.ensures ∙ c.if-is_live.true)
    (subst (Asks s.network (history s) c.args.x c.args.pairs.now c.args.value (length c.args.pairs.now)) none (c.asked.ensures.is (omega (arith, none))))
