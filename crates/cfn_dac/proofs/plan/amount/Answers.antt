use Rattle.std.proofs.Common.{◌≡◌, false, sym, ◌∙◌, subst, arith}
use Rattle.std.specs.Prelude.{IsTrue}
use Rattle.cfn_model.specs.Network.{IsNetwork}
use Rattle.cfn_model.specs.Sums.{is_live}
use Rattle.cfn_store.specs.Standing.{history}
use Rattle.cfn_dac.specs.Full.{first_of}
use Rattle.cfn_dac.proofs.Places.{first_value}
use Rattle.cfn_dac.proofs.Planning.{amount_dead, amount_costly, amount_some}
use Rattle.cfn_dac.proofs.plan.amount.Goals as goal

pub returns-then-not-is_live : goal.returns-then-not-is_live
returns-then-not-is_live c =
    let s = c.args.store.now in
    amount_dead s.network (history s) c.args.pair c.args.alpha c.args.value (subst IsNetwork c.network.ensures c.law_limits.ensures) c.law_exact.ensures c.requires.pair
    (subst (λ v. is_live (history s) v c.args.value ≡ false) c.requires.view.first (sym c.is_live.ensures ∙ c.if-not-is_live.true))

pub returns-then-has-alpha : goal.returns-then-has-alpha
returns-then-has-alpha c =
    let s = c.args.store.now in let pair = c.args.pair in let net = subst IsNetwork c.network.ensures c.law_limits.ensures in
    amount_costly s.network (history s) pair c.args.alpha c.args.value c.of-has.result net c.law_exact.ensures c.requires.pair
    (c.of-has.ensures s.network (history s) (first_of s.network pair) c.requires.view.own (first_value s.network pair c.args.value net c.requires.value)) c.if-has-alpha.true

pub returns : goal.returns
returns c =
    let s = c.args.store.now in let pair = c.args.pair in let net = subst IsNetwork c.network.ensures c.law_limits.ensures in
    let live = subst (λ v. IsTrue (is_live (history s) v c.args.value)) c.requires.view.first (sym c.is_live.ensures ∙ c.if-not-is_live.false) in
    amount_some s.network (history s) pair c.args.alpha c.args.value c.of-has.result c.least.result c.min.result live
    (c.of-has.ensures s.network (history s) (first_of s.network pair) c.requires.view.own (first_value s.network pair c.args.value net c.requires.value) live)
    (let f = c.if-has-alpha.false in omega (arith, f)) (let r = c.ranges.alpha in omega (arith, r)) c.least.ensures c.min.ensures
