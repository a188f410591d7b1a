use Rattle.std.proofs.Common.{eqb-true, ◌<◌, length, sym, ◌∙◌, subst}
use Rattle.std.specs.Prelude.{IfSome}
use Rattle.cfn_trim.proofs.Making.{wiped}
use Rattle.cfn_trim.proofs.end.closes.Goals as goal

pub returns-in-Some : goal.returns-in-Some
returns-in-Some c zero =
    wiped c.args.store.now c.args.threshold c.in-Some.x (subst (λ o. IfSome o (λ x. x < length c.args.store.now.network.sizes)) c.in-Some.is c.requires.variable)
    (sym c.count.ensures ∙ eqb-true c.count.result 0 zero)
