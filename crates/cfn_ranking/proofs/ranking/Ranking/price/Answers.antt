use Rattle.std.proofs.Common.{◌-◌, length, ap, ◌∙◌, arith}
use Rattle.std.specs.Prelude.{slice_get}
use Rattle.cfn_best.specs.List.{threshold_of}
use Rattle.cfn_ranking.specs.Ranked.{Ranked}
use Rattle.cfn_ranking.proofs.Places.{last_price}
use Rattle.cfn_ranking.proofs.ranking.Ranking.price.Goals as goal

pub returns-in-Some : goal.returns-in-Some
returns-in-Some c =
    last_price c.args.upper c.self.inside.count c.self.inside.list.items c.in-Some.last.now (c.in-Some.ensures.value ∙ ap (λ l. slice_get l (length l - 1)) c.deref.ensures.value) (let e = c.if-len-self.false in let l = c.len.ensures in let k = c.self.inside.list.ok.0 in omega (arith, e, l, k))
    ∙ ap (λ (r : Ranked). threshold_of c.args.upper r.count r.list) c.self.view_is
