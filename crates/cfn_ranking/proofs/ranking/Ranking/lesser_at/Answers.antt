use Rattle.std.proofs.Common.{length, ap, ◌∙◌, arith}
use Rattle.cfn_ranking.specs.Ranked.{Ranked, floor_at}
use Rattle.cfn_ranking.proofs.Numbers.{same_at}
use Rattle.cfn_ranking.proofs.Ends.{lesser_here}
use Rattle.cfn_ranking.proofs.ranking.Ranking.lesser_at.Goals as goal

pub returns : goal.returns
returns c =
    let x = c.index.ensures ∙ same_at c.self.inside.floors.items c.args.i c.index.result.now 0 (let h = c.requires.there in let l = c.requires.floors in let v = ap (λ (r : Ranked). length r.floors) c.self.view_is in omega (arith, h, l, v)) in
    let v = ap (λ (r : Ranked). floor_at r.floors c.args.i) c.self.view_is in
    lesser_here c.args.self.now c.args.i c.args.least c.lesser.result (c.waits.ensures.0 c.if-not-waits.false) (let e = c.lesser.ensures in omega (arith, e, x, v))
