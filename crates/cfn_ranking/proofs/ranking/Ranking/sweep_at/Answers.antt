use Rattle.std.proofs.Common.{◌≡◌, length, true, false, sym, ap, ◌∙◌, arith}
use Rattle.cfn_ranking.specs.Ranked.{Ranked, floor_at}
use Rattle.cfn_ranking.proofs.Numbers.{same_at}
use Rattle.cfn_ranking.proofs.Ends.{swept_none, swept_one}
use Rattle.cfn_ranking.proofs.ranking.Ranking.sweep_at.Goals as goal

false_true : false ≡ true → ⊥
false_true e = cc

pub returns-then-not-waits : goal.returns-then-not-waits
returns-then-not-waits c = swept_none c.args.network.now c.args.self.now c.args.i c.requires.ranked (λ waits. absurd (false_true (sym c.if-not-waits.true ∙ c.waits.ensures.1 waits)))

pub returns-then-index-from : goal.returns-then-index-from
returns-then-index-from c =
    swept_none c.args.network.now c.args.self.now c.args.i c.requires.ranked (λ waits.
    let t = c.if-index-from.true in
    let f = c.from.ensures in
    let x = c.index.ensures ∙ same_at c.self.inside.floors.items c.args.i c.index.result.now 0 (let h = c.requires.there in let l = c.requires.ranked.kept.floors in let v = ap (λ (r : Ranked). length r.floors) c.self.view_is in omega (arith, h, l, v)) in
    let v = ap (λ (r : Ranked). floor_at r.floors c.args.i) c.self.view_is in
    let k = ap (λ (r : Ranked). r.threshold) c.self.view_is in
    omega (arith, t, f, x, v, k))

pub returns : goal.returns
returns c =
    swept_one c.args.network.now c.args.self.now c.shut_own.new.self c.args.i c.requires.ranked (c.waits.ensures.0 c.if-not-waits.false)
    (let t = c.if-index-from.false in
    let f = c.from.ensures in
    let x = c.index.ensures ∙ same_at c.self.inside.floors.items c.args.i c.index.result.now 0 (let h = c.requires.there in let l = c.requires.ranked.kept.floors in let v = ap (λ (r : Ranked). length r.floors) c.self.view_is in omega (arith, h, l, v)) in
    let v = ap (λ (r : Ranked). floor_at r.floors c.args.i) c.self.view_is in
    let k = ap (λ (r : Ranked). r.threshold) c.self.view_is in
    omega (arith, t, f, x, v, k))
    c.shut_own.ensures c.law_linked-2.ensures
