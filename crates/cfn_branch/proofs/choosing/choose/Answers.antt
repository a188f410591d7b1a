use Rattle.std.proofs.Common.{◌+◌, length, ap, sym, subst, arith}
use Rattle.std.specs.Prelude.{MatchOption}
use Rattle.cfn_model.specs.Network.{Network}
use Rattle.cfn_branch.specs.Passing.{NoneYet, BestYet}
use Rattle.cfn_branch.proofs.Passes.{pass_on, pass_first, chosen}
use Rattle.cfn_branch.proofs.choosing.choose.Goals.{then-count-ge2, else-count-ge2}
use Rattle.cfn_branch.proofs.choosing.choose.Goals as goal

pub loop-x-preserved : goal.loop-x-preserved
loop-x-preserved c =
    let s = c.args.store.now in let weights = c.args.weights.now in let x = c.loop-x.x in
    let all = ap (λ (Q : Network). length Q.sizes) c.network-2.ensures in
    elim c.if-count-ge2.branch [
      | then-count-ge2 w ↦ subst (λ best. MatchOption best (NoneYet s (x + 1)) (BestYet s weights (x + 1))) (sym w.best-is)
          (pass_first s weights x c.loop-x.best w.first_of_open.result (record { there = omega (arith, c.loop-x-test.true, c.variables-x-end.ensures, all); undecided = omega (arith, c.count.ensures, w.if-count-ge2.true) }) w.first_of_open.ensures c.loop-x.invariant)
      | else-count-ge2 w ↦ subst (λ best. MatchOption best (NoneYet s (x + 1)) (BestYet s weights (x + 1))) (sym w.best-is)
          (pass_on s weights x c.loop-x.best (omega (arith, c.count.ensures, w.if-count-ge2.false)) c.loop-x.invariant)
    ]

pub returns-in-Some : goal.returns-in-Some
returns-in-Some c =
    let s = c.args.store.now in let weights = c.args.weights.now in
    let all = ap (λ (Q : Network). length Q.sizes) c.network-2.ensures in
    chosen s weights c.loop-x.x c.in-Some.candidate (omega (arith, c.loop-x-test.false, c.variables-x-end.ensures, all))
    (subst (λ best. MatchOption best (NoneYet s c.loop-x.x) (BestYet s weights c.loop-x.x)) c.in-Some.is c.loop-x.invariant)
