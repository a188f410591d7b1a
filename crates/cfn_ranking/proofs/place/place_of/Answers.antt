use Rattle.std.proofs.Common.{subst}
use Rattle.cfn_model.specs.Certificate.{Solution}
use Rattle.cfn_best.specs.List.{IsBefore}
use Rattle.cfn_ranking.specs.declared.list.Listed.{Listed}
use Rattle.cfn_ranking.specs.Certificates.{solution_of}
use Rattle.cfn_ranking.proofs.Places.{one_more}
use Rattle.cfn_ranking.proofs.place.place_of.Goals as goal

pub loop-i-preserved : goal.loop-i-preserved
loop-i-preserved c =
    let nobody = c.index-list-i.result in
    let s : Solution = record { cost = c.args.cost; values = c.args.values.now } in
    let told = c.comes_before.ensures.0 c.if-not-comes_before.false in
    one_more c.args.list.now s c.loop-i.i nobody c.loop-i-test.true c.loop-i.invariant (subst (λ (l : Listed). IsBefore (solution_of l) s) c.index-list-i.is (subst (λ v. IsBefore (record { cost = nobody.cost; values = v }) s) c.deref.ensures.value told))
