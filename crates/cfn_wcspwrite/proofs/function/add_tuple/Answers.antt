use Rattle.std.proofs.Common.{◌++◌, ap}
use Rattle.cfn_line.proofs.CallerLemmas.{add_on, add_break}
use Rattle.cfn_wcspwrite.proofs.Parts.{behind-is, behind-some, tuple-next}
use Rattle.cfn_wcspwrite.proofs.function.add_tuple.Goals as goal

pub nonzero_div-rest : goal.nonzero_div-rest
nonzero_div-rest g c =
    let P = c.args.network.now in
    behind-some P c.law_limits.ensures c.args.scope.now c.requires.scope c.loop-x.x-index _
    (behind-is P c.law_limits.ensures c.args.scope.now c.requires.scope c.loop-x.x-index c.loop-x.behind _ c.loop-x-test.true c.size-behind.ensures c.loop-x.invariant.behind)

pub nonzero_rem-rest : goal.nonzero_rem-rest
nonzero_rem-rest g c =
    let P = c.args.network.now in
    behind-some P c.law_limits.ensures c.args.scope.now c.requires.scope c.loop-x.x-index _
    (behind-is P c.law_limits.ensures c.args.scope.now c.requires.scope c.loop-x.x-index c.loop-x.behind _ c.loop-x-test.true c.size-behind.ensures c.loop-x.invariant.behind)

pub returns-in_err-add_number : goal.returns-in_err-add_number
returns-in_err-add_number g c =
    let P = c.args.network.now in
    add_break _ c.from_residual.ensures.0 _
    (ap (λ t. c.loop-x.into ++ t) (tuple-next P c.law_limits.ensures c.args.scope.now c.requires.scope c.loop-x.x-index c.loop-x.rest _ c.loop-x-test.true
    (behind-is P c.law_limits.ensures c.args.scope.now c.requires.scope c.loop-x.x-index c.loop-x.behind _ c.loop-x-test.true c.size-behind.ensures c.loop-x.invariant.behind)))
    c.loop-x.invariant.text (rw c.from.ensures at c.in_err-add_number.ensures)

pub loop-x-preserved : goal.loop-x-preserved
loop-x-preserved g c =
    let P = c.args.network.now in
    record {
      behind = behind-is P c.law_limits.ensures c.args.scope.now c.requires.scope c.loop-x.x-index c.loop-x.behind _ c.loop-x-test.true c.size-behind.ensures c.loop-x.invariant.behind;
      text =
          add_on _
          (ap (λ t. c.loop-x.into ++ t) (tuple-next P c.law_limits.ensures c.args.scope.now c.requires.scope c.loop-x.x-index c.loop-x.rest _ c.loop-x-test.true
          (behind-is P c.law_limits.ensures c.args.scope.now c.requires.scope c.loop-x.x-index c.loop-x.behind _ c.loop-x-test.true c.size-behind.ensures c.loop-x.invariant.behind)))
          c.loop-x.invariant.text (rw c.from.ensures at c.in_ok-add_number.ensures);
    }
