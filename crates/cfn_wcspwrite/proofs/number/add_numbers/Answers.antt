use Rattle.std.proofs.Common.{◌++◌, ap}
use Rattle.cfn_line.proofs.CallerLemmas.{add_on, add_break}
use Rattle.cfn_wcspwrite.proofs.Parts.{spaced-drop}
use Rattle.cfn_wcspwrite.proofs.number.add_numbers.Goals as goal

pub returns-in_err-add_number : goal.returns-in_err-add_number
returns-in_err-add_number g c =
    add_break _ c.from_residual.ensures.0 _ (ap (λ t. c.loop-number.into ++ t) (spaced-drop c.args.numbers.now c.loop-number.number-index c.loop-number-test.true)) c.loop-number.invariant (rw c.from.ensures at c.in_err-add_number.ensures)

pub loop-number-preserved : goal.loop-number-preserved
loop-number-preserved g c =
    add_on _ (ap (λ t. c.loop-number.into ++ t) (spaced-drop c.args.numbers.now c.loop-number.number-index c.loop-number-test.true)) c.loop-number.invariant (rw c.from.ensures at c.in_ok-add_number.ensures)
