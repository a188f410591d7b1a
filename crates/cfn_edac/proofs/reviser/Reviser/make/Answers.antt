use Rattle.std.proofs.Common.{◌≡◌, length, arith, ap, ◌∙◌}
use Rattle.cfn_model.specs.declared.limits.TheConstants.{MOST_VALUES}
use Rattle.cfn_edac.proofs.Making.{second_of}
use Rattle.cfn_edac.proofs.reviser.Reviser.make.Goals as goal

pub invariant_of-result : goal.invariant_of-result
invariant_of-result c =
    let first = c.in_ok-made.ensures in
    let second = c.in_ok-made-2.ensures in
    let third = c.in_ok-made-3.ensures in
    let last = c.in_ok-due.ensures in
    let neighbours = ap (λ made. made.0.1) last.one ∙ ap (λ made. made.1) third.one in
    let moves = ap (λ made. made.0.0.1) last.one ∙ ap (λ made. made.0.1) third.one ∙ ap (λ made. made.1) second.one in
    let of = second_of _ _ (λ made. made.network ≡ c.args.network.now) c.make-2.ensures second.other in
    let long = second_of _ _ (λ made. length made.items ≡ MOST_VALUES) c.room_for_moves.ensures first.other in
    (ap (λ made. made.network) neighbours ∙ of, ap (λ made. length made.items) moves ∙ long, grind (arith, first, second, third, last), grind (arith, first, second, third, last))
