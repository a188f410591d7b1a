use Rattle.std.proofs.Common.{◌≡◌, arith, ap, sym, subst, ◌∙◌}
use Rattle.std.specs.Prelude.{pos, neg_ℤ, slice_index}
use Rattle.cfn_model.specs.Network.{variable_at}
use Rattle.cfn_model.specs.Steps.{IsValue}
use Rattle.cfn_store.specs.Sums.{Moves, has_less}
use Rattle.cfn_store.proofs.Moving.{takes, taken_from, slot_below, value_there}
use Rattle.cfn_store.proofs.sums.Sums.take.Goals as goal

pub subtract-requires-2-clause-place : goal.subtract-requires-2-clause-place
subtract-requires-2-clause-place c =
    let b = slot_below c.args.network.now c.args.self.now c.args.f c.args.place c.args.value c.requires.shape c.requires.place in
    let e = c.slot_of-at.ensures in omega (arith, b, e)

pub returns : goal.returns
returns c =
    let P = c.args.network.now in let s = c.args.self.now in let f = c.args.f in let i = c.args.place in let a = c.args.value in
    let value : IsValue P (variable_at P f i) a = value_there P f i a c.law_limits.ensures c.requires.place in
    let whole = takes P s f i a c.args.amount c.requires.shape c.requires.place value c.ranges.amount.fits in
    let givens : c.subtract.new.rows ≡ has_less s.given (variable_at P f i) a c.args.amount = c.subtract.ensures ∙ ap (λ l. has_less s.given (slice_index l i) a c.args.amount) c.scope.ensures in
    let shift_rows = c.subtract-2.ensures ∙ ap (λ n. has_less s.shifts f n c.args.amount) c.slot_of-at.ensures in
    subst (λ rows. Moves P f i a (neg_ℤ (pos c.args.amount)) s (record s { given = c.subtract.new.rows; shifts = rows })) (sym shift_rows) (subst (λ rows. Moves P f i a (neg_ℤ (pos c.args.amount)) s (record s { given = rows; shifts = (taken_from P s f i a c.args.amount).shifts })) (sym givens) whole)
