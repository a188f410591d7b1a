use Rattle.std.proofs.Common.{◌≡◌, arith, ap, sym, subst, ◌∙◌}
use Rattle.std.specs.Prelude.{pos, slice_index}
use Rattle.cfn_model.specs.Network.{variable_at}
use Rattle.cfn_model.specs.Steps.{IsValue}
use Rattle.cfn_store.specs.Sums.{Moves, has_more}
use Rattle.cfn_store.proofs.Moving.{gives, given_to, slot_below, value_there}
use Rattle.cfn_store.proofs.sums.Sums.give.Goals as goal

pub add-requires-2-clause-place : goal.add-requires-2-clause-place
add-requires-2-clause-place c =
    let b = slot_below c.args.network.now c.args.self.now c.args.f c.args.place c.args.value c.requires.shape c.requires.place in
    let e = c.slot_of-at.ensures in omega (arith, b, e)

pub returns : goal.returns
returns c =
    let P = c.args.network.now in let s = c.args.self.now in let f = c.args.f in let i = c.args.place in let a = c.args.value in
    let value : IsValue P (variable_at P f i) a = value_there P f i a c.law_limits.ensures c.requires.place in
    let whole = gives P s f i a c.args.amount c.requires.shape c.requires.place value in
    let givens : c.add.new.rows ≡ has_more s.given (variable_at P f i) a c.args.amount = c.add.ensures ∙ ap (λ l. has_more s.given (slice_index l i) a c.args.amount) c.scope.ensures in
    let shift_rows = c.add-2.ensures ∙ ap (λ n. has_more s.shifts f n c.args.amount) c.slot_of-at.ensures in
    subst (λ rows. Moves P f i a (pos c.args.amount) s (record s { given = c.add.new.rows; shifts = rows })) (sym shift_rows) (subst (λ rows. Moves P f i a (pos c.args.amount) s (record s { given = rows; shifts = (given_to P s f i a c.args.amount).shifts })) (sym givens) whole)
