use Rattle.std.proofs.Common.{[], ◌∷◌}
use Rattle.std.proofs.lemmas.Bool.{iff_false}
use Rattle.std.proofs.lemmas.Result.{err_from_is_err_and}
use Rattle.cfn_fault.specs.Lines.{Version, AtNumbers}
use Rattle.cfn_check.proofs.Telling.{numbers_told, numbers_right, numbers_stop}
use Rattle.cfn_check.proofs.reading.numbers.Goals as goal

pub returns-in_err-event-clause-stop : goal.returns-in_err-event-clause-stop
returns-in_err-event-clause-stop c =
    let begun = c.requires in
    let p = err_from_is_err_and c.from_residual.result c.from_residual.ensures.1 in
    rw (p.1, p.2) (c.in_err-event.ensures.stop c.args.network.now (Version begun.0 ∷ []) (AtNumbers begun.0) begun.1)

pub unreachable-requires : goal.unreachable-requires
unreachable-requires c =
    let begun = c.requires in
    let t = numbers_told c.args.reader.now c.next.new.reader (Version begun.0 ∷ []) begun.0 _ begun.1.left (c.in_ok-event.ensures.event (Version begun.0 ∷ []) (AtNumbers begun.0) begun.1.read) in
    c.in_default.not-Network t.0 t.1 t.2 t.3

pub returns-then-not-has_numbers-clause-stop : goal.returns-then-not-has_numbers-clause-stop
returns-then-not-has_numbers-clause-stop c =
    let begun = c.requires in
    numbers_stop c.args.network.now c.args.reader.now c.next.new.reader _ c.in-Network.variables c.in-Network.functions c.in-Network.upper c.in-Network.is (iff_false c.has_numbers.ensures c.if-not-has_numbers.true) c.in_ok-event.ensures.text begun (c.in_ok-event.ensures.event (Version begun.0 ∷ []) (AtNumbers begun.0) begun.1.read)

pub returns-clause-right : goal.returns-clause-right
returns-clause-right c =
    let begun = c.requires in
    numbers_right c.args.network.now c.args.reader.now c.next.new.reader _ c.in-Network.variables c.in-Network.functions c.in-Network.upper c.in-Network.is (c.has_numbers.ensures.0 c.if-not-has_numbers.false) begun (c.in_ok-event.ensures.event (Version begun.0 ∷ []) (AtNumbers begun.0) begun.1.read)
