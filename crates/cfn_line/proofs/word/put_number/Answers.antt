use Rattle.std.proofs.Common.{[], ◌∷◌, slice_index, sym, ap}
use Rattle.cfn_line.proofs.Sending.{respell}
use Rattle.cfn_line.proofs.Numerals.{one_digit, pair_digits}
use Rattle.cfn_line.proofs.word.put_number.Goals as goal

pub returns-then-number-lt10 : goal.returns-then-number-lt10
returns-then-number-lt10 g c = respell _ (sym (one_digit c.args.number c.args.end c.if-number-lt10.true)) c.send.ensures

pub returns-then-number-lt100 : goal.returns-then-number-lt100
returns-then-number-lt100 g c =
    respell _ (sym (pair_digits c.args.number c.args.end _ _ c.if-number-lt10.false c.if-number-lt100.true (ap (λ l. slice_index l 0 ∷ slice_index l 1 ∷ []) c.two_digits.ensures))) c.send-then-number-lt100.ensures
