use Rattle.std.proofs.Common.{◌+◌, ◌*◌, ◌<◌, refl, sym, arith}
use Rattle.std.proofs.lemmas.Bool.{lt-ltb}
use Rattle.cfn_model.specs.Words.{greatest, digits_behind}
use Rattle.cfn_words.proofs.Digits.{too_large}
use Rattle.cfn_words.proofs.value.magnitude.Goals as goal

pub returns-then-value-digit : goal.returns-then-value-digit
returns-then-value-digit c =
    let over : greatest < 10 * c.loop-byte.value + c.from-digit.result = omega arith in
    let large = too_large c.loop-byte.value c.from-digit.result c.loop-byte.byte-index (digits_behind 0 c.args.digits.now) c.args.digits.now c.loop-byte-test.true (sym c.from-digit.ensures) c.loop-byte.invariant.1 over in
    rw (lt-ltb greatest (digits_behind 0 c.args.digits.now) large) refl
