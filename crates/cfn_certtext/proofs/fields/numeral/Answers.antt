use Rattle.std.proofs.Common.{◌≡◌, true, false, sym, ◌∙◌, ap, Some, None, rules}
use Rattle.std.proofs.lemmas.Int.{ints, to_z-of_z}
use Rattle.std.specs.List.{list_all}
use Rattle.std.specs.Prelude.{unsigned_abs}
use Rattle.cfn_model.specs.Words.{is_digit}
use Rattle.cfn_fault.specs.Decoding.{has_one_form, numeral}
use Rattle.cfn_certtext.proofs.Words.{numeral_is_number, not_one_form, not_digits, value_of}
use Rattle.cfn_certtext.proofs.fields.numeral.Goals as goal
use Rattle.cfn_certtext.proofs.fields.numeral.Goals.{then-not-has_one_form-via-then-not-has_one_form, then-not-has_one_form-via-else-not-has_one_form+then-not-are_digits}

pub returns-then-not-has_one_form : goal.returns-then-not-has_one_form
returns-then-not-has_one_form c =
    elim c.then-not-has_one_form.branch [
      | then-not-has_one_form-via-then-not-has_one_form w ↦ let e : has_one_form c.args.word.now ≡ false = cc in sym (not_one_form c.args.word.now e)
      | then-not-has_one_form-via-else-not-has_one_form+then-not-are_digits w ↦ let one : has_one_form c.args.word.now ≡ true = cc in let e : list_all is_digit c.args.word.now ≡ false = cc in sym (not_digits c.args.word.now one e)
    ]

pub returns-in-Ok : goal.returns-in-Ok
returns-in-Ok c =
    let one : has_one_form c.args.word.now ≡ true = cc in
    let digits : list_all is_digit c.args.word.now ≡ true = cc in
    let e : numeral c.args.word.now ≡ Some (unsigned_abs c.in-Ok.value) = numeral_is_number c.args.word.now one digits ∙ ap value_of (sym c.number.ensures ∙ c.in-Ok.is) in
    let v : c.unsigned_abs.result ≡ unsigned_abs c.in-Ok.value = search (rules, ints, to_z-of_z) in
    ap Some v ∙ sym e

pub returns-in-Err : goal.returns-in-Err
returns-in-Err c =
    let one : has_one_form c.args.word.now ≡ true = cc in
    let digits : list_all is_digit c.args.word.now ≡ true = cc in
    let e : numeral c.args.word.now ≡ None = numeral_is_number c.args.word.now one digits ∙ ap value_of (sym c.number.ensures ∙ c.in-Err.is) in
    sym e
