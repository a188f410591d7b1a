use Rattle.std.proofs.Common.{◌≡◌, true, false, sym, ◌∙◌, ap}
use Rattle.std.specs.Prelude.{is_some}
use Rattle.cfn_fault.specs.Decoding.{numeral}
use Rattle.cfn_certtext.proofs.Words.{no_number, one_number, no_words}
use Rattle.cfn_certtext.proofs.fields.Fields.are_numbers.Goals as goal

pub returns-then-is_none : goal.returns-then-is_none
returns-then-is_none c =
    let none : is_some (numeral c.in-Some.word.now) ≡ false = ap is_some (sym c.numeral.ensures) ∙ c.if-is_none.ensures in
    sym (no_number c.loop-word.left c.in-Some.word.now c.word.new.self c.in-Some.ensures.gives none) ∙ c.loop-word.invariant

pub loop-word-preserved : goal.loop-word-preserved
loop-word-preserved c =
    let some : is_some (numeral c.in-Some.word.now) ≡ true = ap is_some (sym c.numeral.ensures) ∙ c.if-is_none.ensures in
    sym (one_number c.loop-word.left c.in-Some.word.now c.word.new.self c.in-Some.ensures.gives some) ∙ c.loop-word.invariant

pub returns : goal.returns
returns c = sym (no_words c.loop-word.left c.in_default.ensures.gives) ∙ c.loop-word.invariant
