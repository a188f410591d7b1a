use Rattle.std.proofs.Common.{sym, ◌∙◌}
use Rattle.std.proofs.lemmas.Bool.{iff_false}
use Rattle.cfn_replay.proofs.Verdicts.{verdict}
use Rattle.cfn_replay.proofs.judging.good_bytes.Goals as goal

pub returns-then-not-is_verified : goal.returns-then-not-is_verified
returns-then-not-is_verified c = λ its spelled is.
    iff_false (verdict c.args.network.now its c.args.bytes.now c.in_ok-answer.answer spelled is c.in_ok-answer.ensures.checked c.in_ok-answer.ensures.exact)
    (sym c.is_verified.ensures ∙ c.if-not-is_verified.true)

pub returns : goal.returns
returns c = λ its spelled is. (
  (verdict c.args.network.now its c.args.bytes.now c.in_ok-answer.answer spelled is c.in_ok-answer.ensures.checked c.in_ok-answer.ensures.exact).0
      (sym c.is_verified.ensures ∙ c.if-not-is_verified.false),
  c.in_ok-from_slice.ensures.items ∙ is,
)
