use Rattle.std.proofs.Common.{◌≡◌, true, false, sym, ◌∙◌}
use Rattle.std.specs.Prelude.{codes}
use Rattle.std.specs.Str.{bytes_eq}
use Rattle.cfn_fault.specs.Decoding.{line_by}
use Rattle.cfn_certtext.proofs.parsing.parse_behind.Goals as goal

pub returns-then-is-clause-gives : goal.returns-then-is-clause-gives
unfolding line_by
returns-then-is-clause-gives c =
    let key : bytes_eq c.args.word.now (codes "values") ≡ true = sym c.is.ensures ∙ c.if-is.true in
    rw key c.values.ensures.gives

pub returns-in_err-item-clause-gives : goal.returns-in_err-item-clause-gives
unfolding line_by
returns-in_err-item-clause-gives c =
    let key : bytes_eq c.args.word.now (codes "values") ≡ false = sym c.is.ensures ∙ c.if-is.false in
    rw c.from_residual.ensures (rw key c.in_err-item.ensures.gives)

pub returns-clause-gives : goal.returns-clause-gives
unfolding line_by
returns-clause-gives c =
    let key : bytes_eq c.args.word.now (codes "values") ≡ false = sym c.is.ensures ∙ c.if-is.false in
    rw key c.in_ok-item.ensures.gives
