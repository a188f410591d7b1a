use Rattle.std.proofs.Common.{sym, ap, ◌∙◌}
use Rattle.std.specs.Prelude.{Some, None}
use Rattle.cfn_fault.specs.Decoding.{words_in}
use Rattle.cfn_certtext.specs.Parsed.{line_of_parsed}
use Rattle.cfn_replay.proofs.Reading.{from_certificate}
use Rattle.cfn_replay.proofs.said.parse_behind.Goals as goal

pub returns-in_err-parse-clause-gives : goal.returns-in_err-parse-clause-gives
returns-in_err-parse-clause-gives c =
    rw c.from_residual.ensures (from_certificate (words_in c.args.front.now) c.args.word.now c.args.fields None c.requires c.in_err-parse.ensures.gives (sym c.is.ensures ∙ c.if-is.false) (sym c.is-2.ensures ∙ c.if-is-2.false) (sym c.is-3.ensures ∙ c.if-is-3.false)
    (sym c.is-4.ensures ∙ c.if-is-4.false) (sym c.is-5.ensures ∙ c.if-is-5.false) (sym c.is-6.ensures ∙ c.if-is-6.false) (sym c.is-7.ensures ∙ c.if-is-7.false))

pub returns-clause-gives : goal.returns-clause-gives
returns-clause-gives c =
    from_certificate (words_in c.args.front.now) c.args.word.now c.args.fields (Some (line_of_parsed c.in_ok-parse.field-0)) c.requires c.in_ok-parse.ensures.gives (sym c.is.ensures ∙ c.if-is.false) (sym c.is-2.ensures ∙ c.if-is-2.false) (sym c.is-3.ensures ∙ c.if-is-3.false)
    (sym c.is-4.ensures ∙ c.if-is-4.false) (sym c.is-5.ensures ∙ c.if-is-5.false) (sym c.is-6.ensures ∙ c.if-is-6.false) (sym c.is-7.ensures ∙ c.if-is-7.false)
    ∙ ap Some (sym c.certificate.ensures.says)
