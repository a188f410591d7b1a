use Rattle.std.proofs.Common.{◌∙◌}
use Rattle.std.proofs.lemmas.Result.{IfOk-weaker}
use Rattle.cfn_proof.specs.Certificates.{certificate_of}
use Rattle.cfn_replay.proofs.judging.good_text.Goals as goal

pub returns : goal.returns
returns c =
    IfOk-weaker c.good_bytes-good.result _ _
    (λ text good. good (certificate_of c.args.certificate.now) c.requires (c.out_bytes.ensures ∙ c.in_ok-desk.ensures)) c.good_bytes-good.ensures
