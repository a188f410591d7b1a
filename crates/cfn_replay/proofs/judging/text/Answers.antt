use Rattle.std.proofs.Common.{sym, ap, ◌∙◌}
use Rattle.cfn_model.specs.Text.{spelling}
use Rattle.cfn_desk.specs.MemoryDesk.{InMemory}
use Rattle.cfn_proof.specs.Certificates.{certificate_of}
use Rattle.cfn_replay.proofs.Verdicts.{ok_of, on_ok, file_text}
use Rattle.cfn_replay.proofs.judging.text.Goals as goal

pub returns : goal.returns
returns c =
    file_text (spelling (certificate_of c.args.certificate.now)) _ _ c.open_out.new.self.calls c.write.new.desk.calls _ (ap (λ (d : InMemory). d.calls) c.open_out.ensures.called)
    (ok_of c.open_out.result (sym c.is_err.ensures.value ∙ c.if-is_err.false)) (on_ok c.write.result _ (sym c.is_err-2.ensures.value ∙ c.if-is_err-2.false) c.write.ensures.sends)
