use Rattle.cfn_proof.specs.Certificates.{certificate_of}
use Rattle.cfn_line.proofs.CallerLemmas.{then, stop, respell}
use Rattle.cfn_certwrite.proofs.Lines.{spelling_parts}
use Rattle.cfn_certwrite.proofs.certificate.write.Goals as goal

pub returns-in_err-put_head : goal.returns-in_err-put_head
returns-in_err-put_head g c =
    respell _ (spelling_parts (certificate_of c.args.certificate.now)) (stop _ c.from_residual.ensures.0 _ c.in_err-put_head.ensures)

pub returns-in_err-write_line : goal.returns-in_err-write_line
returns-in_err-write_line g c =
    respell _ (spelling_parts (certificate_of c.args.certificate.now)) (then c.in_ok-put_head.ensures (stop _ c.from_residual-in_err-write_line.ensures.0 _ c.in_err-write_line.ensures))

pub returns-in_err-put_tree : goal.returns-in_err-put_tree
returns-in_err-put_tree g c =
    respell _ (spelling_parts (certificate_of c.args.certificate.now)) (then c.in_ok-put_head.ensures (then c.in_ok-write_line.ensures (stop _ c.from_residual-in_err-put_tree.ensures.0 _ c.in_err-put_tree.ensures)))

pub returns : goal.returns
returns g c =
    respell _ (spelling_parts (certificate_of c.args.certificate.now)) (then c.in_ok-put_head.ensures (then c.in_ok-write_line.ensures (then c.in_ok-put_tree.ensures c.write_line-2.ensures)))
