use Rattle.cfn_app.specs.Loading.{Unpaired}
use Rattle.cfn_app.proofs.Pairing.{passed_on, not_certified, not_legible}
use Rattle.cfn_app.proofs.loading.load_pair.Goals as goal

pub returns-in_err-text-clause-unpaired : goal.returns-in_err-text-clause-unpaired
returns-in_err-text-clause-unpaired g c =
    passed_on _ c.in_err-text.field-0.0 (Unpaired c.args.format c.args.file.now c.args.certificate.now (g.D.Desk.outside c.args.desk.now) _) c.from_residual-in_err-text.ensures.1
    (not_certified _ _ _ _ _ _ _ c.in_ok-bytes.bytes.items c.in_ok-bytes.ensures.has c.in_ok-bytes.ensures.loaded c.in_err-text.ensures.unloaded)

pub returns-in_err-network-clause-unpaired : goal.returns-in_err-network-clause-unpaired
returns-in_err-network-clause-unpaired g c =
    passed_on _ c.in_err-network.field-0.0 (Unpaired c.args.format c.args.file.now c.args.certificate.now (g.D.Desk.outside c.args.desk.now) _) c.from_residual-in_err-network.ensures.1
    (not_legible _ _ _ _ _ _ _ _ c.in_ok-bytes.bytes.items c.in_ok-text.text.items c.in_ok-bytes.ensures.has c.in_ok-bytes.ensures.loaded
    c.in_ok-text.ensures.has c.in_ok-text.ensures.loaded (rw c.deref.ensures.value at c.in_err-network.ensures.unread))
