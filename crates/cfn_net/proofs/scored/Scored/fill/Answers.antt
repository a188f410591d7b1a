use Rattle.std.proofs.Common.{length, ap, sym, ◌∙◌}
use Rattle.cfn_model.specs.Network.{Network}
use Rattle.cfn_net.specs.Scoring.{Scoring}
use Rattle.cfn_net.proofs.Cells.{Fits-length}
use Rattle.cfn_net.proofs.scored.Scored.fill.Goals as goal

pub copy_from_slice-requires : goal.copy_from_slice-requires
copy_from_slice-requires c =
    let network = c.requires.same ∙ ap (λ (s : Scoring). s.network) (sym c.self.view_is) in
    ap length c.as_mut_slice.ensures.value ∙ c.self.invariant.lengths ∙ ap (λ (P : Network). length P.sizes) (sym network) ∙ sym (Fits-length c.args.network.now.sizes c.args.values.now c.requires.fits)
