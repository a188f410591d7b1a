use Rattle.std.proofs.Common.{◌++◌, sym, ap, ◌∙◌, reverse}
use Rattle.cfn_store.specs.Standing.{Standing, history}
use Rattle.cfn_rebase.proofs.Grounds.{back_events}
use Rattle.cfn_rebase.proofs.ground.Ground.back.Goals as goal

pub invariant_of-self : goal.invariant_of-self
invariant_of-self c =
    let s = c.self.inside.store in
    let m = c.spot.inside.mark in (
      c.self.invariant.0 ∙ sym (ap (λ (t : Standing). t.network) c.undo.ensures),
      ap reverse c.truncate.ensures.items
          ∙ back_events c.self.inside.events.items s m c.spot.inside.events c.self.invariant.1
          (record {
            network = ap (λ (t : Standing). t.network) c.spot.view_is ∙ c.requires.network ∙ sym (ap (λ (t : Standing). t.network) c.self.view_is);
            later = c.requires.later;
            path = ap history c.self.view_is ∙ c.requires.path ∙ ap (λ t. c.requires.later ++ history t) (sym c.spot.view_is);
          }) c.spot.invariant
          ∙ sym (ap history c.undo.ensures),
    )
