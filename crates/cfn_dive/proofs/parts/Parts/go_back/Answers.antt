use Rattle.std.proofs.Common.{◌∷◌, refl, sym, ap, ◌∙◌, subst}
use Rattle.std.specs.Prelude.{IfSome}
use Rattle.cfn_model.specs.declared.step.Event.TheVariants.{Refused}
use Rattle.cfn_store.specs.Standing.{Standing, history}
use Rattle.cfn_edac.specs.Settling.{IsBehindSettled}
use Rattle.cfn_dive.proofs.Sides.{since_split, settled_moved}
use Rattle.cfn_dive.proofs.parts.Parts.go_back.Goals as goal

pub returns-clause-since : goal.returns-clause-since
returns-clause-since c =
    let w = c.args.waiting in
    let now = c.refuse.new.self in
    let P = c.args.self.now.store.network in
    let network = ap (λ (b : Standing). b.network) c.refuse.ensures ∙ ap (λ (b : Standing). b.network) c.undo.ensures in
    subst (λ o. IfSome o (IsBehindSettled now)) (sym c.since.ensures)
    (since_split w.settled (Refused w.decision) now (history w.mark) (ap history c.refuse.ensures ∙ ap (λ b. Refused w.decision ∷ history b) c.undo.ensures)
    (λ yes. settled_moved P now.network (history w.mark) (history w.mark) (sym network) refl (c.requires.waits.settled yes)))
