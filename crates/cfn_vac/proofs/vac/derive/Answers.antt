use Rattle.std.proofs.Common.{sym, ap, ◌∙◌, subst}
use Rattle.cfn_store.specs.Marking.{IsBehind, back_at}
use Rattle.cfn_derivation.specs.Banned.{bans_of}
use Rattle.cfn_vac.proofs.Running.{grown_behind, grown_back}
use Rattle.cfn_vac.proofs.Roots.{derived_grown, closed_at, emptied_at}
use Rattle.cfn_vac.proofs.vac.derive.Goals as goal

pub undo-requires : goal.undo-requires
undo-requires c =
    let is = c.derive-derived.ensures.derived in
    subst (λ m. IsBehind m c.derive-derived.new.store) (sym c.mark-mark.ensures)
    (grown_behind c.args.store.now c.derive-derived.new.store (derived_grown c.args.store.now c.derive-derived.new.store c.args.q (bans_of c.args.bans.now) c.derive-derived.new.self.deletions is))

pub returns-clause-closed : goal.returns-clause-closed
returns-clause-closed c = λ e.
    closed_at c.args.deriver.now.network c.args.store.now c.derive-derived.new.store c.args.q (bans_of c.args.bans.now) c.derive-derived.new.self.deletions c.derive-derived.ensures.derived c.requires.network (c.derive-derived.ensures.closed e)

pub returns-clause-emptied : goal.returns-clause-emptied
returns-clause-emptied c = λ x e.
    emptied_at c.args.deriver.now.network c.args.store.now c.derive-derived.new.store c.args.q (bans_of c.args.bans.now) c.derive-derived.new.self.deletions x c.derive-derived.ensures.derived c.requires.network (c.derive-derived.ensures.emptied x e)

pub returns-clause-same : goal.returns-clause-same
returns-clause-same c =
    let is = c.derive-derived.ensures.derived in
    c.undo.ensures ∙ ap (λ m. back_at m c.derive-derived.new.store) c.mark-mark.ensures
    ∙ grown_back c.args.store.now c.derive-derived.new.store (derived_grown c.args.store.now c.derive-derived.new.store c.args.q (bans_of c.args.bans.now) c.derive-derived.new.self.deletions is)
