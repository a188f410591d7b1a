use Rattle.std.proofs.Common.{sym, ap, ◌∙◌, length}
use Rattle.cfn_model.specs.Network.{Network}
use Rattle.cfn_store.specs.Standing.{history}
use Rattle.cfn_edac.specs.Revising.{Revising}
use Rattle.cfn_edac.proofs.reviser.Reviser.begin.Goals as goal

pub returns-in-None-clause-known : goal.returns-in-None-clause-known
returns-in-None-clause-known c =
    let s = c.args.store.now in
    c.doubt_all.ensures.all s.network (history s)
    (c.self.invariant.3 ∙ ap (λ (r : Revising). length r.network.functions) c.self.view_is ∙ sym (ap (λ (P : Network). length P.functions) c.requires.network))
