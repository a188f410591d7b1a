use Rattle.std.proofs.Common.{◌≡◌, ◌∙◌, false, ap, sym, subst, arith}
use Rattle.cfn_consistency.specs.Openness.{is_open}
use Rattle.cfn_store.specs.Standing.{history}
use Rattle.cfn_dac.proofs.CallerLemmas.{is_closed_by}
use Rattle.cfn_edac.specs.Neighbours.{AreNeighbours}
use Rattle.cfn_edac.proofs.Gather.{none_of_closed}
use Rattle.cfn_edac.proofs.neighbours.Neighbours.gather.Goals as goal

pub returns-then-count-lt2-clause-neighbours : goal.returns-then-count-lt2-clause-neighbours
returns-then-count-lt2-clause-neighbours c =
    let s = c.args.store.now in
    let net = c.requires.network ∙ sym (ap (λ g. g.network) c.self.view_is) in
    subst (AreNeighbours c.self.inside.network.now (history s) c.args.x) (sym c.clear.ensures.items)
    (none_of_closed c.self.inside.network.now (history s) c.args.x
    (subst (λ N. is_open N (history s) c.args.x ≡ false) net (is_closed_by s c.args.x c.count.result c.count.ensures (let t = c.if-count-lt2.true in omega (arith, t)))))
