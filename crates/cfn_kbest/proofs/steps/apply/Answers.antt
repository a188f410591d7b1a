use Rattle.std.proofs.Common.{sym, ap, ◌∙◌, subst, [], ◌∷◌, ◌++◌}
use Rattle.cfn_model.specs.Network.{Fits}
use Rattle.cfn_proof.proofs.CallerLemmas.{before_some}
use Rattle.cfn_ranking.specs.Ranked.{Ranked}
use Rattle.cfn_kbest.specs.Expanding.{IsExpanded}
use Rattle.cfn_kbest.specs.Steps.{AreMarked}
use Rattle.cfn_kbest.proofs.Marks.{closed_marks, divided_marks}
use Rattle.cfn_kbest.proofs.Turns.{turned_child}
use Rattle.cfn_kbest.proofs.steps.apply.Goals as goal

pub fill-requires-clause-fits : goal.fill-requires-clause-fits
fill-requires-clause-fits c =
    let P = c.args.network.now in
    let r = c.args.ranking.now in
    let way = before_some r.nodes c.args.leaf.number c.requires.ranked.kept.linked c.requires.waits.there in
    let left = subst (IsExpanded P way.0 r.threshold c.args.parts.now) c.in-Found.is (c.requires.expanded way.0 way.1) in
    subst (Fits P.sizes) (sym c.deref-then-cost-price.ensures.value) left.solution.fits

pub returns-in_ok-first-in-Divided-clause-turned : goal.returns-in_ok-first-in-Divided-clause-turned
returns-in_ok-first-in-Divided-clause-turned c =
    let P = c.args.network.now in
    let p = c.args.parts.now in
    let r = c.args.ranking.now in
    turned_child P p r c.args.leaf.number c.in-Divided.block c.in-Divided.decision c.in-Divided.low c.in-Divided.settled c.in_ok-first-in-Divided.first c.divide.new.self c.requires.ranked c.requires.waits
    c.in_ok-first-in-Divided.ensures.first c.in_ok-first-in-Divided.ensures.ok
    (λ path before. subst (IsExpanded P path r.threshold p) c.in-Divided.is (c.requires.expanded path before))

pub returns-in-Closed-clause-marked : goal.returns-in-Closed-clause-marked
returns-in-Closed-clause-marked c =
    let r = c.args.ranking.now in
    let P = c.args.network.now in
    subst (λ (t : Ranked). AreMarked P t.nodes c.args.marks.now.items) (sym c.close.ensures.is)
    (closed_marks P r c.args.leaf.number c.in-Closed.block c.args.marks.now.items c.requires.ranked c.requires.waits c.requires.marked)

pub returns-in_ok-first-in-Divided-clause-marked : goal.returns-in_ok-first-in-Divided-clause-marked
returns-in_ok-first-in-Divided-clause-marked c =
    let P = c.args.network.now in
    let p = c.args.parts.now in
    let r = c.args.ranking.now in
    let marks = c.args.marks.now.items in
    let i = c.args.leaf.number in
    let w = c.in-Divided in
    subst (AreMarked P c.divide.new.self.nodes) (sym (c.push_twice.ensures ∙ ap (λ m. m ++ w.settled ∷ w.settled ∷ []) c.reserve.ensures.items))
    (subst (λ (t : Ranked). AreMarked P t.nodes (marks ++ w.settled ∷ w.settled ∷ [])) (sym c.in_ok-first-in-Divided.ensures.ok)
    (divided_marks P p r i w.block w.decision w.low w.settled marks c.requires.ranked c.requires.waits c.requires.marked
    (λ path before. subst (IsExpanded P path r.threshold p) w.is (c.requires.expanded path before))))
