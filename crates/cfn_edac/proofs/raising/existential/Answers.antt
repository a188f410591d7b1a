use Rattle.std.proofs.Common.{inl, inr, refl, sym, ◌∙◌, subst}
use Rattle.cfn_model.specs.Network.{IsNetwork}
use Rattle.cfn_store.specs.Standing.{history}
use Rattle.cfn_gain.proofs.CallerLemmas.{on_ok, gained_none}
use Rattle.cfn_due.specs.Resting.{AreSure}
use Rattle.cfn_edac.specs.Neighbours.{AreNeighbours}
use Rattle.cfn_edac.specs.Owing.{IsAsked}
use Rattle.cfn_edac.proofs.Existing.{existential_of}
use Rattle.cfn_edac.proofs.raising.existential.Goals as goal

pub returns-in-Some-clause-existential : goal.returns-in-Some-clause-existential
returns-in-Some-clause-existential c = λ same.
    let P = c.args.store.now.network in let h = history c.args.store.now in
    let neighbours = subst (λ N. AreNeighbours N h c.args.x c.gather.new.self.pairs) (c.gather.ensures.network ∙ sym c.requires.network) c.gather.ensures.neighbours in
    let are = subst (AreNeighbours P h c.args.x) (sym c.pairs.ensures) neighbours in
    existential_of P h c.args.x c.pairs.result.now (subst IsNetwork c.network.ensures c.law_limits.ensures) are (c.in-Some.value, c.in-Some.ensures)

pub returns-in-Some-clause-gains : goal.returns-in-Some-clause-gains
returns-in-Some-clause-gains c = gained_none c.args.store.now

pub returns-in-Some-ask-clause-existential : goal.returns-in-Some-ask-clause-existential
returns-in-Some-ask-clause-existential c =
    let P = c.args.store.now.network in let h = history c.args.store.now in
    let neighbours = subst (λ N. AreNeighbours N h c.args.x c.gather.new.self.pairs) (c.gather.ensures.network ∙ sym c.requires.network) c.gather.ensures.neighbours in
    let are = subst (AreNeighbours P h c.args.x) (sym c.pairs-in-Some-ask.ensures) neighbours in
    on_ok c.raise.result (λ good same. existential_of P h c.args.x c.pairs-in-Some-ask.result.now (subst IsNetwork c.network.ensures c.law_limits.ensures) are (good same)) c.raise.ensures.good

pub returns-in-None-clause-existential : goal.returns-in-None-clause-existential
returns-in-None-clause-existential c = λ same.
    let P = c.args.store.now.network in let h = history c.args.store.now in
    let neighbours = subst (λ N. AreNeighbours N h c.args.x c.gather.new.self.pairs) (c.gather.ensures.network ∙ sym c.requires.network) c.gather.ensures.neighbours in
    let are = subst (AreNeighbours P h c.args.x) (sym c.pairs-2.ensures) neighbours in
    existential_of P h c.args.x c.pairs-2.result.now (subst IsNetwork c.network.ensures c.law_limits.ensures) are c.in-None.ensures

pub returns-in-None-clause-gains : goal.returns-in-None-clause-gains
returns-in-None-clause-gains c = gained_none c.args.store.now

pub returns-in-Some-clause-sure : goal.returns-in-Some-clause-sure
returns-in-Some-clause-sure c =
    let h = history c.args.store.now in
    let same = c.requires.incidence ∙ sym c.requires.network in
    subst (λ P. AreSure P h c.keep.new.self) same (c.keep.ensures h (subst (λ P. AreSure P h c.is_at_rest.new.rests) (sym same) c.is_at_rest.ensures.sure))

pub returns-in-Some-clause-raises : goal.returns-in-Some-clause-raises
returns-in-Some-clause-raises c = inl (returns-in-Some-clause-existential c refl, refl)

pub returns-in-None-clause-raises : goal.returns-in-None-clause-raises
returns-in-None-clause-raises c = inl (returns-in-None-clause-existential c refl, refl)

pub returns-in-Some-ask-clause-raises : goal.returns-in-Some-ask-clause-raises
returns-in-Some-ask-clause-raises c =
    let P = c.args.store.now.network in let h = history c.args.store.now in
    let neighbours = subst (λ N. AreNeighbours N h c.args.x c.gather.new.self.pairs) (c.gather.ensures.network ∙ sym c.requires.network) c.gather.ensures.neighbours in
    inr (record {
      pairs = c.pairs-in-Some-ask.result.now;
      neighbours = subst (AreNeighbours P h c.args.x) (sym c.pairs-in-Some-ask.ensures) neighbours;
      amount = c.in-Some-ask.alpha;
      asked = subst (λ l. IsAsked P h c.args.limits.threshold c.args.x l c.in-Some-ask.alpha) (c.pairs-2.ensures ∙ sym c.pairs-in-Some-ask.ensures) c.in-Some-ask.ensures;
      rise = c.raise.ensures.rises;
    })
