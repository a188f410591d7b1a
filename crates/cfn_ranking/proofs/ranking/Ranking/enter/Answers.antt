use Rattle.std.proofs.Common.{◌≡◌, ◌≤◌, List, length, sym, ap, ◌∙◌, subst, arith}
use Rattle.std.specs.List.{AllByRecursion}
use Rattle.cfn_model.specs.declared.limits.TheConstants.{GREATEST}
use Rattle.cfn_model.specs.declared.step.Event.{Event}
use Rattle.cfn_model.specs.Certificate.{Solution}
use Rattle.cfn_proof.specs.Nodes.{Before}
use Rattle.cfn_best.specs.List.{threshold_of}
use Rattle.cfn_ranking.specs.Certificates.{solutions_of}
use Rattle.cfn_ranking.specs.Ranked.{Ranked, IsRanked}
use Rattle.cfn_ranking.specs.Changes.{IsPlaceOf, KeepsPaths, Leaves}
use Rattle.cfn_ranking.proofs.Lists.{as_many}
use Rattle.cfn_ranking.proofs.Entries.{can_stay, enters, keeps_paths}
use Rattle.cfn_ranking.proofs.Places.{listable}
use Rattle.cfn_ranking.proofs.ranking.Ranking.enter.Goals as goal

pub exchange-requires-clause-long : goal.exchange-requires-clause-long
exchange-requires-clause-long c = as_many c.args.network.now c.args.self.now c.args.self.now.list c.args.self.now.leaves c.requires.ranked.kept.leaves

pub exchange-requires-clause-stays : goal.exchange-requires-clause-stays
exchange-requires-clause-stays c = can_stay c.args.network.now c.args.self.now c.args.leaf.number c.requires.ranked c.requires.waits

pub returns-clause-ranked : goal.returns-clause-ranked
returns-clause-ranked c =
    let P = c.args.network.now in
    let r = c.args.self.now in
    let now = c.exchange.new.self in
    let s : Solution = record { cost = c.args.cost; values = c.args.values.now } in
    let same : record { cost = c.args.cost; values = c.in_ok-values.values.items } ≡ s = ap (λ v. record { cost = c.args.cost; values = v }) c.in_ok-values.ensures.items in
    let leaves = subst (λ t. (history : List Event) → Before r.nodes c.args.leaf.number history → Leaves P history r.threshold c.args.block t) (sym same) c.requires.leaves in
    let place : IsPlaceOf r.list s c.in-Some.place = subst (λ l. IsPlaceOf l s c.in-Some.place) (ap (λ (t : Ranked). t.list) c.self.view_is) (subst (λ l. IsPlaceOf (solutions_of l) s c.in-Some.place) c.deref.ensures.value c.in-Some.ensures) in
    let done = enters P r now c.args.leaf c.args.block c.in-Some.place c.price-self-inside.result _ c.requires.ranked c.requires.waits leaves (subst (λ t. IsPlaceOf r.list t c.in-Some.place) (sym same) place) c.in_ok-exchange.ensures.ok c.law_linked.ensures (c.price-self-inside.ensures ∙ ap (λ u. threshold_of u now.count now.list) c.ub.ensures) in
    subst (λ (t : Ranked). IsRanked P (record t { threshold = c.price-self-inside.result })) (sym c.self-2.view_is) done

pub invariant_of-exchange-clause-cost_fits : goal.invariant_of-exchange-clause-cost_fits
invariant_of-exchange-clause-cost_fits c = (listable c.args.network.now c.args.self.now c.args.leaf c.args.block (record { cost = c.args.cost; values = c.args.values.now }) c.law_limits.ensures c.requires.ranked c.requires.waits c.requires.leaves).cost

pub invariant_of-exchange-clause-values_some : goal.invariant_of-exchange-clause-values_some
invariant_of-exchange-clause-values_some c = let l = ap length c.in_ok-values.ensures.items in let n = (listable c.args.network.now c.args.self.now c.args.leaf c.args.block (record { cost = c.args.cost; values = c.args.values.now }) c.law_limits.ensures c.requires.ranked c.requires.waits c.requires.leaves).some in omega (arith, l, n)

pub invariant_of-exchange-clause-values_fit : goal.invariant_of-exchange-clause-values_fit
invariant_of-exchange-clause-values_fit c = subst (λ v. AllByRecursion (λ a. a ≤ GREATEST) v) (sym c.in_ok-values.ensures.items) (listable c.args.network.now c.args.self.now c.args.leaf c.args.block (record { cost = c.args.cost; values = c.args.values.now }) c.law_limits.ensures c.requires.ranked c.requires.waits c.requires.leaves).small

pub returns-clause-paths : goal.returns-clause-paths
returns-clause-paths c =
    let r = c.args.self.now in
    subst (λ (t : Ranked). KeepsPaths r.nodes t.nodes) (sym c.self-2.view_is)
    (keeps_paths c.args.network.now r c.exchange.new.self c.args.leaf c.args.block c.in-Some.place _ c.requires.ranked c.requires.waits c.in_ok-exchange.ensures.ok)
