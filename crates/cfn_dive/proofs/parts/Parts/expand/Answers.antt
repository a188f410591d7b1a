use Rattle.std.proofs.Common.{length, sym, ap, ◌∙◌, subst, arith}
use Rattle.cfn_model.specs.Tree.{CanClose}
use Rattle.cfn_store.specs.Standing.{history}
use Rattle.cfn_dive.specs.declared.parts.Parts.{Parts}
use Rattle.cfn_net.specs.Scoring.{Scoring}
use Rattle.cfn_dive.specs.Deciding.{IsByRule}
use Rattle.cfn_dive.specs.Diving.{IsSettledOrSpent}
use Rattle.cfn_low.specs.Holding.{Holding, price_of}
use Rattle.cfn_proof.specs.Nodes.{node_at}
use Rattle.cfn_dive.specs.Blaming.{IsWeighed}
use Rattle.cfn_dive.specs.Enforcing.{Finds}
use Rattle.cfn_dive.proofs.Naming.{split_where_ok, named_before}
use Rattle.cfn_dive.proofs.Blaming.{on_ok, weighed_dead, weighed_alive}
use Rattle.cfn_dive.proofs.Onwards.{diving_lower, closes_at_once, from_settled, from_spent, settled_alive, spent_alive}
use Rattle.cfn_dive.proofs.parts.Parts.expand.Goals as goal
use Rattle.cfn_dive.proofs.parts.Parts.expand.Goals.{in-Settled, in-Spent}

pub close-requires : goal.close-requires
close-requires g c =
    let p = c.args.self.now in
    let old = c.args.growth.now in
    let falls = c.look-growth.ensures.falls in
    let at = c.requires.threshold in
    let reached = c.if-leaf-from.true in
    let from = c.from.ensures in
    record {
      closing = closes_at_once p.store.network p old c.args.leaf c.look-growth.result c.new.result c.requires.diving c.requires.current (omega (arith, falls, at)) c.new.ensures (omega (arith, reached, from)) c.law_block_stays_tame.ensures c.requires.left c.requires.few;
    }

pub enforce-requires-clause-diving : goal.enforce-requires-clause-diving
enforce-requires-clause-diving g c =
    let p = c.args.self.now in
    let falls = c.look-growth.ensures.falls in
    let at = c.requires.threshold in
    diving_lower p.store.network p c.args.growth.now c.args.leaf c.look-growth.result c.requires.diving c.requires.current (omega (arith, falls, at))

pub divide-requires-clause-settled : goal.divide-requires-clause-settled
divide-requires-clause-settled g c =
    let s = c.enforce.new.self.store in
    let k = c.look-growth.result in
    let found = c.in_ok-enforce.field-0 in
    subst (λ (p : Parts). IsSettledOrSpent c.match-branch-2.settled p.store k) (sym c.decide.ensures.same)
    (elim c.match-branch-2.branch [
      | in-Settled w ↦ from_settled s k found c.match-branch-2.settled w.settled-is w.in-Settled.is c.in_ok-enforce.ensures.finds
      | in-Spent w ↦ from_spent c.args.network.now s k found c.match-branch-2.settled w.settled-is w.in-Spent.is (c.requires.network ∙ sym c.enforce.ensures.of.network) c.in_ok-enforce.ensures.spent
    ])

pub conclude-requires-clause-alive : goal.conclude-requires-clause-alive
conclude-requires-clause-alive g c =
    let s = c.enforce.new.self.store in
    let k = c.look-growth.result in
    let found = c.in_ok-enforce.field-0 in
    subst (λ (p : Parts). CanClose p.store.network (history p.store) k → ⊥) (sym c.decide.ensures.same)
    (elim c.match-branch-2.branch [
      | in-Settled w ↦ settled_alive s.network (history s) k found w.in-Settled.is c.in_ok-enforce.ensures.finds
      | in-Spent w ↦ spent_alive s.network (history s) k found w.in-Spent.is c.in_ok-enforce.ensures.finds
    ])

pub returns-in-Some-clause-named : goal.returns-in-Some-clause-named
returns-in-Some-clause-named g c =
    let old = c.args.self.now in
    let grown = c.args.growth.now in
    let found = c.enforce.new.self in
    let kept = c.decide.new.self in
    let d = c.in-Some.decision in
    let store = ap (λ (p : Parts). p.store) c.decide.ensures.same in
    let begins = c.in_ok-enforce.ensures.begins in
    split_where_ok c.divide.result old.rule old.store.network old.weights c.args.holder.now.held old.store.base kept.store (node_at grown.tree c.args.leaf.id.number)
    (node_at c.divide.new.growth.tree c.args.leaf.id.number) d (length grown.tree)
    (ap (λ (p : Parts). p.store.network) c.decide.ensures.same ∙ c.enforce.ensures.of.network)
    (ap (λ (p : Parts). p.store.base) c.decide.ensures.same ∙ sym begins.base)
    (subst (λ s. IsByRule old.rule s old.weights c.args.holder.now.held d) (sym store)
    (named_before found.rule old.rule found.store found.weights old.weights c.best.result.now.held c.args.holder.now.held d c.enforce.ensures.rule c.enforce.ensures.weights
    (ap (λ (b : Scoring). b.held) c.best.ensures ∙ ap (λ (h : Holding). h.held) c.look-growth.ensures.seen) c.in-Some.ensures.named))
    c.divide.ensures.split

pub returns-in-Dead-clause-weighed : goal.returns-in-Dead-clause-weighed
returns-in-Dead-clause-weighed g c =
    let old = c.args.self.now in
    let s = c.enforce.new.self.store in
    let k = c.look-growth.result in
    let most = price_of g.M.Incumbent.network c.args.holder.now in
    let least = c.close_dead.new.growth.threshold in
    let same = c.close_dead.ensures.threshold in
    on_ok c.close_dead.result (IsWeighed old.store.network old.store.base least most old.weights c.close_dead.new.self.weights)
    (weighed_dead old.store.network s old.store.base k least most old.weights c.enforce.new.self.weights c.close_dead.new.self.weights c.enforce.ensures.of.network (sym c.in_ok-enforce.ensures.begins.base)
    c.in_ok-enforce.ensures.expanding.runs c.in_ok-enforce.ensures.groups (subst (Finds s.network (history s) k) c.in-Dead.is c.in_ok-enforce.ensures.finds) c.enforce.ensures.weights c.close_dead.ensures.blames (omega (arith, same)) c.look-growth.ensures.below)

pub returns-in-Some-clause-weighed : goal.returns-in-Some-clause-weighed
returns-in-Some-clause-weighed g c =
    let old = c.args.self.now in
    let s = c.enforce.new.self.store in
    let k = c.look-growth.result in
    let found = c.in_ok-enforce.field-0 in
    let most = price_of g.M.Incumbent.network c.args.holder.now in
    let least = c.divide.new.growth.threshold in
    let same = c.divide.ensures.threshold in
    on_ok c.divide.result (IsWeighed old.store.network old.store.base least most old.weights c.divide.new.self.weights)
    (weighed_alive old.store.network s old.store.base k least most c.match-branch-2.settled old.weights c.divide.new.self.weights c.enforce.ensures.of.network (sym c.in_ok-enforce.ensures.begins.base) c.in_ok-enforce.ensures.expanding.runs c.in_ok-enforce.ensures.groups
    (elim c.match-branch-2.branch [
      | in-Settled w ↦ from_settled s k found c.match-branch-2.settled w.settled-is w.in-Settled.is c.in_ok-enforce.ensures.finds
      | in-Spent w ↦ from_spent c.args.network.now s k found c.match-branch-2.settled w.settled-is w.in-Spent.is (c.requires.network ∙ sym c.enforce.ensures.of.network) c.in_ok-enforce.ensures.spent
    ])
    (elim c.match-branch-2.branch [
      | in-Settled w ↦ settled_alive s.network (history s) k found w.in-Settled.is c.in_ok-enforce.ensures.finds
      | in-Spent w ↦ spent_alive s.network (history s) k found w.in-Spent.is c.in_ok-enforce.ensures.finds
    ])
    (c.divide.ensures.weights ∙ ap (λ (p : Parts). p.weights) c.decide.ensures.same ∙ c.enforce.ensures.weights) (omega (arith, same)) c.look-growth.ensures.below)

pub returns-clause-weighed : goal.returns-clause-weighed
returns-clause-weighed g c =
    let old = c.args.self.now in
    let s = c.enforce.new.self.store in
    let k = c.look-growth.result in
    let found = c.in_ok-enforce.field-0 in
    let most = price_of g.M.Incumbent.network c.args.holder.now in
    let least = c.conclude.new.growth.threshold in
    let same = c.conclude.ensures.threshold in
    let falls = c.conclude.ensures.falls.seen in
    let read = ap (λ (h : Holding). h.seen) c.look-growth.ensures.seen in
    on_ok c.conclude.result (IsWeighed old.store.network old.store.base least most old.weights c.conclude.new.self.weights)
    (weighed_alive old.store.network s old.store.base k least most c.match-branch-2.settled old.weights c.conclude.new.self.weights c.enforce.ensures.of.network (sym c.in_ok-enforce.ensures.begins.base) c.in_ok-enforce.ensures.expanding.runs c.in_ok-enforce.ensures.groups
    (elim c.match-branch-2.branch [
      | in-Settled w ↦ from_settled s k found c.match-branch-2.settled w.settled-is w.in-Settled.is c.in_ok-enforce.ensures.finds
      | in-Spent w ↦ from_spent c.args.network.now s k found c.match-branch-2.settled w.settled-is w.in-Spent.is (c.requires.network ∙ sym c.enforce.ensures.of.network) c.in_ok-enforce.ensures.spent
    ])
    (elim c.match-branch-2.branch [
      | in-Settled w ↦ settled_alive s.network (history s) k found w.in-Settled.is c.in_ok-enforce.ensures.finds
      | in-Spent w ↦ spent_alive s.network (history s) k found w.in-Spent.is c.in_ok-enforce.ensures.finds
    ])
    (c.conclude.ensures.weights ∙ ap (λ (p : Parts). p.weights) c.decide.ensures.same ∙ c.enforce.ensures.weights) (omega (arith, same, falls, read)) c.look-growth.ensures.below)
