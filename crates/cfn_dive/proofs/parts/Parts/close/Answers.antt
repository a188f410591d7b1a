use Rattle.std.proofs.Common.{◌≡◌, ◌+◌, ◌-◌, Some, refl, sym, ap, ◌∙◌, subst, arith}
use Rattle.cfn_model.specs.Sums.{floor}
use Rattle.cfn_proof.specs.declared.tree.NodeId.{NodeId}
use Rattle.cfn_proof.specs.declared.tree.Node.{Node}
use Rattle.cfn_proof.specs.Nodes.{node_at}
use Rattle.cfn_proof.proofs.CallerLemmas.{close_at-same}
use Rattle.cfn_dive.specs.declared.parts.Parts.{Parts}
use Rattle.cfn_dive.specs.Stack.{Stack}
use Rattle.cfn_dive.specs.Diving.{place_of, places, AreWaiting, IsExpanded}
use Rattle.cfn_dive.proofs.Stacks.{current_open}
use Rattle.cfn_dive.proofs.States.{popped, closed_end, closed_back, still_of, none_waits, below_root}
use Rattle.cfn_dive.proofs.parts.Parts.close.Goals as goal

pub close-requires-clause-there : goal.close-requires-clause-there
close-requires-clause-there c = (current_open _ _ _ _ _ c.requires.closing.stack).there

pub close-requires-clause-free : goal.close-requires-clause-free
close-requires-clause-free c = (current_open _ _ _ _ _ c.requires.closing.stack).free

pub go_back-requires-clause-behind : goal.go_back-requires-clause-behind
go_back-requires-clause-behind c = (popped _ _ _ _ c.args.self.now.store c.args.self.now.waiting.items c.pop.new.self.items c.in-Some.newest refl c.in-Some.ensures.items c.requires.closing.kept.waiting c.requires.closing.stack).behind

pub go_back-requires-clause-longer : goal.go_back-requires-clause-longer
go_back-requires-clause-longer c = (popped _ _ _ _ c.args.self.now.store c.args.self.now.waiting.items c.pop.new.self.items c.in-Some.newest refl c.in-Some.ensures.items c.requires.closing.kept.waiting c.requires.closing.stack).longer

pub go_back-requires-clause-waits : goal.go_back-requires-clause-waits
go_back-requires-clause-waits c = (popped _ _ _ _ c.args.self.now.store c.args.self.now.waiting.items c.pop.new.self.items c.in-Some.newest refl c.in-Some.ensures.items c.requires.closing.kept.waiting c.requires.closing.stack).is

pub returns-in-None-clause-expanded : goal.returns-in-None-clause-expanded
returns-in-None-clause-expanded c =
    let p = c.args.self.now in
    let closing = c.requires.closing in
    let ends = closed_end p.store.network p c.args.growth.now c.args.leaf c.args.block c.close.new.self c.law_linked.ensures.linked c.law_linked-2.ensures.linked c.close.ensures closing (none_waits p.waiting c.in-None.ensures.cases.0) in
    record {
      diving = record {
        kept = record {
          of = still_of p.store.network p p.store c.pop.new.self refl closing.kept.of;
          grown = ends.0;
          waiting = subst (λ ws. AreWaiting p.store.network ws) (sym (none_waits c.pop.new.self c.in-None.ensures.cases.1)) tt;
        };
        at = ends.1;
      };
      nodes = refl;
    }

pub returns-in-Some-clause-expanded : goal.returns-in-Some-clause-expanded
returns-in-Some-clause-expanded c =
    let p = c.args.self.now in
    let g = c.args.growth.now in
    let P = p.store.network in
    let closing = c.requires.closing in
    let w = c.in-Some.newest in
    let ws = c.pop.new.self.items in
    let now = c.go_back.new.self.store in
    let leaf = c.go_back.result in
    let is = c.go_back.ensures in
    let was = popped P g.tree g.base.value c.args.leaf.number p.store p.waiting.items ws w refl c.in-Some.ensures.items closing.kept.waiting closing.stack in
    let back = closed_back P p g c.args.leaf c.args.block c.close.new.self c.law_linked.ensures.linked c.law_linked-2.ensures.linked c.close.ensures closing ws w c.in-Some.ensures.items (g.left - 1) (let l = closing.left in omega (arith, l)) in
    let place : place_of w ≡ record { leaf = leaf.id.number; path = now.base } = ap (λ n. record { leaf = n; path = (place_of w).path }) (ap (λ (i : NodeId). i.number) (sym is.leaf)) ∙ ap (λ h. record { leaf = leaf.id.number; path = h }) (sym is.base) in
    subst (λ (q : Parts). IsExpanded P g (record g { tree = c.close.new.self; current = Some leaf; nodes = g.nodes + 1; left = g.left - 1 }) q) (sym is.same) (record {
      diving = record {
        kept = record {
          of = still_of P p now c.pop.new.self is.network closing.kept.of;
          grown = back.0;
          waiting = was.waiting;
        };
        at = record {
          stack = subst (λ a. Stack c.close.new.self 0 g.base.value a (places ws)) place back.1;
          block = is.block;
          floor = is.floor ∙ ap (λ Q. floor Q now.base) is.network;
          since = is.since;
          root = below_root _ _ is.below;
        };
      };
      nodes = refl;
    })

pub returns-in-None-clause-shut : goal.returns-in-None-clause-shut
returns-in-None-clause-shut c =
    let i = c.args.leaf.number in
    ap (λ l. (node_at l i).end) c.close.ensures ∙ ap (λ (n : Node). n.end) (close_at-same c.args.growth.now.tree i c.args.block (current_open _ _ _ _ _ c.requires.closing.stack).there)

pub returns-in-Some-clause-shut : goal.returns-in-Some-clause-shut
returns-in-Some-clause-shut c =
    let i = c.args.leaf.number in
    ap (λ l. (node_at l i).end) c.close.ensures ∙ ap (λ (n : Node). n.end) (close_at-same c.args.growth.now.tree i c.args.block (current_open _ _ _ _ _ c.requires.closing.stack).there)
