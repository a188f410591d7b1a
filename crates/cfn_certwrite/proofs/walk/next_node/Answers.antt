use Rattle.std.proofs.Common.{sym, ap, ◌∙◌, ◌∷◌}
use Rattle.cfn_certwrite.proofs.Order.{from_leaf, from_split}
use Rattle.cfn_certwrite.proofs.walk.next_node.Goals as goal

pub returns-in-Free : goal.returns-in-Free
returns-in-Free c = record {
  there = c.next_second.ensures.there;
  order = from_leaf c.args.tree.now c.args.id.number c.node.result.now c.law_linked.ensures.linked c.requires c.node.ensures c.in-Free.is
      ∙ ap (λ t. c.args.id.number ∷ t) c.next_second.ensures.order;
}

pub returns-in-Split-clause-there : goal.returns-in-Split-clause-there
returns-in-Split-clause-there c =
    (c.law_linked.ensures.linked.children c.args.id.number c.in-Split.decision c.in-Split.first c.in-Split.second c.requires (ap (λ n. n.end) (sym c.node.ensures) ∙ c.in-Split.is)).first_there

pub returns-in-Split-clause-order : goal.returns-in-Split-clause-order
returns-in-Split-clause-order c =
    from_split c.args.tree.now c.args.id.number c.in-Split.decision c.in-Split.first c.in-Split.second c.law_linked.ensures.linked c.requires (ap (λ n. n.end) (sym c.node.ensures) ∙ c.in-Split.is)
