use Rattle.std.proofs.Common.{◌≡◌, ◌∙◌, ◌+◌, ◌≤◌, ◌^◌, length, ap, arith}
use Rattle.cfn_proof.specs.Nodes.{split_at}
use Rattle.cfn_proof.proofs.Written.{split_is, split_tree}
use Rattle.cfn_proof.proofs.tree.Tree.split.Goals as goal

-- what the method leaves is the split list, which is linked
written : (c : goal.After-push_children) → c.push_children.new.nodes.items ≡ split_at c.args.self.now c.args.leaf.number c.args.decision
written c = split_is _ _ _ _ _ _ _ _ _ (c.in_ok-children.ensures.nodes ∙ c.self.view_is) c.requires.there c.index_mut-node.ensures.value (c.in_ok-children.ensures.first ∙ ap length c.self.view_is) (c.in_ok-children.ensures.second ∙ ap (λ l. length l + 1) c.self.view_is) c.split-node.ensures.is c.push_children.ensures

pub returns-clause-ok : goal.returns-clause-ok
returns-clause-ok c = written c

pub invariant_of-self-2 : goal.invariant_of-self-2
invariant_of-self-2 c =
    let room : length c.args.self.now + 2 ≤ 2 ^ 32 = omega (arith, c.in_ok-children.ensures.few, ap length c.self.view_is) in
    split_tree _ _ _ _ _ c.self.view_is c.self.invariant c.requires.there c.requires.free room c.split-node.ensures.spelled (written c)
