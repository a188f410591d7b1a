use Rattle.std.proofs.Common.{◌≡◌, ◌∙◌, ◌+◌, ◌≤◌, ◌^◌, length, ap, arith}
use Rattle.cfn_proof.specs.Nodes.{split_behind_at}
use Rattle.cfn_proof.proofs.Written.{split_behind_is, split_behind_tree}
use Rattle.cfn_proof.proofs.tree.Tree.split_behind.Goals as goal

-- what the method leaves is the split list, which is linked
written : (c : goal.After-push_children) → c.push_children.new.nodes.items ≡ split_behind_at c.args.self.now c.args.leaf.number c.args.block c.args.decision
written c = split_behind_is _ _ _ _ _ _ _ _ _ _ (c.in_ok-children.ensures.nodes ∙ c.self.view_is) c.requires.there c.index_mut-parent.ensures.value (c.in_ok-children.ensures.first ∙ ap length c.self.view_is) (c.in_ok-children.ensures.second ∙ ap (λ l. length l + 1) c.self.view_is) c.split-parent.ensures.is c.push_children.ensures ∙ ap (λ block. split_behind_at c.args.self.now c.args.leaf.number block c.args.decision) c.fitted-fitted.ensures.is

pub returns-clause-ok : goal.returns-clause-ok
returns-clause-ok c = written c

pub invariant_of-self-2 : goal.invariant_of-self-2
invariant_of-self-2 c =
    let room : length c.args.self.now + 2 ≤ 2 ^ 32 = omega (arith, c.in_ok-children.ensures.few, ap length c.self.view_is) in
    split_behind_tree _ _ _ _ _ _ c.self.view_is c.self.invariant c.requires.there c.requires.free room c.fitted-fitted.ensures.spelled c.split-parent.ensures.spelled (written c)
