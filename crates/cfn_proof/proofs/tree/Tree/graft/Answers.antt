use Rattle.std.proofs.Common.{◌≡◌, ◌+◌, ◌<◌, ◌≤◌, ◌^◌, ◌∙◌, length, arith, ap, sym, subst}
use Rattle.cfn_proof.specs.Nodes.{IsTree, graft_at}
use Rattle.cfn_proof.proofs.Packed.{of_ok}
use Rattle.cfn_proof.proofs.Grafts.{all_fit, graft_is, tree_by_graft}
use Rattle.cfn_proof.proofs.tree.Tree.graft.Goals as goal

pub put-requires-clause-fit : goal.put-requires-clause-fit
put-requires-clause-fit c =
    all_fit _ _ _ _ c.piece.invariant.linked c.index_mut.ensures.value (grind (arith, c.if-others-nodes.false, c.len-others.ensures, c.len-nodes.ensures, c.piece.inside.nodes.ok.0))

-- what the method leaves is the graft
written : (c : goal.After-put) → c.put.new.nodes.items ≡ graft_at c.args.self.now c.args.leaf.number c.args.piece
written c =
    graft_is _ _ _ _ _ _ _ _ _ _
    (c.reserve.ensures.items ∙ c.self.view_is)
    (c.len-nodes.ensures ∙ c.self.inside.nodes.ok.0 ∙ ap length c.self.view_is)
    c.requires.there
    c.index.ensures
    c.piece.view_is
    (subst (λ l. 0 < length l) c.piece.view_is c.piece.invariant.linked.some)
    c.index_mut.ensures.value
    (of_ok _ _ (sym c.is_err-2.ensures.value ∙ c.if-is_err-2.false) c.put_behind.ensures.ok)
    c.put.ensures

pub invariant_of-self-2 : goal.invariant_of-self-2
invariant_of-self-2 c =
    let now = c.args.self.now in
    let piece = c.args.piece in
    let room : length now + length piece ≤ 2 ^ 32 + 1 = grind (arith, c.if-others-nodes.false, c.len-others.ensures, c.len-nodes.ensures, c.piece.inside.nodes.ok.0, c.self.inside.nodes.ok.0, ap length c.piece.view_is, ap length c.self.view_is) in
    subst (λ m. IsTree m) (sym (written c)) (tree_by_graft now c.args.leaf.number piece (subst (λ m. IsTree m) c.self.view_is c.self.invariant) (subst (λ m. IsTree m) c.piece.view_is c.piece.invariant) c.requires.there c.requires.free room)
