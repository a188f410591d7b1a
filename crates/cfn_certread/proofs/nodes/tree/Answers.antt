use Rattle.std.proofs.Common.{◌≡◌, List, [], ◌∷◌, ◌++◌, sym, subst, ◌∙◌}
use Rattle.std.proofs.lemmas.Result.{err_from_is_err_and}
use Rattle.cfn_fault.specs.Lines.{End, AtNodes, AtOver}
use Rattle.cfn_proof.specs.declared.tree.Node.{Node}
use Rattle.cfn_proof.specs.Nodes.{IsTree}
use Rattle.cfn_certread.specs.Reading.{IsTreeRead}
use Rattle.cfn_certread.proofs.Telling.{end_goes}
use Rattle.cfn_certread.proofs.NodeLines.{tree_begins, nodes_over, tree_ends}
use Rattle.cfn_certread.proofs.nodes.tree.Goals as goal

pub nodes-requires : goal.nodes-requires
nodes-requires c = (c.requires.0, c.requires.1, tree_begins c.args.reader.now c.in_ok-maker.maker c.requires.1 c.requires.0 c.in_ok-maker.ensures c.requires.2)

pub returns-in_err-_end-clause-stop : goal.returns-in_err-_end-clause-stop
returns-in_err-_end-clause-stop c =
    let p = err_from_is_err_and c.from_residual-in_err-_end.result c.from_residual-in_err-_end.ensures.1 in
    let version = c.requires.0 in
    let ls = c.requires.1 in
    let tree = c.in_ok-nodes.ensures.read version ls (tree_begins c.args.reader.now c.in_ok-maker.maker ls version c.in_ok-maker.ensures c.requires.2) in
    let stands = nodes_over c.nodes.new.reader c.nodes.new.maker ls version tree c.in_ok-nodes.ensures.over in
    rw (p.1, p.2) (rw c.in_ok-nodes.ensures.text at (c.in_err-_end.ensures.stop (ls ++ tree.nodes) (AtNodes version []) stands.read))

pub returns-in_err-_over-clause-stop : goal.returns-in_err-_over-clause-stop
returns-in_err-_over-clause-stop c =
    let p = err_from_is_err_and c.from_residual-in_err-_over.result c.from_residual-in_err-_over.ensures.1 in
    let version = c.requires.0 in
    let ls = c.requires.1 in
    let tree = c.in_ok-nodes.ensures.read version ls (tree_begins c.args.reader.now c.in_ok-maker.maker ls version c.in_ok-maker.ensures c.requires.2) in
    let stands = nodes_over c.nodes.new.reader c.nodes.new.maker ls version tree c.in_ok-nodes.ensures.over in
    let last = end_goes c.nodes.new.reader c.next.new.reader (ls ++ tree.nodes) version _ stands (c.in_ok-_end.ensures.event (ls ++ tree.nodes) (AtNodes version []) stands.read) in
    let text : c.next.new.reader.text ≡ c.args.reader.now.text = c.in_ok-_end.ensures.text ∙ c.in_ok-nodes.ensures.text in
    rw (p.1, p.2) (rw text at (c.in_err-_over.ensures.stop ((ls ++ tree.nodes) ++ End ∷ []) AtOver last.read))

pub returns-clause-read : goal.returns-clause-read
returns-clause-read c = λ version ls start.
    (let tree = c.in_ok-nodes.ensures.read version ls (tree_begins c.args.reader.now c.in_ok-maker.maker ls version c.in_ok-maker.ensures start) in
    let is = c.into_tree-tree.ensures.tree in
    let shared = c.in_ok-share.ensures ∙ is in
    let linked = (subst IsTree is c.into_tree-tree.ensures.linked).linked in
    let read = tree_ends c.args.reader.now c.nodes.new.reader c.next.new.reader c.next-2.new.reader c.nodes.new.maker ls version c.in_ok-_end._end c.in_ok-_over._over linked c.in_ok-nodes.ensures.over tree
    c.in_ok-nodes.ensures.text c.in_ok-_end.ensures.text c.in_ok-_end.ensures.event c.in_ok-_over.ensures.event in
    subst (λ (ns : List Node). IsTreeRead c.args.reader.now.text ls ns) (sym shared) read)
