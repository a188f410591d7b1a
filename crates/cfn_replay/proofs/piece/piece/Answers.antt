use Rattle.std.proofs.Common.{sym, subst, arith, ap, ◌+◌, List}
use Rattle.std.proofs.lemmas.Bool.{iff_false}
use Rattle.cfn_certread.proofs.CallerLemmas.{some_due}
use Rattle.cfn_proof.specs.declared.tree.Node.{Node}
use Rattle.cfn_proof.specs.Nodes.{IsTree}
use Rattle.cfn_certread.specs.Making.{Making}
use Rattle.cfn_replay.specs.Piece.{InPiece, IsBroken, IsWholePiece}
use Rattle.cfn_replay.specs.Said.{line_in}
use Rattle.cfn_replay.proofs.Pieces.{told_spelled, told_less, told_more, made_few, text_few, piece_begins, piece_breaks, piece_whole}
use Rattle.cfn_replay.proofs.piece.piece.Goals as goal

pub node-requires-clause-some : goal.node-requires-clause-some
node-requires-clause-some c = some_due c.loop-lines.maker.due (iff_false c.is_over.ensures c.loop-lines-test.true)

pub node-requires-clause-spelled : goal.node-requires-clause-spelled
node-requires-clause-spelled c = told_spelled c.loop-lines.lines c.next-said.new.self (line_in c.next-said.result) c.in-Some.item c.capped.result c.next-said.ensures.tells c.in-Some.ensures c.capped.ensures

pub loop-lines-smaller : goal.loop-lines-smaller
loop-lines-smaller c = told_less c.loop-lines.lines c.next-said.new.self (line_in c.next-said.result) c.in-Some.item c.next-said.ensures.tells c.in-Some.ensures

pub loop-lines-init : goal.loop-lines-init
loop-lines-init c = subst (λ (m : Making). InPiece c.args.lines.now c.args.lines.now m 0) (sym c.in_ok-maker.ensures) (piece_begins c.args.lines.now)

pub returns-in_default-clause-piece : goal.returns-in_default-clause-piece
returns-in_default-clause-piece c =
    subst (IsBroken c.args.lines.now) (sym c.due-line.ensures)
    (piece_breaks c.args.lines.now c.loop-lines.lines c.next-said.new.self c.loop-lines.maker c.loop-lines.made (line_in c.next-said.result) c.loop-lines.invariant (some_due c.loop-lines.maker.due (iff_false c.is_over.ensures c.loop-lines-test.true)) c.next-said.ensures.tells c.in_default.ensures)

pub overflow_add-made : goal.overflow_add-made
overflow_add-made c =
    let few = made_few c.args.lines.now c.loop-lines.lines c.loop-lines.maker c.loop-lines.made c.loop-lines.invariant in
    let one = text_few c.in-Some.item in
    omega (arith, few, one, c.made_by-made.ensures, c.due-line.ensures, c.due-line.type_inv)

pub loop-lines-preserved : goal.loop-lines-preserved
loop-lines-preserved c =
    told_more c.args.lines.now c.loop-lines.lines c.next-said.new.self c.loop-lines.maker c.node.new.maker c.loop-lines.made (c.loop-lines.made + c.made_by-made.result) (line_in c.next-said.result) c.in-Some.item c.capped.result c.loop-lines.invariant
    (some_due c.loop-lines.maker.due (iff_false c.is_over.ensures c.loop-lines-test.true)) c.next-said.ensures.tells c.in-Some.ensures c.capped.ensures c.in_ok-node.ensures (ap (λ n. c.loop-lines.made + n) c.made_by-made.ensures)

pub returns-clause-piece : goal.returns-clause-piece
returns-clause-piece c =
    let is = c.into_tree.ensures.tree in
    let linked = (subst IsTree is c.into_tree.ensures.linked).linked in
    subst (λ (ns : List Node). IsWholePiece c.args.lines.now c.loop-lines.lines ns c.loop-lines.made) (sym is)
    (piece_whole c.args.lines.now c.loop-lines.lines c.loop-lines.maker c.loop-lines.made c.loop-lines.invariant (c.is_over.ensures.0 c.loop-lines-test.false) linked)
