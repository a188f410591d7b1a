use Rattle.std.proofs.Common.{◌++◌, ◌∙◌}
use Rattle.std.proofs.lemmas.Bool.{iff_false}
use Rattle.std.proofs.lemmas.Result.{err_from_is_err_and}
use Rattle.cfn_fault.specs.Lines.{AtNodes}
use Rattle.cfn_certread.proofs.NodeLines.{some_due, node_told, node_read, items_spelled}
use Rattle.cfn_certread.proofs.nodes.nodes.Goals as goal

pub returns-in_err-event-clause-stop : goal.returns-in_err-event-clause-stop
returns-in_err-event-clause-stop c =
    let p = err_from_is_err_and c.from_residual.result c.from_residual.ensures.1 in
    let version = c.requires.0 in
    let tree = c.loop-reader.invariant.tree version c.requires.1 c.requires.2 in
    rw (p.1, p.2) (rw c.loop-reader.invariant.text at (c.in_err-event.ensures.stop (c.requires.1 ++ tree.nodes) (AtNodes version tree.paths) tree.stands.read))

pub node-requires-clause-some : goal.node-requires-clause-some
node-requires-clause-some c = some_due c.loop-reader.maker.due (iff_false c.is_over.ensures c.loop-reader-test.true)

pub node-requires-clause-spelled : goal.node-requires-clause-spelled
node-requires-clause-spelled c =
    let some = some_due c.loop-reader.maker.due (iff_false c.is_over.ensures c.loop-reader-test.true) in
    let tree = c.loop-reader.invariant.tree c.requires.0 c.requires.1 c.requires.2 in
    items_spelled c.loop-reader.reader c.next.new.reader c.loop-reader.maker c.requires.1 c.requires.0 c.in_ok-event.event tree some c.in_ok-event.ensures.event

pub loop-reader-smaller : goal.loop-reader-smaller
loop-reader-smaller c =
    let some = some_due c.loop-reader.maker.due (iff_false c.is_over.ensures c.loop-reader-test.true) in
    let tree = c.loop-reader.invariant.tree c.requires.0 c.requires.1 c.requires.2 in
    (node_told c.loop-reader.reader c.next.new.reader c.loop-reader.maker c.requires.1 c.requires.0 c.in_ok-event.event tree some c.in_ok-event.ensures.event).shorter c.in_ok-event.ensures.text

pub loop-reader-preserved : goal.loop-reader-preserved
loop-reader-preserved c =
    let some = some_due c.loop-reader.maker.due (iff_false c.is_over.ensures c.loop-reader-test.true) in
    record {
      text = c.in_ok-event.ensures.text ∙ c.loop-reader.invariant.text;
      tree = λ version ls start. node_read c.loop-reader.reader c.next.new.reader c.loop-reader.maker c.node.new.maker ls version c.in_ok-event.event (c.loop-reader.invariant.tree version ls start) some c.in_ok-event.ensures.event c.in_ok-node.ensures;
    }
