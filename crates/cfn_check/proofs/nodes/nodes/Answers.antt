use Rattle.std.proofs.Common.{◌≡◌, subst, ◌∙◌}
use Rattle.std.specs.Prelude.{Option}
use Rattle.std.proofs.lemmas.Bool.{iff_false}
use Rattle.std.proofs.lemmas.Result.{err_from_is_err_and}
use Rattle.cfn_fault.specs.declared.kind.FaultKind.{FaultKind}
use Rattle.cfn_fault.specs.Nodes.{Item}
use Rattle.cfn_fault.specs.Lines.{Node}
use Rattle.cfn_certtext.specs.Reading.{item_of}
use Rattle.cfn_check.specs.Taking.{Takes}
use Rattle.cfn_check.proofs.Lines.{first_path, node_right, node_stop, due_next, shorter_next}
use Rattle.cfn_check.proofs.nodes.nodes.Goals as goal

pub returns-in_err-event-clause-stop : goal.returns-in_err-event-clause-stop
returns-in_err-event-clause-stop c =
    let p = err_from_is_err_and c.from_residual.result c.from_residual.ensures.1 in
    rw (p.1, p.2) (λ lower best start.
    let tree = c.loop-reader.invariant.tree lower best start in
    rw c.loop-reader.invariant.text at (c.in_err-event.ensures.stop c.args.network.now _ _ tree.right))

pub returns-in-Some-clause-stop : goal.returns-in-Some-clause-stop
returns-in-Some-clause-stop c = λ lower best start.
    let tree = c.loop-reader.invariant.tree lower best start in
    let first = first_path c.loop-reader.walk.paths (iff_false c.is_over.ensures c.loop-reader-test.true) in
    let takes = λ (it : Item) (is : c.in_ok-event.event.item ≡ item_of (Node it)). subst (λ (f : Option FaultKind). Takes c.loop-reader.walk c.node.new.walk it first.0 first.1 f) c.in-Some.is (c.in_ok-kind.ensures.takes it first.0 first.1 is first.2) in
    rw c.loop-reader.invariant.text at (node_stop c.args.network.now c.loop-reader.reader c.next.new.reader c.loop-reader.walk c.node.new.walk lower best first.0 first.1 c.in_ok-event.event c.in-Some.kind first.2 c.in_ok-event.ensures.text c.in_ok-event.ensures.event takes tree)

pub loop-reader-smaller : goal.loop-reader-smaller
loop-reader-smaller c =
    let first = first_path c.loop-reader.walk.paths (iff_false c.is_over.ensures c.loop-reader-test.true) in
    shorter_next c.loop-reader.reader c.next.new.reader c.loop-reader.walk first.0 first.1 c.in_ok-event.event first.2 c.in_ok-event.ensures.text c.in_ok-event.ensures.event c.loop-reader.invariant.due

pub loop-reader-preserved : goal.loop-reader-preserved
loop-reader-preserved c =
    let first = first_path c.loop-reader.walk.paths (iff_false c.is_over.ensures c.loop-reader-test.true) in
    let takes = λ (it : Item) (is : c.in_ok-event.event.item ≡ item_of (Node it)). subst (λ (f : Option FaultKind). Takes c.loop-reader.walk c.node.new.walk it first.0 first.1 f) c.in_default.is (c.in_ok-kind.ensures.takes it first.0 first.1 is first.2) in
    record {
      text = c.in_ok-event.ensures.text ∙ c.loop-reader.invariant.text;
      network = c.in_ok-kind.ensures.network ∙ c.loop-reader.invariant.network;
      due = due_next c.loop-reader.reader c.next.new.reader c.loop-reader.walk c.node.new.walk first.0 first.1 c.in_ok-event.event first.2 c.in_ok-event.ensures.event takes c.loop-reader.invariant.due;
      tree = λ lower best start. node_right c.args.network.now c.loop-reader.reader c.next.new.reader c.loop-reader.walk c.node.new.walk lower best first.0 first.1 c.in_ok-event.event first.2 c.in_ok-event.ensures.event takes (c.loop-reader.invariant.tree lower best start);
    }
