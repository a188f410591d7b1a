use Rattle.std.proofs.Common.{List, sym, subst}
use Rattle.cfn_model.specs.Certificate.{Solution}
use Rattle.cfn_bestcheck.specs.Said.{line_in}
use Rattle.cfn_bestcheck.specs.declared.kinds.TreeLine.{TreeLine}
use Rattle.cfn_bestcheck.specs.declared.kinds.TreeLine.TheVariants.{Node}
use Rattle.cfn_bestcheck.specs.Kinds.{IsTreeLine}
use Rattle.cfn_bestcheck.specs.Tree.{LeavesListed}
use Rattle.cfn_bestcheck.proofs.Nodes.{node_taken, listed_taken}
use Rattle.cfn_bestcheck.proofs.tree.tree_line.Goals as goal

pub returns-in_ok-fault-in-Some-Node-clause-takes : goal.returns-in_ok-fault-in-Some-Node-clause-takes
returns-in_ok-fault-in-Some-Node-clause-takes c = λ claim history paths list k due.
    let line : IsTreeLine (Node c.in-Some-Node.item) (line_in c.args.said) = subst (λ (t : TreeLine). IsTreeLine t (line_in c.args.said)) c.in-Some-Node.field-0-is c.in-Some-Node.ensures in
    rw c.of_certificate.ensures (node_taken c.args.network.now claim c.args.walk.now c.node.new.walk history paths c.requires.same k (line_in c.args.said) line.0 c.in_ok-fault-in-Some-Node.fault line.2 (c.in_ok-fault-in-Some-Node.ensures.takes line.0 history paths line.1 due))

pub returns-in_ok-listed-in-Some-Listed-clause-takes : goal.returns-in_ok-listed-in-Some-Listed-clause-takes
returns-in_ok-listed-in-Some-Listed-clause-takes c = λ claim history paths list k due.
    let leaves = c.in_ok-listed-in-Some-Listed.ensures.leaves history paths due in
    let its = subst (λ (xs : List Solution). LeavesListed c.args.network.now xs c.args.walk.now c.leave_listed.new.walk c.in-Some-Listed.number history paths c.in_ok-listed-in-Some-Listed.listed) (sym list) leaves in
    rw c.fault_unless.ensures (listed_taken c.args.network.now claim c.args.walk.now c.leave_listed.new.walk history paths c.requires.same k (line_in c.args.said) c.in-Some-Listed.number c.in_ok-listed-in-Some-Listed.listed (subst (λ (t : TreeLine). IsTreeLine t (line_in c.args.said)) c.in-Some-Listed.field-0-is c.in-Some-Listed.ensures) its)
