use Rattle.std.proofs.Common.{sym, refl, min}
use Rattle.std.proofs.lemmas.Result.{err_from_is_err_and}
use Rattle.cfn_leaves.specs.Out.{task_at}
use Rattle.cfn_leaves.proofs.leaves.Leaves.hand_out.Goals as goal

pub returns-in_err-due-clause-hands : goal.returns-in_err-due-clause-hands
returns-in_err-due-clause-hands c =
    let p = err_from_is_err_and c.from_residual.result c.from_residual.ensures.1 in
    rw (p.1, p.2) (refl, c.in_err-due.ensures)

pub returns-clause-hands : goal.returns-clause-hands
returns-clause-hands c =
    let due = c.in_ok-due.due in
    let next = c.in_ok-due.ensures in
    record {
      task = task_at due.leaf.leaf c.args.worker (min c.args.want due.left) due.leaf.floor next.path;
      takes = c.lend-grant.ensures.lends next.path next.of;
      leaf = sym c.from.ensures;
      grant = sym c.lend-grant.ensures.grant;
    }
