use Rattle.std.proofs.Common.{◌++◌, subst}
use Rattle.std.proofs.lemmas.Result.{err_from_is_err_and}
use Rattle.cfn_fault.specs.Lines.{AtNodes}
use Rattle.cfn_check.specs.Checking.{Right, opening_lines}
use Rattle.cfn_check.proofs.Verifying.{tree_start, tree_ends}
use Rattle.cfn_check.proofs.certificate.tree.Goals as goal

pub returns-in_err-nodes-clause-stop : goal.returns-in_err-nodes-clause-stop
returns-in_err-nodes-clause-stop c =
    let p = err_from_is_err_and c.from_residual-in_err-nodes.result c.from_residual-in_err-nodes.ensures.1 in
    let start = tree_start c.args.network.now c.args.reader.now c.in_ok-walk.walk c.args.opening.lower c.args.opening.best c.threshold_of-threshold.result c.threshold_of-threshold.ensures c.in_ok-walk.ensures c.requires in
    rw (p.1, p.2) (c.in_err-nodes.ensures.stop c.args.opening.lower c.args.opening.best start)

pub returns-in_err-end-clause-stop : goal.returns-in_err-end-clause-stop
returns-in_err-end-clause-stop c =
    let p = err_from_is_err_and c.from_residual-in_err-end.result c.from_residual-in_err-end.ensures.1 in
    let P = c.args.network.now in
    let start = tree_start P c.args.reader.now c.in_ok-walk.walk c.args.opening.lower c.args.opening.best c.threshold_of-threshold.result c.threshold_of-threshold.ensures c.in_ok-walk.ensures c.requires in
    let done = c.in_ok-nodes.ensures.nodes c.args.opening.lower c.args.opening.best start in
    let version = done.0.version in
    let ls = opening_lines version P c.args.opening.lower c.args.opening.best done.0.values ++ done.0.nodes in
    let right = subst (λ ps. Right P c.nodes.new.reader ls (AtNodes version ps)) done.1 done.0.right in
    rw (p.1, p.2) (rw c.in_ok-nodes.ensures.text at (c.in_err-end.ensures.stop P ls version right))

pub returns-then-least-opening-clause-stop : goal.returns-then-least-opening-clause-stop
returns-then-least-opening-clause-stop c =
    let P = c.args.network.now in
    let start = tree_start P c.args.reader.now c.in_ok-walk.walk c.args.opening.lower c.args.opening.best c.threshold_of-threshold.result c.threshold_of-threshold.ensures c.in_ok-walk.ensures c.requires in
    let done = c.in_ok-nodes.ensures.nodes c.args.opening.lower c.args.opening.best start in
    let version = done.0.version in
    let ls = opening_lines version P c.args.opening.lower c.args.opening.best done.0.values ++ done.0.nodes in
    let right = subst (λ ps. Right P c.nodes.new.reader ls (AtNodes version ps)) done.1 done.0.right in
    let all = rw c.in_ok-nodes.ensures.text at (c.in_ok-end.ensures.right P ls version right) in
    (tree_ends P c.nodes.new.reader c.nodes.new.walk c.args.reader.now.text c.args.opening.lower c.args.opening.best c.law_limits.ensures done.0 all).refused (rw c.least.ensures at c.if-least-opening.true)

pub returns-clause-ok : goal.returns-clause-ok
returns-clause-ok c =
    let P = c.args.network.now in
    let start = tree_start P c.args.reader.now c.in_ok-walk.walk c.args.opening.lower c.args.opening.best c.threshold_of-threshold.result c.threshold_of-threshold.ensures c.in_ok-walk.ensures c.requires in
    let done = c.in_ok-nodes.ensures.nodes c.args.opening.lower c.args.opening.best start in
    let version = done.0.version in
    let ls = opening_lines version P c.args.opening.lower c.args.opening.best done.0.values ++ done.0.nodes in
    let right = subst (λ ps. Right P c.nodes.new.reader ls (AtNodes version ps)) done.1 done.0.right in
    let all = rw c.in_ok-nodes.ensures.text at (c.in_ok-end.ensures.right P ls version right) in
    (tree_ends P c.nodes.new.reader c.nodes.new.walk c.args.reader.now.text c.args.opening.lower c.args.opening.best c.law_limits.ensures done.0 all).verified (rw c.least.ensures at c.if-least-opening.false)
