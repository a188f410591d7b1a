use Rattle.std.proofs.Common.{sym, subst}
use Rattle.cfn_vac.specs.declared.numbering.TheConstants.{NONE}
use Rattle.cfn_vac.proofs.Numbers.{within}
use Rattle.cfn_vac.proofs.Derived.{IsTaking, taking_start, taken_value, taking_more, all_taken_back}
use Rattle.cfn_vac.proofs.numbering.take_back.Goals as goal

pub loop-deletion-init : goal.loop-deletion-init
loop-deletion-init c = taking_start c.args.network.now NONE c.args.deletions.now c.args.positions.now c.requires.none

pub set-requires : goal.set-requires
set-requires c =
    let P = c.args.network.now in let d = c.requires.derivation in let t = c.loop-deletion.invariant in
    within P c.loop-deletion.positions c.in-Some.deletion.now.variable c.in-Some.deletion.now.value t.rest.shape
    (taken_value P d.0 d.1 d.2 NONE c.args.deletions.now c.loop-deletion.left.now c.in-Some.later.now c.loop-deletion.positions c.in-Some.deletion.now d.3 t c.in-Some.ensures.cases.0)

pub loop-deletion-preserved : goal.loop-deletion-preserved
loop-deletion-preserved c =
    let P = c.args.network.now in let d = c.requires.derivation in let t = c.loop-deletion.invariant in
    let value = taken_value P d.0 d.1 d.2 NONE c.args.deletions.now c.loop-deletion.left.now c.in-Some.later.now c.loop-deletion.positions c.in-Some.deletion.now d.3 t c.in-Some.ensures.cases.0 in
    subst (IsTaking P NONE c.args.deletions.now c.in-Some.later.now) (sym c.set.ensures)
    (taking_more P NONE c.args.deletions.now c.loop-deletion.left.now c.in-Some.later.now c.loop-deletion.positions c.in-Some.deletion.now t c.in-Some.ensures.cases.0 value)

pub returns : goal.returns
returns c = all_taken_back c.args.network.now NONE c.args.deletions.now c.loop-deletion.left.now c.loop-deletion.positions c.loop-deletion.invariant c.in_default.ensures.cases
