use Rattle.std.proofs.Common.{◌-◌, length, length-append, sym, ap, ◌∙◌, subst, arith}
use Rattle.cfn_vac.proofs.Numbers.{within}
use Rattle.cfn_vac.proofs.Derived.{IsNumbering, next_deletion, numbering_more, all_numbered}
use Rattle.cfn_vac.proofs.numbering.number.Goals as goal

pub set-requires : goal.set-requires
set-requires c =
    let P = c.args.network.now in let d = c.requires.derivation in let n = c.loop-deletion.invariant in
    let deletion = next_deletion P d.0 d.1 d.2 c.args.deletions.now c.loop-deletion.left.now c.in-Some.later.now c.loop-deletion.positions c.in-Some.deletion.now d.3 n c.in-Some.ensures.cases.0 in
    within P c.loop-deletion.positions c.in-Some.deletion.now.variable c.in-Some.deletion.now.value n.numbered.shape deletion.value

pub loop-deletion-preserved : goal.loop-deletion-preserved
loop-deletion-preserved c =
    let P = c.args.network.now in let d = c.requires.derivation in let n = c.loop-deletion.invariant in
    subst (IsNumbering P c.args.deletions.now c.in-Some.later.now) (sym c.set.ensures)
    (numbering_more P d.0 d.1 d.2 c.args.deletions.now c.loop-deletion.left.now c.in-Some.later.now (c.count-count.result - length c.loop-deletion.left.now) c.loop-deletion.positions c.in-Some.deletion.now d.3 n c.in-Some.ensures.cases.0 (let all = ap length n.all ∙ length-append n.seen c.loop-deletion.left.now in let count = c.count-count.ensures in omega (arith, all, count)) (let fits = c.count-count.type_inv in let count = c.count-count.ensures in omega (arith, fits, count)))

pub returns : goal.returns
returns c =
    let all = all_numbered c.args.network.now c.args.deletions.now c.loop-deletion.left.now c.loop-deletion.positions c.loop-deletion.invariant c.in_default.ensures.cases in
    record { positions = all.0; none = all.1 }
