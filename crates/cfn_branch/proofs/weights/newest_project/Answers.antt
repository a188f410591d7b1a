use Rattle.std.proofs.Common.{◌-◌, arith}
use Rattle.cfn_branch.proofs.Blaming.{none_behind, none_more, newest}
use Rattle.cfn_branch.proofs.weights.newest_project.Goals as goal

pub loop-i-init : goal.loop-i-init
loop-i-init c = record { within = (let is = c.block_len-i.ensures in omega (arith, is)); none = none_behind c.args.store.now.block c.block_len-i.result c.block_len-i.ensures }

pub returns-in-Some : goal.returns-in-Some
returns-in-Some c =
    let some = c.loop-i-test.true in let within = c.loop-i.invariant.within in
    newest c.args.store.now.block c.loop-i.i (c.loop-i.i - 1) c.in-Some.f c.step.result (omega (arith, some)) (omega (arith, some, within)) c.step.ensures c.in-Some.ensures c.loop-i.invariant.none

pub loop-i-preserved : goal.loop-i-preserved
loop-i-preserved c =
    let some = c.loop-i-test.true in let within = c.loop-i.invariant.within in
    record {
      within = omega (arith, within);
      none = none_more c.args.store.now.block c.loop-i.i (c.loop-i.i - 1) c.step.result (omega (arith, some)) (omega (arith, some, within)) c.step.ensures c.in_default.ensures c.loop-i.invariant.none;
    }
