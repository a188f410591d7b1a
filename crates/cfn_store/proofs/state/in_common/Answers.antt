use Rattle.std.proofs.Common.{rules, arith, ◌≡◌, ◌∙◌, ◌<◌, ◌++◌, length, get_or, take, ap}
use Rattle.cfn_store.specs.Events.{with_first}
use Rattle.cfn_store.proofs.Onward.{taken_out, one_in_common}
use Rattle.cfn_store.proofs.state.in_common.Goals as goal

pub loop-next-preserved : goal.loop-next-preserved
loop-next-preserved c =
    let trail = c.args.trail.now in
    let common = c.loop-next.common in
    let left = c.loop-next.path in
    let event = c.in-Some.event in
    let there : common < length trail = search rules in
    let same : get_or trail common event ≡ event = search rules in
    let whole = c.loop-next.invariant.1 ∙ ap (λ n. take common trail ++ with_first n left) c.in-Some.is in (
      omega (arith, there),
      one_in_common trail c.args.path.now left common event event c.next-next-in-Some.result c.next-next-in-Some.new.self there same whole (taken_out left c.next-next-in-Some.new.self c.next-next-in-Some.result c.next-next-in-Some.ensures.steps),
    )
