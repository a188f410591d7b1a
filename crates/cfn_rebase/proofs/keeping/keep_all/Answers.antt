use Rattle.std.proofs.Common.{◌≡◌, ap, reverse}
use Rattle.std.specs.Prelude.{true, false}
use Rattle.cfn_rebase.specs.Walking.{weights}
use Rattle.cfn_rebase.proofs.Walkings.{walks_own, walks_as, walk_ends, falls}
use Rattle.cfn_rebase.proofs.keeping.keep_all.Goals as goal

pub loop-more-init : goal.loop-more-init
loop-more-init c = record {
  walks = c.in_ok-keep_node.ensures.walks;
  none = λ e. absurd (let f : true ≡ false = e in cc);
}

pub next-requires : goal.next-requires
next-requires c = walks_own c.args.walk.now.ground.network c.args.walk.now.threshold c.args.old.now c.loop-more.walk c.loop-more.invariant.walks

pub loop-more-preserved : goal.loop-more-preserved
loop-more-preserved c = record {
  walks = walks_as c.args.walk.now.ground.network c.args.walk.now.threshold c.args.old.now c.loop-more.walk c.next.new.self c.loop-more.invariant.walks.walking.network c.loop-more.invariant.walks.threshold c.in_ok-more.ensures.walks;
  none = c.in_ok-more.ensures.none;
}

pub loop-more-smaller : goal.loop-more-smaller
loop-more-smaller c = falls _ c.loop-more.more _ _ c.loop-more-test.true c.in_ok-more.ensures.less (λ e. ap (λ ws. weights c.args.old.now (reverse ws)) (c.in_ok-more.ensures.none e))

pub returns : goal.returns
returns c = walk_ends c.args.walk.now.ground.network c.args.walk.now.threshold c.args.old.now c.loop-more.walk c.law_linked.ensures.linked c.loop-more.invariant.walks (c.loop-more.invariant.none c.loop-more-test.false)
