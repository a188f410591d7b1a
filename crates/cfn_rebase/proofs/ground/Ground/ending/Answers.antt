use Rattle.std.proofs.Common.{◌≡◌, ◌∙◌, sym}
use Rattle.std.specs.Prelude.{true, false}
use Rattle.cfn_rebase.proofs.Ended.{ends_cut, stays_open, is_opened, stays_closed, is_joined, stays_split}
use Rattle.cfn_rebase.proofs.ground.Ground.ending.Goals as goal

pub returns-then-not-whole : goal.returns-then-not-whole
returns-then-not-whole c = ends_cut c.args.self.now.network c.args.self.now.base c.args.threshold c.args.node.now c.args.self.now.block c.args.whole c.if-not-whole.true c.requires

pub returns-in-Free : goal.returns-in-Free
returns-in-Free c = stays_open c.args.self.now.network c.args.self.now.base c.args.threshold c.args.node.now c.args.self.now.block c.args.whole c.if-not-whole.false c.requires c.in-Free.is

pub returns-then-can_close : goal.returns-then-can_close
returns-then-can_close c = stays_closed c.args.self.now.network c.args.self.now.base c.args.threshold c.args.node.now c.args.self.now.block c.args.whole c.if-not-whole.false c.requires c.in-Shut.is (c.can_close.ensures.0 c.if-can_close.true)

pub returns-else-can_close : goal.returns-else-can_close
returns-else-can_close c = is_opened c.args.self.now.network c.args.self.now.base c.args.threshold c.args.node.now c.args.self.now.block c.args.whole c.if-not-whole.false c.requires c.in-Shut.is
    (λ can. let e : true ≡ false = sym (c.can_close.ensures.1 can) ∙ c.if-can_close.false in cc)

pub returns-then-splits : goal.returns-then-splits
returns-then-splits c = stays_split c.args.self.now.network c.args.self.now.base c.args.threshold c.args.node.now c.args.self.now.block c.args.whole c.if-not-whole.false c.requires _ _ _ c.in-Split.is (c.splits.ensures.0 c.if-splits.true)

pub returns-else-splits : goal.returns-else-splits
returns-else-splits c = is_joined c.args.self.now.network c.args.self.now.base c.args.threshold c.args.node.now c.args.self.now.block c.args.whole c.if-not-whole.false c.requires _ _ _ c.in-Split.is
    (λ can. let e : true ≡ false = sym (c.splits.ensures.1 can) ∙ c.if-splits.false in cc)
