use Rattle.std.proofs.Common.{◌≡◌, subst}
use Rattle.std.specs.Prelude.{IfOk}
use Rattle.cfn_rebase.proofs.ground.Ground.kept_block.Goals as goal

pub returns-then-whole : goal.returns-then-whole
returns-then-whole c = subst (λ l. IfOk c.copy.result (λ kept. kept ≡ l)) (c.requires c.if-whole.true) c.copy.ensures
