use Rattle.std.proofs.Common.{subst}
use Rattle.cfn_model.specs.Paths.{TameBlock}
use Rattle.cfn_store.specs.Standing.{Standing}
use Rattle.cfn_rebase.proofs.Grounds.{tame_block}
use Rattle.cfn_rebase.proofs.ground.Ground.law_stays_tame.Goals as goal

pub returns : goal.returns
returns c = subst (λ (t : Standing). TameBlock t.network t.base t.block) c.self.view_is (tame_block _ _ _ c.law_exact.ensures)
