use Rattle.std.proofs.Common.{refl, sym}
use Rattle.cfn_kbest.proofs.Expansions.{may_divide}
use Rattle.cfn_kbest.proofs.expanding.divide.Goals as goal

pub returns : goal.returns
returns c =
    let s = c.args.parts.now.store in (
      may_divide c.args.network.now s c.args.threshold c.in_ok-block.block c.args.decision c.floor-low.result c.requires.of.network c.requires.runs c.law_block_stays_tame.ensures c.requires.splits c.in_ok-block.ensures c.floor-low.ensures,
      refl,
      sym c.in_ok-block.ensures,
      c.requires.room,
      c.requires.settled,
    )
