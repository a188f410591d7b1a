use Rattle.std.proofs.Common.{arith, false, refl, ◌∙◌}
use Rattle.std.specs.Prelude.{slice_set}
use Rattle.cfn_derivation.proofs.Banning.{row_more, row_down, length_set}
use Rattle.cfn_derivation.proofs.bans.lower.Goals as goal

pub loop-i-preserved : goal.loop-i-preserved
loop-i-preserved c = record {
  size = length_set c.loop-i.row c.loop-i.i false ∙ c.loop-i.invariant.size;
  down = λ k h. row_more c.loop-i.row (slice_set c.loop-i.row c.loop-i.i false) c.loop-i.i refl c.loop-i.invariant.down (omega (arith, c.loop-i-test.true, c.loop-i.invariant.size)) k h;
}

pub returns-clause-down : goal.returns-clause-down
returns-clause-down c = row_down c.loop-i.row c.loop-i.i (omega (arith, c.loop-i-test.false, c.loop-i.invariant.size)) c.loop-i.invariant.down
