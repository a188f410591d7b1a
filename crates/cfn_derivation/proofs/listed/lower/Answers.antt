use Rattle.std.proofs.Common.{◌∙◌, arith}
use Rattle.std.proofs.lemmas.List.{length-set}
use Rattle.std.specs.Prelude.{slice_index}
use Rattle.cfn_derivation.proofs.Flags.{lowered_more, lowered_all, below_at}
use Rattle.cfn_derivation.proofs.listed.lower.Goals as goal

pub bounds-flags-number : goal.bounds-flags-number
bounds-flags-number c =
    let below = below_at _ c.args.items.now c.loop-number.number-index c.requires.below c.loop-number-test.true in
    let size = c.loop-number.invariant.size in
    omega (arith, below, size)

pub loop-number-preserved : goal.loop-number-preserved
loop-number-preserved c = record {
  size = length-set c.loop-number.flags (slice_index c.args.items.now c.loop-number.number-index) _ ∙ c.loop-number.invariant.size;
  down = λ capacity is. lowered_more capacity c.loop-number.flags c.args.items.now c.loop-number.number-index c.loop-number-test.true (c.loop-number.invariant.down capacity is);
}

pub returns-clause-down : goal.returns-clause-down
returns-clause-down c = λ capacity is. lowered_all capacity c.loop-number.flags c.args.items.now c.loop-number.number-index c.loop-number-test.false (c.loop-number.invariant.down capacity is)
