use Rattle.std.proofs.Common.{◌≡◌, take}
use Rattle.cfn_rebase.proofs.best.in_32_bits.Given as goal

abbrev pub invariant-loop-value : goal.invariant-loop-value
invariant-loop-value l = l.narrow.items ≡ take l.value-index l.values
