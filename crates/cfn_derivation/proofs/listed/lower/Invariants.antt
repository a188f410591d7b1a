use Rattle.std.proofs.Common.{◌≡◌, ℕ, length, drop}
use Rattle.cfn_queue.specs.Waiting.{IsQueue}
use Rattle.cfn_derivation.proofs.listed.lower.Given as goal

abbrev pub invariant-loop-number : goal.invariant-loop-number
invariant-loop-number l = record {
  size : length l.flags ≡ length l.initial.flags;
  down : (capacity : ℕ) → IsQueue capacity l.initial.flags l.items → IsQueue capacity l.flags (drop l.number-index l.items);
}
