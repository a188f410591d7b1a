use Rattle.std.proofs.Common.{◌≡◌, ℕ, ◌<◌}
use Rattle.std.specs.Prelude.{IsTrue}
use Rattle.cfn_queue.specs.Waiting.{is_in}
use Rattle.cfn_derivation.proofs.listed.Listed.fill.Given as goal

abbrev pub invariant-loop-number : goal.invariant-loop-number
invariant-loop-number l = record {
  size : l.self.size ≡ l.initial.self.size;
  all : (i : ℕ) → i < l.number → IsTrue (is_in i l.self.items);
}
