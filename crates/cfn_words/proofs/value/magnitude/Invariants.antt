use Rattle.std.proofs.Common.{◌≡◌, ◌≤◌, drop}
use Rattle.cfn_model.specs.Words.{digits_behind, greatest}
use Rattle.cfn_words.proofs.value.magnitude.Given as goal

abbrev pub invariant-loop-byte : goal.invariant-loop-byte
invariant-loop-byte l = (l.value ≤ greatest) × (digits_behind l.value (drop l.byte-index l.digits) ≡ digits_behind 0 l.digits)
