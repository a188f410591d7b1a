use Rattle.std.proofs.Common.{◌≡◌, length}
use Rattle.std.specs.Prelude.{is_some}
use Rattle.cfn_fault.specs.Decoding.{numbers_in}
use Rattle.cfn_certtext.proofs.fields.Fields.are_numbers.Given as goal

abbrev pub invariant-loop-word : goal.invariant-loop-word
invariant-loop-word l = is_some (numbers_in l.left) ≡ is_some (numbers_in l.fn.self)

abbrev pub decreases-loop-word : goal.decreases-loop-word
decreases-loop-word l = length l.left
