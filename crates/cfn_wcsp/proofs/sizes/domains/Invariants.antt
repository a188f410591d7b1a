use Rattle.std.proofs.Common.{◌≡◌, ◌-◌, length}
use Rattle.cfn_model.specs.Reading.{sizes_at}
use Rattle.cfn_wcsp.specs.Giving.{state}
use Rattle.cfn_wcsp.proofs.Repeating.{with_front, SizesSoFar}
use Rattle.cfn_wcsp.proofs.sizes.domains.Given as goal

abbrev pub invariant-loop : goal.invariant-loop
invariant-loop l =
    (with_front l.sizes.items (sizes_at (l.variables - l.counter) (state l.words)) ≡ sizes_at l.variables (state l.fn.words)) × (length l.sizes.items ≡ l.counter) × SizesSoFar l.sizes.items
