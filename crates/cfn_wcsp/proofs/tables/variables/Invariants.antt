use Rattle.std.proofs.Common.{◌≡◌, ◌-◌}
use Rattle.cfn_model.specs.Reading.{scope_from}
use Rattle.cfn_wcsp.specs.Giving.{state}
use Rattle.cfn_wcsp.proofs.tables.variables.Given as goal

abbrev pub invariant-loop : goal.invariant-loop
invariant-loop l =
    (scope_from l.scope.sizes l.scope.variables (l.arity - l.counter) (state l.words) ≡ scope_from l.fn.scope.sizes l.fn.scope.variables l.arity (state l.fn.words)) × (l.scope.sizes ≡ l.fn.scope.sizes) × (l.scope.number ≡ l.fn.scope.number)
