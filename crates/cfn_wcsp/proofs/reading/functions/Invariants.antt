use Rattle.std.proofs.Common.{◌≡◌, [], ◌-◌, ◌+◌, length}
use Rattle.cfn_wcsp.specs.Giving.{state}
use Rattle.cfn_wcsp.specs.Tables.{AreNumbers, functions_onto, tables_of}
use Rattle.cfn_wcsp.proofs.reading.functions.Given as goal

abbrev pub invariant-loop : goal.invariant-loop
invariant-loop l = record {
  so_far : functions_onto l.builder (tables_of l.builder l.shared.items) (l.count - l.counter) (state l.words) ≡ functions_onto l.fn.builder [] l.count (state l.fn.words);
  sizes : l.scope.sizes ≡ l.builder.sizes;
  number : l.scope.number ≡ l.fn.scope.number + l.counter;
  length : length l.builder.functions ≡ length l.fn.builder.functions + l.counter;
  shared : AreNumbers l.builder l.shared.items;
}
