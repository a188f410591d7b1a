use Rattle.std.proofs.Common.{◌≡◌, ◌-◌, ◌+◌, length}
use Rattle.cfn_wcnf.specs.Gathering.{IsBinary, clauses_onto}
use Rattle.cfn_wcnf.proofs.reading.clauses.Given as goal

abbrev pub invariant-loop : goal.invariant-loop
invariant-loop l =
    (clauses_onto l.builder (l.count - l.counter) l.tokens ≡ clauses_onto l.fn.builder l.count l.fn.tokens) × IsBinary l.builder × (length l.builder.functions ≡ length l.fn.builder.functions + l.counter)
