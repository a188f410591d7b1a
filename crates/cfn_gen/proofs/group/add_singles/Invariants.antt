use Rattle.std.proofs.Common.{◌≡◌, ◌*◌}
use Rattle.cfn_gen.specs.Generator.{after, singles}
use Rattle.cfn_gen.specs.Building.{IsTrial, with_functions}
use Rattle.cfn_gen.proofs.group.add_singles.Given as goal

abbrev pub invariant-loop-x : goal.invariant-loop-x
invariant-loop-x l = record {
  state : l.draws ≡ after l.initial.draws (3 * l.x);
  built : l.builder ≡ with_functions l.initial.builder (singles l.initial.draws l.x);
  trial : IsTrial l.size l.builder;
}
