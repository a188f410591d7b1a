use Rattle.std.proofs.Common.{◌≡◌, ◌*◌}
use Rattle.cfn_gen.specs.Generator.{after, pairs}
use Rattle.cfn_gen.specs.Building.{IsTrial, with_functions}
use Rattle.cfn_gen.proofs.group.add_pairs.Given as goal

abbrev pub invariant-loop-x : goal.invariant-loop-x
invariant-loop-x l = record {
  state : l.draws ≡ after l.initial.draws (9 * l.x);
  built : l.builder ≡ with_functions l.initial.builder (pairs l.initial.draws l.apart l.x);
  trial : IsTrial l.size l.builder;
}
