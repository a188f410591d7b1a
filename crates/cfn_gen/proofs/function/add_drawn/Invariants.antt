use Rattle.std.proofs.Common.{◌≡◌, ◌++◌, [], drop}
use Rattle.cfn_model.specs.Network.{function_of}
use Rattle.cfn_net.specs.Building.{with_function}
use Rattle.cfn_gen.specs.Generator.{after, drawn}
use Rattle.cfn_gen.proofs.function.add_drawn.Given as goal

-- the costs so far are draws, and the others are still 0
abbrev pub invariant-loop-cell : goal.invariant-loop-cell
invariant-loop-cell l = record {
  state : l.draws ≡ after l.initial.draws l.cell;
  built : l.builder ≡ with_function l.fn.builder (record { scope = l.scope; default = 0; entries = drawn l.initial.draws l.cell ++ drop l.cell (function_of l.fn.builder.sizes l.fn.builder.upper l.scope 0 []).entries });
}
