use Rattle.std.proofs.Common.{ap, sym, ◌∙◌, arith}
use Rattle.cfn_net.specs.Building.{with_function}
use Rattle.cfn_gen.specs.Generator.{digit, next}
use Rattle.cfn_gen.proofs.Drawing.{after_more, after_none, listed, part_all, part_none, zeros_length, zeros_of}
use Rattle.cfn_gen.proofs.function.add_drawn.Goals as goal

pub loop-cell-init : goal.loop-cell-init
loop-cell-init c = record {
  state = after_none c.args.draws.now;
  built = c.in_ok-begin.ensures.ok ∙ ap (with_function c.args.builder.now) (part_none c.args.builder.now c.args.draws.now c.args.scope.now);
}

pub loop-cell-preserved : goal.loop-cell-preserved
loop-cell-preserved c =
    let P = c.args.builder.now in
    let s = c.args.draws.now in
    let i = c.loop-cell.cell in
    let scope = c.args.scope.now in
    record {
      state = c.take-cost.ensures.state ∙ ap next c.loop-cell.invariant.state ∙ sym (after_more s i);
      built =
          c.list.ensures
          ∙ listed c.law_listing.ensures P c.loop-cell.builder s i c.take-cost.result scope (zeros_of P scope) c.loop-cell.invariant.built
          (omega (arith, zeros_length P scope c.args.tuples c.requires.tuples)) (c.take-cost.ensures.draw ∙ ap (λ t. digit (next t)) c.loop-cell.invariant.state) (omega (arith, c.take-cost.ensures.small, c.requires.upper));
    }

pub returns-clause-added : goal.returns-clause-added
returns-clause-added c =
    let P = c.args.builder.now in
    c.loop-cell.invariant.built
    ∙ ap (with_function P) (part_all P c.args.draws.now c.loop-cell.cell c.args.tuples c.args.scope.now c.requires.tuples c.loop-cell-test.false c.loop-cell.auto.cell-end)
