use Rattle.std.proofs.Common.{◌∷◌, [], ap, sym, subst, arith}
use Rattle.std.proofs.lemmas.List.{append-nil}
use Rattle.std.proofs.lemmas.List.FromFn.{length-map-range_with_len}
use Rattle.cfn_gen.specs.Generator.{drawn, single, singles}
use Rattle.cfn_gen.specs.Building.{IsTrial}
use Rattle.cfn_gen.proofs.Drawing.{after_none}
use Rattle.cfn_gen.proofs.Trials.{functions_so_far, more_draws, more_singles, single_cells, single_room, still_trial}
use Rattle.cfn_gen.proofs.group.add_singles.Goals as goal

pub loop-x-init : goal.loop-x-init
loop-x-init c = record {
  state = after_none c.args.draws.now;
  built = ap (λ fs. record c.args.builder.now { functions = fs }) (sym (append-nil c.args.builder.now.functions));
  trial = c.requires.trial;
}

pub add_drawn-requires-clause-room : goal.add_drawn-requires-clause-room
add_drawn-requires-clause-room c =
    let n = functions_so_far c.args.builder.now c.loop-x.builder (singles c.args.draws.now c.loop-x.x) c.loop-x.x c.loop-x.invariant.built (length-map-range_with_len (single c.args.draws.now) 0 c.loop-x.x) in
    single_room c.args.size c.loop-x.builder c.loop-x.invariant.trial c.loop-x.x c.loop-x-test.true (omega (arith, n, c.requires.few, c.loop-x-test.true))

pub add_drawn-requires-clause-tuples : goal.add_drawn-requires-clause-tuples
add_drawn-requires-clause-tuples c = single_cells c.args.size c.loop-x.builder c.loop-x.invariant.trial c.loop-x.x c.loop-x-test.true

pub add_drawn-requires-clause-upper : goal.add_drawn-requires-clause-upper
add_drawn-requires-clause-upper c = c.loop-x.invariant.trial.upper

pub loop-x-preserved : goal.loop-x-preserved
loop-x-preserved c = record {
  state = more_draws c.args.draws.now c.loop-x.x c.loop-x.draws _ 3 c.loop-x.invariant.state c.in_ok-add_drawn.ensures.state;
  built = more_singles c.args.builder.now c.loop-x.builder _ c.args.draws.now c.loop-x.x c.loop-x.draws c.loop-x.invariant.built c.loop-x.invariant.state c.in_ok-add_drawn.ensures.added;
  trial =
      subst (λ N. IsTrial c.args.size N) (sym c.in_ok-add_drawn.ensures.added)
      (still_trial c.args.size c.loop-x.builder c.loop-x.invariant.trial (record { scope = c.loop-x.x ∷ []; default = 0; entries = drawn c.loop-x.draws 3 })
      (omega (arith, single_cells c.args.size c.loop-x.builder c.loop-x.invariant.trial c.loop-x.x c.loop-x-test.true)));
}
