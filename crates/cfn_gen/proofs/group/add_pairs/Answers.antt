use Rattle.std.proofs.Common.{◌∷◌, [], ap, sym, subst, ◌+◌, arith}
use Rattle.std.proofs.lemmas.List.{append-nil}
use Rattle.std.proofs.lemmas.List.FromFn.{length-map-range_with_len}
use Rattle.cfn_gen.specs.Generator.{drawn, pair, pairs}
use Rattle.cfn_gen.specs.Building.{IsTrial}
use Rattle.cfn_gen.proofs.Drawing.{after_none}
use Rattle.cfn_gen.proofs.Trials.{functions_so_far, more_draws, more_pairs, pair_cells, pair_room, still_trial}
use Rattle.cfn_gen.proofs.group.add_pairs.Goals as goal

pub loop-x-init : goal.loop-x-init
loop-x-init c = record {
  state = after_none c.args.draws.now;
  built = ap (λ fs. record c.args.builder.now { functions = fs }) (sym (append-nil c.args.builder.now.functions));
  trial = c.requires.trial;
}

pub add_drawn-requires-clause-room : goal.add_drawn-requires-clause-room
add_drawn-requires-clause-room c =
    let n = functions_so_far c.args.builder.now c.loop-x.builder (pairs c.args.draws.now c.args.apart c.loop-x.x) c.loop-x.x c.loop-x.invariant.built (length-map-range_with_len (pair c.args.draws.now c.args.apart) 0 c.loop-x.x) in
    pair_room c.args.size c.loop-x.builder c.loop-x.invariant.trial c.loop-x.x (c.loop-x.x + c.args.apart) (omega (arith, c.requires.apart)) (omega (arith, c.loop-x-test.true)) (omega (arith, n, c.requires.few, c.loop-x-test.true))

pub add_drawn-requires-clause-tuples : goal.add_drawn-requires-clause-tuples
add_drawn-requires-clause-tuples c = pair_cells c.args.size c.loop-x.builder c.loop-x.invariant.trial c.loop-x.x (c.loop-x.x + c.args.apart) (omega (arith, c.loop-x-test.true)) (omega (arith, c.loop-x-test.true))

pub add_drawn-requires-clause-upper : goal.add_drawn-requires-clause-upper
add_drawn-requires-clause-upper c = c.loop-x.invariant.trial.upper

pub loop-x-preserved : goal.loop-x-preserved
loop-x-preserved c = record {
  state = more_draws c.args.draws.now c.loop-x.x c.loop-x.draws _ 9 c.loop-x.invariant.state c.in_ok-add_drawn.ensures.state;
  built = more_pairs c.args.builder.now c.loop-x.builder _ c.args.draws.now c.args.apart c.loop-x.x c.loop-x.draws c.loop-x.invariant.built c.loop-x.invariant.state c.in_ok-add_drawn.ensures.added;
  trial =
      subst (λ N. IsTrial c.args.size N) (sym c.in_ok-add_drawn.ensures.added)
      (still_trial c.args.size c.loop-x.builder c.loop-x.invariant.trial (record { scope = c.loop-x.x ∷ (c.loop-x.x + c.args.apart) ∷ []; default = 0; entries = drawn c.loop-x.draws 9 })
      (omega (arith, pair_cells c.args.size c.loop-x.builder c.loop-x.invariant.trial c.loop-x.x (c.loop-x.x + c.args.apart) (omega (arith, c.loop-x-test.true)) (omega (arith, c.loop-x-test.true)))));
}
