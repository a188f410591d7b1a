use Rattle.std.proofs.Common.{◌≡◌, ◌-◌, ap, arith, length}
use Rattle.std.proofs.lemmas.List.FromFn.{length-map-range_with_len}
use Rattle.cfn_gen.specs.Generator.{pair, pairs, single, singles}
use Rattle.cfn_gen.proofs.Trials.{functions_so_far}
use Rattle.cfn_gen.proofs.trial.instance.Goals as goal

pub add_pairs-requires-clause-few : goal.add_pairs-requires-clause-few
add_pairs-requires-clause-few c =
    let none : length c.in_ok-builder.builder.functions ≡ 0 = ap (λ P. length P.functions) c.in_ok-builder.ensures in
    let n = functions_so_far c.in_ok-builder.builder c.add_singles.new.builder (singles c.new-draws.result c.args.size) c.args.size c.in_ok-add_singles.ensures.added (length-map-range_with_len (single c.new-draws.result) 0 c.args.size) in
    omega (arith, none, n, c.requires.few)

pub add_pairs-requires-2-clause-few : goal.add_pairs-requires-2-clause-few
add_pairs-requires-2-clause-few c =
    let none : length c.in_ok-builder.builder.functions ≡ 0 = ap (λ P. length P.functions) c.in_ok-builder.ensures in
    let n = functions_so_far c.in_ok-builder.builder c.add_singles.new.builder (singles c.new-draws.result c.args.size) c.args.size c.in_ok-add_singles.ensures.added (length-map-range_with_len (single c.new-draws.result) 0 c.args.size) in
    let m = functions_so_far c.add_singles.new.builder c.add_pairs.new.builder (pairs c.add_singles.new.draws 1 (c.args.size - 1)) (c.args.size - 1) c.in_ok-add_pairs.ensures.added (length-map-range_with_len (pair c.add_singles.new.draws 1) 0 (c.args.size - 1)) in
    omega (arith, none, n, m, c.requires.few)
