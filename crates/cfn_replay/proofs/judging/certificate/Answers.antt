use Rattle.std.proofs.Common.{arith, []}
use Rattle.cfn_machine.specs.Pool.{tree_of}
use Rattle.cfn_model.proofs.CallerLemmas.{bound_low}
use Rattle.cfn_proof.specs.Certificates.{solution_of}
use Rattle.cfn_leaves.specs.Value.{pool_tree}
use Rattle.cfn_proof.proofs.CallerLemmas.{spelled_law, lines_law}
use Rattle.cfn_replay.proofs.Judged.{best_low, best_spelled, holds_best}
use Rattle.cfn_replay.proofs.judging.certificate.Goals as goal

pub invariant_of-result : goal.invariant_of-result
invariant_of-result c =
    let upper = c.law_limits.ensures.upper in
    let low = bound_low c.args.leaves.network [] (tree_of (pool_tree c.args.leaves)) c.threshold.result in
    let best = best_low c.args.network.now (solution_of c.args.best) c.requires.best in
    record {
      upper_fits = omega (arith, c.ub.ensures, upper);
      lower_fits = omega (arith, c.bound-lower.ensures, low, c.threshold.ensures, best, upper);
      best_is_held = holds_best c.args.best c.requires.held;
    }

pub returns-clause-spelled : goal.returns-clause-spelled
returns-clause-spelled c =
    let upper = c.law_limits.ensures.upper in
    let low = bound_low c.args.leaves.network [] (tree_of (pool_tree c.args.leaves)) c.threshold.result in
    let best = best_low c.args.network.now (solution_of c.args.best) c.requires.best in
    record {
      variables = omega (arith, c.variables.ensures, c.law_limits.ensures.few);
      functions = omega (arith, c.functions.ensures, c.law_limits.ensures.few_functions);
      upper = omega (arith, c.ub.ensures, upper);
      best = best_spelled c.args.network.now (solution_of c.args.best) c.law_limits.ensures c.requires.best;
      lower = omega (arith, c.bound-lower.ensures, low, c.threshold.ensures, best, upper);
      tree = spelled_law c.share.new.self c.law_linked.ensures;
      has_tree = lines_law c.share.new.self;
    }
