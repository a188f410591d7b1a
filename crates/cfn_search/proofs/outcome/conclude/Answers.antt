use Rattle.std.proofs.Common.{◌≡◌, ℕ, ◌∙◌, refl, sym, ap, subst, arith, List, []}
use Rattle.cfn_model.specs.Network.{Network, IsNetwork}
use Rattle.cfn_model.specs.declared.report.Row.{Row}
use Rattle.cfn_model.specs.Tree.{open_leaves}
use Rattle.cfn_model.proofs.CallerLemmas.{bound_low}
use Rattle.cfn_model.specs.Certificate.{Certificate, threshold_of}
use Rattle.cfn_model.specs.declared.version.Version.TheVariants.{Second}
use Rattle.cfn_proof.specs.Certificates.{solution_of}
use Rattle.cfn_proof.specs.Nodes as nodes
use Rattle.cfn_low.specs.Outcome.{IsSearched, timed_nodes}
use Rattle.cfn_proof.proofs.CallerLemmas.{spelled_law, lines_law}
use Rattle.cfn_machine.specs.Pool.{tree_of}
use Rattle.cfn_pool.specs.Views.{pool}
use Rattle.cfn_search.specs.Stopping.{IsStop}
use Rattle.cfn_search.proofs.Finished.{searched, price_held, best_held}
use Rattle.std.specs.Prelude.{IfSome}
use Rattle.cfn_search.specs.Recording.{IsRecorded}
use Rattle.cfn_search.proofs.Recorded.{good_record, kept_by}
use Rattle.cfn_search.proofs.outcome.conclude.Goals as goal

pub invariant_of-outcome : goal.invariant_of-outcome
invariant_of-outcome g c =
    let P = g.M.Incumbent.network in
    let held = pool c.args.held in
    let upper = c.law_limits.ensures.upper in
    let same = ap (λ (Q : Network). Q.upper) c.requires.own in
    let low = bound_low P [] (tree_of held.tree) held.view.seen in
    let seen = c.law_kept.ensures.pool.sound.seen in
    record {
      upper_fits = omega (arith, c.ub.ensures, upper);
      lower_fits = omega (arith, c.bound-lower.ensures, low, seen, same, upper);
      best_is_held = c.below.ensures.held;
    }

pub returns-clause-outcome : goal.returns-clause-outcome
returns-clause-outcome g c =
    let P = g.M.Incumbent.network in
    let held = pool c.args.held in
    let finished = c.finish-finished.result in
    let timed = g.H.Halt.limited c.args.halt.now in
    let limits = timed_nodes held.budget timed in
    let network = subst IsNetwork c.requires.own c.law_limits.ensures in
    let certificate : Certificate = record { version = Second; variables = c.variables.result; functions = c.functions.result; upper = c.ub.result; best = solution_of c.below.result; lower = c.bound-lower.result; tree = nodes.tree_of finished.tree } in
    subst (λ (Q : Network). IsSearched Q g.M.Incumbent.start limits finished.nodes certificate finished.rows.items c.stop_of-stop.result) (sym c.requires.own)
    (subst (λ (rows : List Row). IsSearched P g.M.Incumbent.start limits finished.nodes certificate rows c.stop_of-stop.result) (sym c.finish-finished.ensures.rows)
    (subst (λ (n : ℕ). IsSearched P g.M.Incumbent.start limits n certificate held.rows c.stop_of-stop.result) (sym c.finish-finished.ensures.nodes)
    (searched P held network c.law_kept.ensures.pool c.law_kept.ensures.rows g.M.Incumbent.start c.requires.ended c.requires.last certificate c.stop_of-stop.result timed
    (c.variables.ensures ∙ ap (λ (Q : Network). Rattle.std.proofs.Common.length Q.sizes) c.requires.own)
    (c.functions.ensures ∙ ap (λ (Q : Network). Rattle.std.proofs.Common.length Q.functions) c.requires.own)
    (c.ub.ensures ∙ ap (λ (Q : Network). Q.upper) c.requires.own)
    (best_held P c.end-best.result.0 finished.holder c.below.result c.end-best.ensures.best c.below.ensures.best)
    (price_held P c.end-best.result.0 finished.holder held.view c.below.result c.end-best.ensures.best c.finish-finished.ensures.view c.requires.last.seen c.below.ensures.priced c.below.ensures.price)
    c.finish-finished.ensures.tree
    (spelled_law finished.tree c.law_linked.ensures)
    (lines_law finished.tree)
    c.bound-lower.ensures
    c.args.own c.requires.tells
    (subst (λ (b : ℕ). IsStop c.stop_of-stop.result (open_leaves (tree_of held.tree)) c.args.own held.nodes b timed) c.budget.ensures
    (subst (λ (n : ℕ). IsStop c.stop_of-stop.result (open_leaves (tree_of held.tree)) c.args.own n c.budget.result timed) c.nodes.ensures
    (subst (λ (l : ℕ). IsStop c.stop_of-stop.result l c.args.own c.nodes.result c.budget.result timed) c.open_leaves-leaves.ensures.is c.stop_of-stop.ensures))))))

-- the threshold is what the pool has seen
pub returns-clause-threshold : goal.returns-clause-threshold
returns-clause-threshold g c =
    let P = g.M.Incumbent.network in
    let finished = c.finish-finished.result in
    ap (λ (u : ℕ). threshold_of u (solution_of c.below.result)) (c.ub.ensures ∙ ap (λ (Q : Network). Q.upper) c.requires.own)
    ∙ price_held P c.end-best.result.0 finished.holder (pool c.args.held).view c.below.result c.end-best.ensures.best c.finish-finished.ensures.view c.requires.last.seen c.below.ensures.priced c.below.ensures.price

-- what was recorded is a good record
pub returns-clause-history : goal.returns-clause-history
returns-clause-history g c =
    let P = g.M.Incumbent.network in
    let held = pool c.args.held in
    let finished = c.finish-finished.result in
    let certificate : Certificate = record { version = Second; variables = c.variables.result; functions = c.functions.result; upper = c.ub.result; best = solution_of c.below.result; lower = c.bound-lower.result; tree = nodes.tree_of finished.tree } in
    subst (λ (Q : Network). IfSome finished.history (IsRecorded Q held.budget certificate)) (sym c.requires.own)
    (good_record P held c.args.held.recorded finished.history certificate c.finish-finished.ensures.same c.requires.recorded c.law_kept.ensures.pool
    (c.variables.ensures ∙ ap (λ (Q : Network). Rattle.std.proofs.Common.length Q.sizes) c.requires.own)
    (c.functions.ensures ∙ ap (λ (Q : Network). Rattle.std.proofs.Common.length Q.functions) c.requires.own)
    (c.ub.ensures ∙ ap (λ (Q : Network). Q.upper) c.requires.own)
    (best_held P c.end-best.result.0 finished.holder c.below.result c.end-best.ensures.best c.below.ensures.best)
    (price_held P c.end-best.result.0 finished.holder held.view c.below.result c.end-best.ensures.best c.finish-finished.ensures.view c.requires.last.seen c.below.ensures.priced c.below.ensures.price)
    c.finish-finished.ensures.tree)

pub returns-clause-kept : goal.returns-clause-kept
returns-clause-kept g c = kept_by c.args.held.recorded c.finish-finished.result.history c.finish-finished.ensures.same
