use Rattle.cfn_consistency.specs.Groups.{IsBegun}
use Rattle.cfn_store.specs.Standing.{history}
use Rattle.std.proofs.Common.{◌+◌, length, ap, arith}
use Rattle.cfn_gain.proofs.CallerLemmas.{halts_after, passing_start, gained_none, leads_then, gains_halts}
use Rattle.cfn_edac.proofs.Passing.{LevelAt, none_yet, pass_more, pass_low, all_level}
use Rattle.cfn_edac.proofs.looks.levels.Goals as goal

pub returns-in_err-level_at-clause-does : goal.returns-in_err-level_at-clause-does
returns-in_err-level_at-clause-does c =
    halts_after c.args.store.now c.loop-x.store c.level_at.new.store c.args.limits _ c.in_err-level_at.field-0.0 c.from_residual.result c.loop-x.invariant.passing c.in_err-level_at.ensures.does c.from_residual.ensures.1

pub loop-x-preserved : goal.loop-x-preserved
loop-x-preserved c = record {
  passing = pass_low c.args.store.now c.level_at.new.store c.args.limits (c.loop-x.x + 1) c.next_unknown_peak-x-in-loop-x.result c.lacking-in-loop-x.result c.lacking-in-loop-x.ensures c.next_unknown_peak-x-in-loop-x.ensures.known
      (pass_more (LevelAt c.args.limits.threshold) c.args.store.now c.loop-x.store c.level_at.new.store c.args.limits c.loop-x.x c.loop-x.invariant.passing c.in_ok-level_at.ensures.does (λ same there. c.in_ok-level_at.ensures.level same));
  gained = leads_then c.args.store.now c.loop-x.store c.level_at.new.store IsBegun c.loop-x.invariant.gained c.in_ok-level_at.ensures.gains;
}

pub returns-clause-nodes : goal.returns-clause-nodes
returns-clause-nodes c = λ same.
    let size = ap (λ P. length P.sizes) c.network-network.ensures in
    all_level c.args.store.now.network _ c.args.limits.threshold c.loop-x.x (omega (arith, c.loop-x-test.false, c.variables.ensures, size)) (c.loop-x.invariant.passing.fact same)

pub loop-x-init : goal.loop-x-init
loop-x-init c = record {
  passing = pass_low c.args.store.now c.args.store.now c.args.limits 0 c.next_unknown_peak-x.result c.lacking.result c.lacking.ensures c.next_unknown_peak-x.ensures.known
      (passing_start c.args.store.now c.args.limits _ c.requires.goes (none_yet (LevelAt c.args.limits.threshold c.args.store.now.network (history c.args.store.now))));
  gained = gained_none c.args.store.now;
}

pub returns-in_err-level_at-clause-gains : goal.returns-in_err-level_at-clause-gains
returns-in_err-level_at-clause-gains c =
    gains_halts c.args.store.now c.loop-x.store c.level_at.new.store c.args.limits c.in_err-level_at.field-0.0 c.from_residual.result c.loop-x.invariant.gained c.in_err-level_at.ensures.gains c.from_residual.ensures.1
