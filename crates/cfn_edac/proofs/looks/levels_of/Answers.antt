use Rattle.cfn_consistency.specs.Groups.{IsBegun}
use Rattle.cfn_gain.proofs.CallerLemmas.{halts_after, passing_start, gained_none, leads_then, gains_halts}
use Rattle.cfn_edac.proofs.Passing.{pass_on}
use Rattle.cfn_edac.proofs.looks.levels_of.Goals as goal

pub returns-in_err-level-clause-does : goal.returns-in_err-level-clause-does
returns-in_err-level-clause-does c = halts_after c.args.store.now c.loop-x.store c.level.new.store c.args.limits _ c.in_err-level.field-0.0 c.from_residual.result c.loop-x.invariant.passing c.in_err-level.ensures.does c.from_residual.ensures.1

pub loop-x-preserved : goal.loop-x-preserved
loop-x-preserved c = record {
  passing = pass_on c.args.store.now c.loop-x.store c.level.new.store c.args.limits c.loop-x.invariant.passing c.in_ok-level.ensures.does;
  gained = leads_then c.args.store.now c.loop-x.store c.level.new.store IsBegun c.loop-x.invariant.gained c.in_ok-level.ensures.gains;
}

pub loop-x-init : goal.loop-x-init
loop-x-init c = record {
  passing = passing_start c.args.store.now c.args.limits (Unit {0}) c.requires.goes tt;
  gained = gained_none c.args.store.now;
}

pub returns-in_err-level-clause-gains : goal.returns-in_err-level-clause-gains
returns-in_err-level-clause-gains c =
    gains_halts c.args.store.now c.loop-x.store c.level.new.store c.args.limits c.in_err-level.field-0.0 c.from_residual.result c.loop-x.invariant.gained c.in_err-level.ensures.gains c.from_residual.ensures.1
