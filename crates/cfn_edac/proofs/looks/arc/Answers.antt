use Rattle.cfn_gain.proofs.CallerLemmas.{does_then, shows_then, gains_halt, gains_then}
use Rattle.cfn_edac.proofs.looks.arc.Goals as goal

pub returns-clause-does : goal.returns-clause-does
returns-clause-does c = does_then c.args.store.now c.support_sides.new.store c.levels_of.new.store c.args.limits c.levels_of.result c.in_ok-support_sides.ensures.does c.levels_of.ensures.does

pub returns-clause-arc : goal.returns-clause-arc
returns-clause-arc c =
    let one = c.in_ok-support_sides.ensures.does in let two = c.levels_of.ensures.does in
    shows_then c.args.store.now c.support_sides.new.store c.levels_of.new.store c.args.limits c.levels_of.result one.adds two.adds (λ same part. c.in_ok-support_sides.ensures.supports same)

pub returns-in_err-support_sides-clause-gains : goal.returns-in_err-support_sides-clause-gains
returns-in_err-support_sides-clause-gains c =
    gains_halt c.args.store.now c.support_sides.new.store c.args.limits c.in_err-support_sides.field-0.0 c.from_residual.result c.in_err-support_sides.ensures.gains c.from_residual.ensures.1

pub returns-clause-gains : goal.returns-clause-gains
returns-clause-gains c =
    gains_then c.args.store.now c.support_sides.new.store c.levels_of.new.store c.args.limits c.levels_of.result c.in_ok-support_sides.ensures.gains c.levels_of.ensures.gains
