use Rattle.std.proofs.Common.{◌∙◌, refl, arith}
use Rattle.cfn_consistency.specs.Groups.{IsBegun}
use Rattle.cfn_gain.proofs.CallerLemmas.{halts_after, passing_start, gained_none, leads_then, gains_halts}
use Rattle.cfn_edac.proofs.Passing.{pass_on}
use Rattle.cfn_edac.proofs.Settling.{settled_here}
use Rattle.cfn_edac.proofs.reviser.Reviser.revise_all.Goals as goal

pub returns-in_err-revise_until_step-clause-does : goal.returns-in_err-revise_until_step-clause-does
returns-in_err-revise_until_step-clause-does c =
    halts_after c.args.store.now c.loop-store.store c.revise_until_step.new.store c.args.limits _ c.in_err-revise_until_step.field-0.0 c.from_residual.result c.loop-store.invariant.passing
    c.in_err-revise_until_step.ensures.does c.from_residual.ensures.1

pub returns-in_err-level_all-clause-does : goal.returns-in_err-level_all-clause-does
returns-in_err-level_all-clause-does c =
    halts_after c.args.store.now c.revise_until_step.new.store c.level_all.new.store c.args.limits _ c.in_err-level_all.field-0.0 c.from_residual-in_err-level_all.result (pass_on c.args.store.now c.loop-store.store c.revise_until_step.new.store c.args.limits c.loop-store.invariant.passing c.in_ok-revise_until_step.ensures.does)
    c.in_err-level_all.ensures.does c.from_residual-in_err-level_all.ensures.1

pub returns-then-block_len-before-2-clause-settled : goal.returns-then-block_len-before-2-clause-settled
returns-then-block_len-before-2-clause-settled c =
    let ensures = c.in_ok-level_all.ensures in
    settled_here c.loop-store.store c.revise_until_step.new.store c.level_all.new.store c.args.limits c.revise_until_step.new.self.due c.level_all.new.self.due
    (omega (arith, c.block_len-before.ensures, c.block_len.ensures, c.if-block_len-before.true))
    (omega (arith, c.block_len-before.ensures, c.block_len.ensures, c.if-block_len-before.true, c.block_len-then-block_len-before.ensures, c.if-block_len-before-2.true))
    c.in_ok-revise_until_step.ensures.run ensures.does.adds ensures.holds ensures.nodes ensures.still

pub loop-store-preserved-else-block_len-before-2 : goal.loop-store-preserved-else-block_len-before-2
loop-store-preserved-else-block_len-before-2 c =
    let ensures = c.in_ok-level_all.ensures in
    record {
      passing = pass_on c.args.store.now c.revise_until_step.new.store c.level_all.new.store c.args.limits (pass_on c.args.store.now c.loop-store.store c.revise_until_step.new.store c.args.limits c.loop-store.invariant.passing c.in_ok-revise_until_step.ensures.does) ensures.does;
      gained = leads_then c.args.store.now c.revise_until_step.new.store c.level_all.new.store IsBegun (leads_then c.args.store.now c.loop-store.store c.revise_until_step.new.store IsBegun c.loop-store.invariant.gained c.in_ok-revise_until_step.ensures.gains) ensures.gains;
      network = ensures.network ∙ c.in_ok-revise_until_step.ensures.network ∙ c.loop-store.invariant.network;
      holds = ensures.holds;
      sure = ensures.sure;
      known = ensures.known;
    }

pub loop-store-preserved : goal.loop-store-preserved
loop-store-preserved c = record {
  passing = pass_on c.args.store.now c.loop-store.store c.revise_until_step.new.store c.args.limits c.loop-store.invariant.passing c.in_ok-revise_until_step.ensures.does;
  gained = leads_then c.args.store.now c.loop-store.store c.revise_until_step.new.store IsBegun c.loop-store.invariant.gained c.in_ok-revise_until_step.ensures.gains;
  network = c.in_ok-revise_until_step.ensures.network ∙ c.loop-store.invariant.network;
  holds = c.in_ok-revise_until_step.ensures.run.holds;
  sure = c.in_ok-revise_until_step.ensures.sure;
  known = c.in_ok-revise_until_step.ensures.known;
}

pub loop-store-init : goal.loop-store-init
loop-store-init c = record {
  passing = passing_start c.args.store.now c.args.limits (Unit {0}) c.requires.goes tt;
  gained = gained_none c.args.store.now;
  network = refl;
  holds = c.requires.holds;
  sure = c.requires.sure;
  known = c.requires.known;
}

pub returns-in_err-revise_until_step-clause-gains : goal.returns-in_err-revise_until_step-clause-gains
returns-in_err-revise_until_step-clause-gains c =
    gains_halts c.args.store.now c.loop-store.store c.revise_until_step.new.store c.args.limits c.in_err-revise_until_step.field-0.0 c.from_residual.result c.loop-store.invariant.gained c.in_err-revise_until_step.ensures.gains c.from_residual.ensures.1

pub returns-in_err-level_all-clause-gains : goal.returns-in_err-level_all-clause-gains
returns-in_err-level_all-clause-gains c =
    gains_halts c.args.store.now c.revise_until_step.new.store c.level_all.new.store c.args.limits c.in_err-level_all.field-0.0 c.from_residual-in_err-level_all.result
    (leads_then c.args.store.now c.loop-store.store c.revise_until_step.new.store IsBegun c.loop-store.invariant.gained c.in_ok-revise_until_step.ensures.gains) c.in_err-level_all.ensures.gains c.from_residual-in_err-level_all.ensures.1

pub returns-then-block_len-before-2-clause-gains : goal.returns-then-block_len-before-2-clause-gains
returns-then-block_len-before-2-clause-gains c =
    leads_then c.args.store.now c.revise_until_step.new.store c.level_all.new.store IsBegun (leads_then c.args.store.now c.loop-store.store c.revise_until_step.new.store IsBegun c.loop-store.invariant.gained c.in_ok-revise_until_step.ensures.gains) c.in_ok-level_all.ensures.gains
