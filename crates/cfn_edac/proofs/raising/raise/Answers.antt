use Rattle.std.proofs.Common.{◌∙◌, refl, subst, arith}
use Rattle.cfn_model.specs.Network.{IsNetwork}
use Rattle.cfn_store.specs.Standing.{history}
use Rattle.cfn_gain.proofs.CallerLemmas.{halts_after, does_after, passing_start}
use Rattle.cfn_edac.proofs.Existing.{full_none, full_more, good_after}
use Rattle.cfn_edac.proofs.Owing.{raising_start, raising_more, raising_halts, raising_ends, rises_ends, rises_halts}
use Rattle.cfn_edac.proofs.raising.raise.Goals as goal

pub returns-in_err-full_supports-clause-does : goal.returns-in_err-full_supports-clause-does
returns-in_err-full_supports-clause-does c =
    halts_after c.args.store.now c.loop-pair.store c.full_supports.new.store c.args.limits _ c.in_err-full_supports.field-0.0 c.from_residual.result c.loop-pair.invariant.passing c.in_err-full_supports.ensures.does c.from_residual.ensures.1

pub loop-pair-preserved : goal.loop-pair-preserved
loop-pair-preserved c =
    let v = c.loop-pair.invariant in
    record {
      passing = full_more c.args.store.now c.loop-pair.store c.full_supports.new.store c.args.limits c.args.pairs.now c.args.alpha c.min-cap.result c.lacking.result c.loop-pair.pair-index v.passing
          c.in_ok-full_supports.ensures.does c.in_ok-full_supports.ensures.full c.requires.alpha.below c.lacking.ensures c.min-cap.ensures;
      raising = raising_more c.args.store.now c.loop-pair.store c.full_supports.new.store c.args.x c.args.pairs.now c.args.alpha c.min-cap.result c.lacking.result c.args.limits.threshold c.loop-pair.pair-index (subst IsNetwork c.network.ensures c.law_limits.ensures) c.requires.neighbours (omega (arith, c.loop-pair-test.true)) v.passing.adds.network v.raising
          c.in_ok-full_supports.ensures.shifts c.in_ok-full_supports.ensures.through c.in_ok-full_supports.ensures.supported c.requires.alpha.below c.lacking.ensures c.min-cap.ensures;
      same = c.in_ok-full_supports.ensures.same ∙ v.same;
    }

pub returns-clause-does : goal.returns-clause-does
returns-clause-does c = does_after c.args.store.now c.loop-pair.store c.level.new.store c.args.limits _ c.level.result c.loop-pair.invariant.passing c.level.ensures.does

pub returns-clause-good : goal.returns-clause-good
returns-clause-good c =
    good_after c.args.store.now c.loop-pair.store c.level.new.store c.args.limits c.args.x c.args.pairs.now c.args.alpha c.loop-pair.pair-index c.level.result c.requires.neighbours (omega (arith, c.loop-pair-test.false)) c.requires.alpha.some c.loop-pair.invariant.passing c.level.ensures.does c.level.ensures.level

pub loop-pair-init : goal.loop-pair-init
loop-pair-init c =
    let s = c.args.store.now in
    record {
      passing = passing_start s c.args.limits _ c.requires.goes (full_none s.network (history s) c.args.pairs.now c.args.alpha);
      raising = raising_start s c.args.x c.args.pairs.now c.args.alpha c.requires.alpha.come;
      same = refl;
    }

pub returns-in_err-full_supports-clause-gains : goal.returns-in_err-full_supports-clause-gains
returns-in_err-full_supports-clause-gains c =
    let v = c.loop-pair.invariant in let err = c.in_err-full_supports.ensures in
    raising_halts c.args.store.now c.loop-pair.store c.full_supports.new.store c.args.limits c.args.x c.args.pairs.now c.args.alpha c.loop-pair.pair-index c.in_err-full_supports.field-0.0 c.from_residual.result (subst IsNetwork c.network.ensures c.law_limits.ensures) c.requires.variable c.requires.neighbours (omega (arith, c.loop-pair-test.true)) v.passing.adds.network
    err.does.adds.network c.requires.alpha.some v.raising err.shifts err.through err.spent c.from_residual.ensures.1

pub returns-clause-gains : goal.returns-clause-gains
returns-clause-gains c =
    let v = c.loop-pair.invariant in
    raising_ends c.args.store.now c.loop-pair.store c.level.new.store c.args.limits c.args.x c.args.pairs.now c.args.alpha c.loop-pair.pair-index c.level.result (subst IsNetwork c.network.ensures c.law_limits.ensures) c.requires.variable c.requires.neighbours v.passing.adds.network
    (omega (arith, c.loop-pair.auto.pair-index-end)) (omega (arith, c.loop-pair-test.false)) c.requires.alpha.some c.law_exact.ensures v.raising c.level.ensures.gains c.level.ensures.closes

pub returns-in_err-full_supports-clause-rises : goal.returns-in_err-full_supports-clause-rises
returns-in_err-full_supports-clause-rises c = λ some.
    rises_halts c.args.store.now c.full_supports.new.store c.args.alpha c.in_err-full_supports.field-0.0 c.from_residual.result c.in_err-full_supports.ensures.spent c.from_residual.ensures.1

pub returns-clause-rises : goal.returns-clause-rises
returns-clause-rises c =
    let v = c.loop-pair.invariant in
    rises_ends c.args.store.now c.loop-pair.store c.level.new.store c.args.limits c.args.x c.args.pairs.now c.args.alpha c.loop-pair.pair-index c.level.result (subst IsNetwork c.network.ensures c.law_limits.ensures) c.requires.neighbours v.passing.adds.network
    (omega (arith, c.loop-pair-test.false)) c.law_exact.ensures v.raising c.requires.alpha.below (c.level.ensures.rises c.args.alpha)
