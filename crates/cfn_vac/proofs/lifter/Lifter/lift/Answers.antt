use Rattle.std.proofs.Common.{sym, ◌∙◌, subst, reverse}
use Rattle.cfn_model.specs.Network.{Network}
use Rattle.cfn_store.specs.Standing.{history}
use Rattle.cfn_consistency.specs.Virtual.{ArePut}
use Rattle.cfn_vac.specs.Tables.{ArePositions}
use Rattle.cfn_vac.specs.Lifts.{RisesBy}
use Rattle.cfn_vac.proofs.Lifts.{plan_rises}
use Rattle.cfn_vac.proofs.lifter.Lifter.lift.Goals as goal

pub walk-walked-requires-clause-positions : goal.walk-walked-requires-clause-positions
walk-walked-requires-clause-positions c =
    subst (λ (N : Network). ArePositions N c.args.deletions.now c.number.new.positions) (sym (c.in_ok-begin.ensures.network ∙ c.self.invariant.0)) c.number.ensures.positions

pub make-requires-clause-rises : goal.make-requires-clause-rises
make-requires-clause-rises c =
    subst RisesBy (sym c.steps.ensures.steps) (plan_rises c.begin.new.self.network (history c.args.store.now) c.args.q c.args.deletions.now c.args.x c.walk-walked.new.plan.steps (subst (λ l. ArePut c.begin.new.self.network (history c.args.store.now) c.args.q (reverse c.args.deletions.now) l c.walk-walked.new.plan.steps) c.in_ok-begin.ensures.ok c.in_ok-walked.ensures.put))
