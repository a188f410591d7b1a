use Rattle.std.proofs.Common.{reverse, sym, ◌∙◌, subst}
use Rattle.cfn_consistency.specs.Virtual.{IsDeletion, Puts, without}
use Rattle.cfn_model.specs.Network.{Network}
use Rattle.cfn_store.specs.Standing.{Standing, history}
use Rattle.cfn_vac.specs.Tables.{AreBefore}
use Rattle.cfn_vac.proofs.Walking.{next_before, next_is, walking_more}
use Rattle.cfn_vac.proofs.walk.walk.Goals as goal

pub put-requires-clause-deletion : goal.put-requires-clause-deletion
put-requires-clause-deletion c =
    let P = c.args.plan.now.network in let v = c.loop-deletion.invariant in let d = c.requires.derivation in let earlier = c.in-Some.earlier.now in (
      d.0,
      subst (λ (N : Network). IsDeletion N (without earlier (history c.loop-deletion.store)) c.args.q d.0 c.in-Some.deletion.now) (sym v.network)
          (subst (λ (s : Standing). IsDeletion P (without earlier (history s)) c.args.q d.0 c.in-Some.deletion.now) (sym v.same)
          (next_is P (history c.args.store.now) c.args.q d.0 c.args.deletions.now c.loop-deletion.left.now earlier c.args.plan.now.steps c.loop-deletion.plan.steps c.in-Some.deletion.now v.walking c.in-Some.ensures.cases.0 d.1)),
    )

pub put-requires-clause-positions : goal.put-requires-clause-positions
put-requires-clause-positions c =
    let P = c.args.plan.now.network in let v = c.loop-deletion.invariant in
    subst (λ (N : Network). AreBefore N c.in-Some.earlier.now c.args.positions.now) (sym v.network)
    (next_before P (history c.args.store.now) c.args.q c.args.deletions.now c.loop-deletion.left.now c.in-Some.earlier.now c.args.plan.now.steps c.loop-deletion.plan.steps c.args.positions.now c.in-Some.deletion.now v.walking c.in-Some.ensures.cases.0 c.requires.positions)

pub loop-deletion-preserved : goal.loop-deletion-preserved
loop-deletion-preserved c =
    let P = c.args.plan.now.network in let v = c.loop-deletion.invariant in let d = c.in-Some.deletion.now in let earlier = c.in-Some.earlier.now in
    record {
      network = c.in_ok-put.ensures.network ∙ v.network;
      same = c.in_ok-put.ensures.same ∙ v.same;
      walking = walking_more P (history c.args.store.now) c.args.q c.args.deletions.now c.loop-deletion.left.now earlier c.args.plan.now.steps c.loop-deletion.plan.steps c.put.new.plan.steps d v.walking c.in-Some.ensures.cases.0
          (subst (λ (N : Network). Puts N (history c.args.store.now) c.args.q d d.reason (reverse earlier) c.loop-deletion.plan.steps c.put.new.plan.steps) v.network
          (subst (λ (s : Standing). Puts c.loop-deletion.plan.network (history s) c.args.q d d.reason (reverse earlier) c.loop-deletion.plan.steps c.put.new.plan.steps) v.same c.in_ok-put.ensures.puts));
    }
