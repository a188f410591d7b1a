use Rattle.std.proofs.Common.{◌≡◌, ◌+◌, ◌-◌, ◌<◌, length, sym, ◌∙◌, ap, subst, arith}
use Rattle.cfn_model.specs.declared.step.Step.TheVariants.{Lift}
use Rattle.cfn_consistency.specs.Consistency.{IsDead}
use Rattle.cfn_store.specs.Standing.{history, with_step}
use Rattle.cfn_gain.specs.Settling.{AddsSteps}
use Rattle.cfn_gain.specs.Passes.{IsLeast, IsLifting}
use Rattle.cfn_gain.proofs.Lifting.{lift_none, lift_some, lift_due, lift_to_threshold, adds_lift}
use Rattle.cfn_gain.proofs.nodes.lift.Goals.{then-least-gt0+else-is_full+else-least-lacks, else-least-gt0}
use Rattle.cfn_gain.proofs.nodes.lift.Goals as goal

pub returns-then-is_full-clause-spent : goal.returns-then-is_full-clause-spent
returns-then-is_full-clause-spent c = λ is.
    let v = c.loop-x.invariant in let size = ap (λ P. length P.sizes) v.same in
    lift_due c.args.store.now c.loop-x.store c.args.k c.args.limit c.loop-x.x c.least-least.result v.lifting (omega (arith, c.loop-x-test.true, c.variables-x-end.ensures, size)) c.least-least.ensures c.if-least-gt0.true (c.is_full.ensures.full c.if-is_full.true)

pub returns-then-least-lacks-clause-steps : goal.returns-then-least-lacks-clause-steps
returns-then-least-lacks-clause-steps c =
    let v = c.loop-x.invariant in let size = ap (λ P. length P.sizes) v.same in
    let b = v.lifting.below in
    subst (λ t. AddsSteps c.args.store.now t c.args.k c.args.limit) (sym c.lift.ensures)
    (adds_lift c.args.store.now c.loop-x.store c.args.k c.args.limit c.loop-x.x c.least-least.result c.min.result v.lifting (omega (arith, c.loop-x-test.true, c.variables-x-end.ensures, size)) c.least-least.ensures (omega (arith, c.min.ensures, c.if-least-gt0.true, b, c.floor.ensures)) (omega (arith, c.min.ensures)) (c.is_full.ensures.room c.if-is_full.false))

pub returns-then-least-lacks-clause-dead : goal.returns-then-least-lacks-clause-dead
returns-then-least-lacks-clause-dead c = λ is.
    let s = c.loop-x.store in let v = c.loop-x.invariant in
    let b = v.lifting.below in
    subst (λ t. IsDead t.network (history t) c.args.k) (sym c.lift.ensures) (lift_to_threshold s c.args.k c.loop-x.x c.min.result (omega (arith, c.min.ensures, c.if-least-lacks.true, b, c.floor.ensures)))

pub loop-x-preserved : goal.loop-x-preserved
loop-x-preserved c =
    let s = c.loop-x.store in let v = c.loop-x.invariant in
    let size = ap (λ P. length P.sizes) v.same in
    let there : c.loop-x.x < length s.network.sizes = omega (arith, c.loop-x-test.true, c.variables-x-end.ensures, size) in
    let b = v.lifting.below in
    elim c.if-least-gt0.branch [
      | then-least-gt0+else-is_full+else-least-lacks w ↦
          (let amount : w.min.result ≡ c.least-least.result = omega (arith, w.min.ensures, w.if-least-lacks.false) in
          let e = w.store-is ∙ w.lift.ensures ∙ ap (λ m. with_step s (Lift c.loop-x.x m)) amount in
          record {
            same = ap (λ t. t.network) e ∙ v.same;
            lifting = subst (λ t. IsLifting c.args.store.now t c.args.k c.args.limit (c.loop-x.x + 1)) (sym e)
                (lift_some c.args.store.now s c.args.k c.args.limit c.loop-x.x c.least-least.result (c.args.k - w.floor.result) v.lifting there c.least-least.ensures w.if-least-gt0.true (omega (arith, b, w.floor.ensures)) w.if-least-lacks.false (w.is_full.ensures.room w.if-is_full.false));
          })
      | else-least-gt0 w ↦
          (let none : c.least-least.result ≡ 0 = omega (arith, w.if-least-gt0.false) in
          let e = w.store-is in
          record {
            same = ap (λ t. t.network) e ∙ v.same;
            lifting = subst (λ t. IsLifting c.args.store.now t c.args.k c.args.limit (c.loop-x.x + 1)) (sym e)
                (lift_none c.args.store.now s c.args.k c.args.limit c.loop-x.x v.lifting (subst (λ n. IsLeast s.network (history s) c.loop-x.x n) none c.least-least.ensures));
          })
    ]
