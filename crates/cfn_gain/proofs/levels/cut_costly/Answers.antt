use Rattle.std.proofs.Common.{◌+◌, ap, sym, ◌∙◌, subst, arith}
use Rattle.std.specs.Prelude.{slice_index}
use Rattle.cfn_gain.specs.Levels.{AddsCuts}
use Rattle.cfn_gain.proofs.Adding.{halts_after}
use Rattle.cfn_gain.proofs.Leveling.{IsCutting, cuts_none, cuts_more, cutting_start, cutting_kept, cutting_cut, cost_below, not_live}
use Rattle.cfn_gain.proofs.Closing.{IsClosing, closing_start, closing_kept, closing_cut, closing_halts, closing_halts_behind, closing_done, stays}
use Rattle.cfn_gain.proofs.levels.cut_costly.Goals.{then-is_live+then-unary-lacks+in_ok-cut_value, else-is_live, else-is_live-via-then-is_live+else-unary-lacks, else-is_live-via-else-is_live}
use Rattle.cfn_gain.proofs.levels.cut_costly.Goals as goal

pub returns-in_err-cut_value-clause-does : goal.returns-in_err-cut_value-clause-does
returns-in_err-cut_value-clause-does c =
    halts_after c.args.store.now c.loop-value.store c.cut_value.new.store c.args.limits _ c.in_err-cut_value.field-0.0 c.from_residual.result c.loop-value.invariant.cutting.passing c.in_err-cut_value.ensures.does c.from_residual.ensures.1

pub returns-in_err-cut_value-clause-gains : goal.returns-in_err-cut_value-clause-gains
returns-in_err-cut_value-clause-gains c =
    closing_halts c.args.store.now c.loop-value.store c.cut_value.new.store c.args.limits c.args.x c.loop-value.value c.in_err-cut_value.field-0.0 c.from_residual.result c.loop-value.invariant.closing
    (c.in_err-cut_value.ensures.gains (sym c.is_live.ensures ∙ c.if-is_live.true)) c.from_residual.ensures.1

pub returns-in_err-cut_value-clause-closes : goal.returns-in_err-cut_value-clause-closes
returns-in_err-cut_value-clause-closes c =
    closing_halts_behind c.args.store.now c.loop-value.store c.cut_value.new.store c.args.limits c.args.x c.loop-value.value c.in_err-cut_value.field-0.0 c.from_residual.result c.loop-value.invariant.closing
    (c.in_err-cut_value.ensures.gains (sym c.is_live.ensures ∙ c.if-is_live.true)) c.from_residual.ensures.1

pub returns-clause-closes : goal.returns-clause-closes
returns-clause-closes c =
    let size = c.size-value-end.ensures ∙ ap (λ P. slice_index P.sizes c.args.x) c.network.ensures in
    closing_done c.args.store.now c.loop-value.store c.args.limits c.args.x c.loop-value.value (omega (arith, c.loop-value-test.false, size)) c.loop-value.invariant.closing

pub loop-value-init : goal.loop-value-init
loop-value-init c = record {
  cutting = cutting_start c.args.store.now c.args.limits c.args.x c.lacking-lacks.result c.requires.goes c.lacking-lacks.ensures;
  cuts = cuts_none c.args.store.now c.args.x;
  closing = closing_start c.args.store.now c.args.limits c.args.x;
}

pub loop-value-preserved : goal.loop-value-preserved
loop-value-preserved c =
    let s = c.loop-value.store in let v = c.loop-value.invariant.cutting in let closing = c.loop-value.invariant.closing in
    let x = c.args.x in let a = c.loop-value.value in let lacks = c.lacking-lacks.result in
    elim c.if-is_live.branch [
      | then-is_live+then-unary-lacks+in_ok-cut_value w ↦
          record {
            cutting = subst (λ t. IsCutting c.args.store.now t c.args.limits x lacks (a + 1)) (sym w.store-is)
                (cutting_cut c.args.store.now s w.cut_value.new.store c.args.limits x lacks a v w.in_ok-cut_value.ensures.does w.in_ok-cut_value.ensures.made);
            cuts = subst (λ t. AddsCuts c.args.store.now t x) (sym w.store-is) (cuts_more c.args.store.now s w.cut_value.new.store x a c.loop-value.invariant.cuts w.in_ok-cut_value.ensures.made);
            closing = subst (λ t. IsClosing c.args.store.now t c.args.limits x (a + 1)) (sym w.store-is)
                (closing_cut c.args.store.now s w.cut_value.new.store c.args.limits x a closing (sym c.is_live.ensures ∙ w.if-is_live.true) w.in_ok-cut_value.ensures.made);
          }
      | else-is_live w ↦
          record {
            cutting = subst (λ t. IsCutting c.args.store.now t c.args.limits x lacks (a + 1)) (sym w.store-is)
                (cutting_kept c.args.store.now s c.args.limits x lacks a v (λ live. elim w.else-is_live.branch [
                  | else-is_live-via-then-is_live+else-unary-lacks u ↦ cost_below lacks u.unary.result _ u.if-unary-lacks.false (u.unary.ensures live)
                  | else-is_live-via-else-is_live u ↦ not_live _ (sym c.is_live.ensures ∙ u.if-is_live.false) live
                ]));
            cuts = subst (λ t. AddsCuts c.args.store.now t x) (sym w.store-is) c.loop-value.invariant.cuts;
            closing = subst (λ t. IsClosing c.args.store.now t c.args.limits x (a + 1)) (sym w.store-is)
                (closing_kept c.args.store.now s c.args.limits x a closing (λ live reaches. elim w.else-is_live.branch [
                  | else-is_live-via-then-is_live+else-unary-lacks u ↦ stays s c.args.limits.threshold x a lacks u.unary.result v.sum u.if-unary-lacks.false (u.unary.ensures live) reaches
                  | else-is_live-via-else-is_live u ↦ not_live _ (sym c.is_live.ensures ∙ u.if-is_live.false) live
                ]));
          }
    ]

pub returns-in_err-cut_value-clause-cuts : goal.returns-in_err-cut_value-clause-cuts
returns-in_err-cut_value-clause-cuts c = subst (λ t. AddsCuts c.args.store.now t c.args.x) (sym c.in_err-cut_value.ensures.stopped) c.loop-value.invariant.cuts
