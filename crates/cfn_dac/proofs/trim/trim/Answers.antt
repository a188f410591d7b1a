use Rattle.std.proofs.Common.{sym, subst, arith}
use Rattle.cfn_model.specs.Steps.{IsPlace}
use Rattle.cfn_store.specs.Standing.{history}
use Rattle.cfn_gain.proofs.CallerLemmas.{halts_after}
use Rattle.cfn_dac.specs.Moves.{Trims, CostBelow}
use Rattle.cfn_dac.proofs.Trimming.{IsCuttingIn, cutting_none, cutting_one, trimming_start, trimming_cut, nearer, can_cut, is_cell, all_below}
use Rattle.cfn_dac.proofs.trim.trim.Goals as goal

pub loop-cell-init : goal.loop-cell-init
loop-cell-init c = record {
  trimming = trimming_start c.args.store.now c.args.limits c.lacking-lacks.result c.requires.goes c.lacking-lacks.ensures;
  cutting = cutting_none c.args.store.now c.args.limits.threshold c.args.f;
}

pub costly-requires : goal.costly-requires
costly-requires c = subst (λ P. IsPlace P c.args.f c.args.place c.args.value) (sym c.loop-cell.invariant.trimming.passing.adds.network) c.requires.place

pub cut_tuple-requires-clause-goes : goal.cut_tuple-requires-clause-goes
cut_tuple-requires-clause-goes c = c.loop-cell.invariant.trimming.passing.goes

pub cut_tuple-requires-clause-cell : goal.cut_tuple-requires-clause-cell
cut_tuple-requires-clause-cell c =
    let s = c.loop-cell.store in
    is_cell s.network (history s) c.lacking-lacks.result c.args.f c.args.place c.args.value c.in-Some.cell (subst (λ P. IsPlace P c.args.f c.args.place c.args.value) (sym c.loop-cell.invariant.trimming.passing.adds.network) c.requires.place) c.in-Some.ensures

pub cut_tuple-requires-clause-reaches : goal.cut_tuple-requires-clause-reaches
cut_tuple-requires-clause-reaches c =
    let s = c.loop-cell.store in
    can_cut s.network (history s) c.args.limits.threshold c.lacking-lacks.result c.args.f c.args.place c.args.value c.in-Some.cell c.loop-cell.invariant.trimming.sum c.in-Some.ensures

pub loop-cell-smaller : goal.loop-cell-smaller
loop-cell-smaller c = nearer c.loop-cell.store c.cut_tuple.new.store c.args.limits c.args.f c.in-Some.cell c.in_ok-cut_tuple.ensures.does c.in_ok-cut_tuple.ensures.made

pub loop-cell-preserved : goal.loop-cell-preserved
loop-cell-preserved c =
    let t = c.loop-cell.invariant.trimming in let s = c.args.store.now in
    record {
      trimming = trimming_cut s c.loop-cell.store c.cut_tuple.new.store c.args.limits c.lacking-lacks.result c.args.f c.in-Some.cell t c.in_ok-cut_tuple.ensures.does c.in_ok-cut_tuple.ensures.made;
      cutting = cutting_one s c.loop-cell.store c.cut_tuple.new.store c.args.limits.threshold c.lacking-lacks.result c.args.f c.args.place c.args.value c.in-Some.cell t.passing.adds.network c.lacking-lacks.ensures t.trims c.in-Some.ensures c.in_ok-cut_tuple.ensures.made c.loop-cell.invariant.cutting;
    }

pub returns-in_err-cut_tuple-clause-does : goal.returns-in_err-cut_tuple-clause-does
returns-in_err-cut_tuple-clause-does c =
    halts_after c.args.store.now c.loop-cell.store c.cut_tuple.new.store c.args.limits _ c.in_err-cut_tuple.field-0.0 c.from_residual.result c.loop-cell.invariant.trimming.passing c.in_err-cut_tuple.ensures.does c.from_residual.ensures.1

pub returns-clause-does : goal.returns-clause-does
returns-clause-does c = let p = c.loop-cell.invariant.trimming.passing in record { adds = p.adds; ends = p.goes.below }

pub returns-clause-trims : goal.returns-clause-trims
returns-clause-trims c = c.loop-cell.invariant.trimming.trims

pub returns-clause-below : goal.returns-clause-below
returns-clause-below c =
    let now = c.loop-cell.store in let v = c.loop-cell.invariant.trimming in let sum = v.sum in
    all_below c.args.store.now.network (history now) c.args.limits.threshold c.lacking-lacks.result c.args.f c.args.place c.args.value (omega (arith, sum))
    (subst (λ P. CostBelow P (history now) c.args.f c.args.place c.args.value c.lacking-lacks.result) v.passing.adds.network c.in_default.ensures)

pub returns-clause-keeps : goal.returns-clause-keeps
returns-clause-keeps c = c.loop-cell.invariant.cutting.keeps

pub returns-clause-gains : goal.returns-clause-gains
returns-clause-gains c = c.loop-cell.invariant.cutting.gains

pub returns-in_err-cut_tuple-clause-trims : goal.returns-in_err-cut_tuple-clause-trims
returns-in_err-cut_tuple-clause-trims c = subst (λ t. Trims c.args.store.now.network (history c.args.store.now) (history t)) (sym c.in_err-cut_tuple.ensures.stopped) c.loop-cell.invariant.trimming.trims

pub returns-in_err-cut_tuple-clause-keeps : goal.returns-in_err-cut_tuple-clause-keeps
returns-in_err-cut_tuple-clause-keeps c = (subst (λ t. IsCuttingIn c.args.store.now t c.args.limits.threshold c.args.f) (sym c.in_err-cut_tuple.ensures.stopped) c.loop-cell.invariant.cutting).keeps

pub returns-in_err-cut_tuple-clause-gains : goal.returns-in_err-cut_tuple-clause-gains
returns-in_err-cut_tuple-clause-gains c = (subst (λ t. IsCuttingIn c.args.store.now t c.args.limits.threshold c.args.f) (sym c.in_err-cut_tuple.ensures.stopped) c.loop-cell.invariant.cutting).gains
