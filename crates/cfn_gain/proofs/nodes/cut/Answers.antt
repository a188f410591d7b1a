use Rattle.std.proofs.Common.{◌≡◌, ◌+◌, ◌-◌, length, sym, ◌∙◌, ap, subst, arith}
use Rattle.std.specs.Prelude.{slice_index, IsTrue, pos, ◌<ℤ◌}
use Rattle.cfn_model.specs.Sums.{unary, is_live}
use Rattle.cfn_store.specs.Standing.{history}
use Rattle.cfn_gain.specs.Passes.{IsCutting}
use Rattle.cfn_gain.proofs.Cutting.{keep, cut_one, cut_due, next_variable, all_cut, value_is, word_reaches, word_less, dead_costs_nothing}
use Rattle.cfn_gain.proofs.nodes.cut.Goals.{then-is_live+then-unary-lacks+else-is_full, else-is_live, else-is_live-via-then-is_live+else-unary-lacks, else-is_live-via-else-is_live}
use Rattle.cfn_gain.proofs.nodes.cut.Goals as goal

pub returns-then-is_full-clause-answer : goal.returns-then-is_full-clause-answer
returns-then-is_full-clause-answer c =
    let s = c.loop-a.store in let v = c.loop-a.invariant in
    let value = value_is s.network c.args.network.now c.loop-x.x c.loop-a.a _ _ v.same c.loop-x-test.true c.variables-x-end.ensures c.loop-a-test.true c.size-a-end.ensures in
    let live = sym c.is_live.ensures ∙ c.if-is_live.true in
    cut_due v.some s c.args.k c.args.limit (c.args.k - c.floor.result) c.loop-x.x c.loop-a.a (v.cutting v.some v.adds) value live (word_reaches _ _ _ c.if-unary-lacks.true (c.unary.ensures live)) (c.is_full.ensures.full c.if-is_full.true)

pub cut_value-requires-clause-room : goal.cut_value-requires-clause-room
cut_value-requires-clause-room c = let v = c.loop-a.invariant in let h = (v.cutting v.some v.adds).room in let less = c.is_full.ensures.room c.if-is_full.false in omega (arith, h, less)

pub loop-a-preserved : goal.loop-a-preserved
loop-a-preserved c =
    let s = c.loop-a.store in let v = c.loop-a.invariant in
    let value = value_is s.network c.args.network.now c.loop-x.x c.loop-a.a _ _ v.same c.loop-x-test.true c.variables-x-end.ensures c.loop-a-test.true c.size-a-end.ensures in
    let lacks = c.args.k - c.floor.result in
    let x = c.loop-x.x in let a = c.loop-a.a in
    elim c.if-is_live.branch [
      | then-is_live+then-unary-lacks+else-is_full w ↦
          (let e = w.store-is ∙ w.cut_value.ensures in
          let live = sym c.is_live.ensures ∙ w.if-is_live.true in
          record {
            same = ap (λ t. t.network) e ∙ v.same;
            cutting = λ before adds. subst (λ t. IsCutting before t c.args.k c.args.limit lacks x (a + 1)) (sym e)
                (cut_one before s c.args.k c.args.limit lacks x a (v.cutting before adds) value live (word_reaches _ _ _ w.if-unary-lacks.true (w.unary.ensures live)) (w.is_full.ensures.room w.if-is_full.false));
            some = v.some;
            adds = v.adds;
          })
      | else-is_live w ↦
          (let e = w.store-is in
          let here : IsTrue (is_live (history s) x a) → unary s.network (history s) x a <ℤ pos lacks = λ live.
          elim w.else-is_live.branch [
            | else-is_live-via-then-is_live+else-unary-lacks u ↦ word_less _ _ _ u.if-unary-lacks.false (u.unary.ensures live)
            | else-is_live-via-else-is_live u ↦ dead_costs_nothing _ (sym c.is_live.ensures ∙ u.if-is_live.false) live
          ] in
          record {
            same = ap (λ t. t.network) e ∙ v.same;
            cutting = λ before adds. subst (λ t. IsCutting before t c.args.k c.args.limit lacks x (a + 1)) (sym e) (keep before s c.args.k c.args.limit lacks x a (v.cutting before adds) here);
            some = v.some;
            adds = v.adds;
          })
    ]

pub loop-x-preserved : goal.loop-x-preserved
loop-x-preserved c =
    let s = c.loop-a.store in let v = c.loop-a.invariant in
    let size = ap (λ P. slice_index P.sizes c.loop-x.x) v.same in
    let done : c.loop-a.a ≡ slice_index s.network.sizes c.loop-x.x = omega (arith, c.loop-a-test.false, c.loop-a.auto.a-end, c.size-a-end.ensures, size) in
    record {
      same = v.same;
      cutting = λ before adds. next_variable before s c.args.k c.args.limit (c.args.k - c.floor.result) c.loop-x.x (subst (λ n. IsCutting before s c.args.k c.args.limit (c.args.k - c.floor.result) c.loop-x.x n) done (v.cutting before adds));
      some = v.some;
      adds = v.adds;
    }

pub returns-clause-answer : goal.returns-clause-answer
returns-clause-answer c =
    let s = c.loop-x.store in let v = c.loop-x.invariant in
    let size = ap (λ P. length P.sizes) v.same in
    let done : c.loop-x.x ≡ length s.network.sizes = omega (arith, c.loop-x-test.false, c.loop-x.auto.x-end, c.variables-x-end.ensures, size) in
    all_cut v.some s c.args.k c.args.limit (c.args.k - c.floor.result) (subst (λ n. IsCutting v.some s c.args.k c.args.limit (c.args.k - c.floor.result) n 0) done (v.cutting v.some v.adds))
