use Rattle.std.proofs.Common.{◌+◌, inl, inr, sym, subst, arith}
use Rattle.std.specs.Prelude.{slice_index}
use Rattle.cfn_edac.proofs.Amounts.{IsCheapestYet, cheapest_begins, cheapest_new, cheapest_kept, cheapest_all}
use Rattle.cfn_edac.proofs.choosing.cheapest_by.Goals.{then-asked-least, else-asked-least+else-value-best, then-asked-least-via-then-asked-least, then-asked-least-via-else-asked-least+then-value-best}
use Rattle.cfn_edac.proofs.choosing.cheapest_by.Goals as goal

pub loop-i-init : goal.loop-i-init
loop-i-init c =
    let are = c.live-values.ensures in
    let some = c.requires.some in
    let counted = are.counted in
    let first = are.live 0 (omega (arith, some, counted)) in
    cheapest_begins c.args.store.now c.args.x c.args.pairs.now c.live-values.result.now c.asked-least.result (record { variable = first.0.variable; value = first.0.value }) first.1
    (c.asked-least.ensures.is (let fits = c.asked-least.type_inv in omega (arith, fits)))

pub loop-i-preserved : goal.loop-i-preserved
loop-i-preserved c =
    let s = c.args.store.now in
    let values = c.live-values.result.now in
    let at = c.live-values.ensures.live c.loop-i.i (omega (arith, c.loop-i-test.true)) in
    elim c.if-asked-least.branch [
      | then-asked-least w ↦
          subst (λ b. IsCheapestYet s c.args.x c.args.pairs.now values (c.loop-i.i + 1) b c.if-asked-least.least) (sym w.best-is)
          (subst (IsCheapestYet s c.args.x c.args.pairs.now values (c.loop-i.i + 1) (slice_index values c.loop-i.i)) (sym w.least-is)
          (cheapest_new s c.args.x c.args.pairs.now values c.loop-i.i c.loop-i.best c.loop-i.least c.asked-asked.result c.loop-i.invariant c.asked-asked.ensures.is
          (elim w.then-asked-least.branch [
            | then-asked-least-via-then-asked-least v ↦ inl v.if-asked-least.true
            | then-asked-least-via-else-asked-least+then-value-best v ↦ inr v.if-value-best.true
          ])
          (record { variable = at.0.variable; value = at.0.value }) at.1))
      | else-asked-least+else-value-best w ↦
          subst (λ b. IsCheapestYet s c.args.x c.args.pairs.now values (c.loop-i.i + 1) b c.if-asked-least.least) (sym w.best-is)
          (subst (IsCheapestYet s c.args.x c.args.pairs.now values (c.loop-i.i + 1) c.loop-i.best) (sym w.least-is)
          (cheapest_kept s c.args.x c.args.pairs.now values c.loop-i.i c.loop-i.best c.loop-i.least c.asked-asked.result c.loop-i.invariant c.asked-asked.ensures.is
          (elim w.if-value-best.either [
            | inl h ↦ inr h
            | inr h ↦ inl (let low = w.if-asked-least.false in omega (arith, h, low))
          ])
          c.asked-asked.ensures.above))
    ]

pub returns : goal.returns
returns c = cheapest_all c.args.store.now c.args.x c.args.pairs.now c.live-values.result.now c.loop-i.i c.loop-i.best c.loop-i.least c.live-values.ensures (omega (arith, c.loop-i-test.false)) c.loop-i.invariant
