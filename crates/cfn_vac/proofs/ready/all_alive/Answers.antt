use Rattle.std.proofs.Common.{ℕ, ◌<◌, length, inl, inr, sym, subst, arith}
use Rattle.std.proofs.lemmas.Bool.{cases_eq}
use Rattle.std.specs.Prelude.{IsTrue, slice_index}
use Rattle.cfn_model.specs.Sums.{is_live}
use Rattle.cfn_model.specs.Steps.{IsValue}
use Rattle.cfn_store.specs.Standing.{Standing, history}
use Rattle.cfn_vac.proofs.ready.all_alive.Goals as goal

abbrev Has : Standing → ℕ → Type 0
Has s x = (a : ℕ) × IsValue s.network x a × IsTrue (is_live (history s) x a)

pub loop-x-preserved : goal.loop-x-preserved
loop-x-preserved c = λ y h. elim (cases_eq y c.loop-x.x) [
  | inl e ↦
      (let f = c.if-is_empty.false in let g = c.is_empty.ensures in
      let some : 0 < length c.live.result.now = grind (arith, f, g) in
      let first = c.live.ensures.live 0 some in
      subst (Has c.args.store.now) (sym e) (slice_index c.live.result.now 0, record { variable = first.0.variable; value = first.0.value }, first.1))
  | inr e ↦ c.loop-x.invariant y (omega (arith, h, e))
]
