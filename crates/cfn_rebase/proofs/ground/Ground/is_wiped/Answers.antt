use Rattle.std.proofs.Common.{◌≡◌, ℕ, ◌<◌, inl, inr, sym, ◌∙◌, subst, arith}
use Rattle.std.proofs.lemmas.Bool.{cases_eq}
use Rattle.std.specs.Prelude.{true, false, slice_index}
use Rattle.cfn_model.specs.Sums.{is_live}
use Rattle.cfn_store.specs.Standing.{history}
use Rattle.cfn_rebase.proofs.ground.Ground.is_wiped.Goals as goal

pub loop-x-preserved : goal.loop-x-preserved
loop-x-preserved c = λ y l none. elim (cases_eq y c.loop-x.x) [
  | inl at ↦ (let e : true ≡ false = sym (c.has_none.ensures.1 (subst (λ z. (a : ℕ) → a < slice_index c.args.self.now.network.sizes z → is_live (history c.args.self.now) z a ≡ false) at none)) ∙ c.if-has_none.false in cc)
  | inr other ↦ c.loop-x.invariant y (omega (arith, l, other)) none
]
