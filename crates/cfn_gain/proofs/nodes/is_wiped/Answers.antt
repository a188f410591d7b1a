use Rattle.std.proofs.Common.{inl, inr, sym, subst, arith}
use Rattle.std.proofs.lemmas.Bool.{cases_eq}
use Rattle.cfn_store.specs.Standing.{history}
use Rattle.cfn_gain.specs.Passes.{HasLive}
use Rattle.cfn_gain.proofs.Reading.{has_live}
use Rattle.cfn_gain.proofs.nodes.is_wiped.Goals as goal

pub loop-x-preserved : goal.loop-x-preserved
loop-x-preserved c = λ y h. elim (cases_eq y c.loop-x.x) [
  | inl same ↦ subst (λ z. HasLive c.args.network.now (history c.args.store.now) z) (sym same) (has_live c.args.store.now c.args.network.now c.loop-x.x c.live.result.now c.requires c.live.ensures (let t = c.if-is_empty.false in let e = c.is_empty.ensures in grind (arith, t, e)))
  | inr other ↦ c.loop-x.invariant y (omega (arith, h, other))
]
