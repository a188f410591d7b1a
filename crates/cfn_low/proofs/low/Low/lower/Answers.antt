use Rattle.std.proofs.Common.{◌≡◌, ◌∙◌, refl, sym, ap, subst, arith}
use Rattle.std.specs.Prelude.{min}
use Rattle.atomic_table.specs.Table.{Me, step, Allows}
use mathlib.Core.Option.{none}
use Rattle.cfn_model.specs.Network.{Network}
use Rattle.cfn_low.specs.Steps.{IsReached, IsWord, Lowers}
use Rattle.cfn_low.proofs.Turns.{lowers}
use Rattle.cfn_low.proofs.low.Low.lower.Goals as goal

pub fetch_min-found-requires : goal.fetch_min-found-requires
fetch_min-found-requires g c = (
  c.holder.invariant.0 ∙ sym c.self.invariant.0,
  omega (arith, c.self.invariant.1),
  subst (λ (P : Network). Allows (IsWord c.self.inside.table.shared.key) c.self.inside.table.shared.table_id.slots c.holder.inside.seat.id c.holder.inside.seat.me 0 (λ n. min n c.price-price.result) (Lowers P (step c.self.inside.table.shared.table_id.slots 0 c.price-price.result 0 none) c.holder.inside.seat.me)) c.self.invariant.3
      (subst (λ m. Allows (IsWord c.self.inside.table.shared.key) c.self.inside.table.shared.table_id.slots c.holder.inside.seat.id m 0 (λ n. min n c.price-price.result) (Lowers c.self.inside.table.shared.key (step c.self.inside.table.shared.table_id.slots 0 c.price-price.result 0 none) m)) (sym c.holder.invariant.2)
      (lowers c.self.inside.table.shared.key c.self.inside.table.shared.table_id.slots c.holder.inside.seat.id _ (step c.self.inside.table.shared.table_id.slots 0 c.price-price.result 0 none) c.price-price.result refl (subst (λ (P : Network). IsReached P c.price-price.result) (c.requires ∙ sym c.self.invariant.3) c.price-price.ensures.reached) c.holder.invariant.3.some)),
)
