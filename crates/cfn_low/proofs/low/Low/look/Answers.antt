use Rattle.std.proofs.Common.{◌≡◌, ◌∙◌, sym, subst, arith}
use Rattle.atomic_table.specs.Table.{Me, step, Allows}
use mathlib.Core.Option.{none}
use Rattle.cfn_model.specs.Network.{Network}
use Rattle.cfn_machine.specs.declared.sight.Sight.{Sight}
use Rattle.cfn_low.specs.Steps.{IsWord, Looks}
use Rattle.cfn_low.proofs.Turns.{looks}
use Rattle.cfn_low.proofs.low.Low.look.Goals as goal

pub load-seen-requires : goal.load-seen-requires
load-seen-requires g c = (
  c.holder.invariant.0 ∙ sym c.self.invariant.0,
  omega (arith, c.self.invariant.1),
  subst (λ (P : Network). Allows (IsWord c.self.inside.table.shared.key) c.self.inside.table.shared.table_id.slots c.holder.inside.seat.id c.holder.inside.seat.me 0 (λ n. n) (Looks P (step c.self.inside.table.shared.table_id.slots 0 0 0 none) c.holder.inside.seat.me)) c.self.invariant.3
      (subst (λ m. Allows (IsWord c.self.inside.table.shared.key) c.self.inside.table.shared.table_id.slots c.holder.inside.seat.id m 0 (λ n. n) (Looks c.self.inside.table.shared.key (step c.self.inside.table.shared.table_id.slots 0 0 0 none) m)) (sym c.holder.invariant.2)
      (looks c.self.inside.table.shared.key c.self.inside.table.shared.table_id.slots c.holder.inside.seat.id _ (step c.self.inside.table.shared.table_id.slots 0 0 0 none))),
)
