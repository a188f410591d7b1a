use Rattle.std.proofs.Common.{◌≡◌, ◌∙◌, refl, sym, ap, subst, arith}
use Rattle.atomic_table.specs.Table.{Joins}
use Rattle.cfn_model.specs.Network.{Network}
use Rattle.cfn_low.specs.Steps.{IsWord, joined, spent}
use Rattle.cfn_low.proofs.Turns.{joins}
use Rattle.cfn_low.proofs.low.Low.meet.Goals as goal

pub join_seat-requires : goal.join_seat-requires
join_seat-requires g c =
    let shares = ap (λ m. m.0.shares) c.holder.invariant.2 in
    let v = c.holder.inside.seat.me.0 in
    let w = c.other.inside.seat.me.0 in (
      c.holder.invariant.0 ∙ sym c.self.invariant.0,
      c.other.invariant.0 ∙ sym c.self.invariant.0,
      ap (λ m. m.1) c.other.invariant.2,
      omega (arith, c.self.invariant.1),
      subst (λ (P : Network). Joins (IsWord c.self.inside.table.shared.key) c.holder.inside.seat.id v c.other.inside.seat.id w (joined v w) (spent P.upper)) c.self.invariant.3
          (joins c.self.inside.table.shared.key 0 c.holder.inside.seat.id v c.other.inside.seat.id w (omega (arith, shares, c.holder.invariant.3.some))),
    )
