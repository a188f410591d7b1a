use Rattle.std.proofs.Common.{◌≡◌, ◌∙◌, refl, sym, ap, subst, arith}
use Rattle.cfn_model.specs.Network.{Network}
use Rattle.cfn_low.proofs.Turns.{splits}
use Rattle.cfn_low.proofs.low.Low.split.Goals as goal

pub split_seat-seat-requires : goal.split_seat-seat-requires
split_seat-seat-requires g c =
    let shares = ap (λ m. m.0.shares) c.holder.invariant.2 in
    let now = ap (λ h. h.shares) c.holder.view_is in (
      c.holder.invariant.0 ∙ sym c.self.invariant.0,
      omega (arith, c.self.invariant.1),
      splits c.self.inside.table.shared.key 0 c.holder.inside.seat.id c.holder.inside.seat.me.0 _ _ refl refl (λ none. absurd (omega (arith, none, shares, now, c.requires.shares))) (omega (arith, shares, now, c.requires.shares)) (ap (λ (P : Network). P.upper) (sym c.self.invariant.3)) refl,
    )
