use Rattle.std.proofs.Common.{refl, ap, subst, arith}
use Rattle.cfn_due.specs.Siding.{Siding, IsOtherAsked}
use Rattle.cfn_due.proofs.Asking.{other_asked}
use Rattle.cfn_due.proofs.sides.Sides.doubt_other.Goals as goal

pub returns-then-place-lt2 : goal.returns-then-place-lt2
returns-then-place-lt2 c =
    let old : Siding = record { size = c.self.inside.size; doubted = c.self.inside.doubted } in
    let new : Siding = record { size = c.self.inside.size; doubted = c.mark.new.self } in
    let below = c.requires in
    let e = ap (λ (r : Siding). r.size) c.self.view_is in
    subst (λ r. IsOtherAsked r new c.args.place) c.self.view_is
    (other_asked old new c.args.place c.number_of.result refl (omega (arith, e, below)) c.self.invariant c.if-place-lt2.true c.number_of.ensures c.mark.ensures.here c.mark.ensures.others)
