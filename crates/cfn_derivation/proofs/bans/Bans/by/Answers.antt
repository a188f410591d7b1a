use Rattle.std.proofs.Common.{◌<◌, length, ap, sym, ◌∙◌, subst, false, arith}
use Rattle.cfn_model.specs.Steps.{IsPlace}
use Rattle.cfn_rows.specs.Jagged.{row_at}
use Rattle.cfn_derivation.specs.Banned.{Banning, bans_of, flag_at}
use Rattle.cfn_derivation.proofs.Banning.{slot_below, read_same}
use Rattle.cfn_derivation.proofs.bans.Bans.by.Goals as goal

pub get-requires : goal.get-requires
get-requires c =
    let s : Banning = record { network = c.self.inside.network.now; own = c.self.inside.own; by = c.self.inside.by } in
    let place = subst (λ P. IsPlace P c.args.f c.args.place c.args.value) (sym (ap (λ b. b.network) c.self.view_is)) c.requires in (
      (let h = place.function in let k = c.self.invariant.functions in omega (arith, h, k)),
      subst (λ k. k < length (row_at c.self.inside.by c.args.f)) (sym c.slot_of-slot.ensures) (slot_below s c.args.f c.args.place c.args.value c.self.invariant place),
    )

pub returns : goal.returns
returns c =
    let s : Banning = record { network = c.self.inside.network.now; own = c.self.inside.own; by = c.self.inside.by } in
    let place = subst (λ P. IsPlace P c.args.f c.args.place c.args.value) (sym (ap (λ b. b.network) c.self.view_is)) c.requires in
    let there : c.slot_of-slot.result < length (row_at c.self.inside.by c.args.f) = subst (λ k. k < length (row_at c.self.inside.by c.args.f)) (sym c.slot_of-slot.ensures) (slot_below s c.args.f c.args.place c.args.value c.self.invariant place) in
    c.get.ensures ∙ read_same (row_at c.self.inside.by c.args.f) c.slot_of-slot.result c.get.result false there ∙ ap (flag_at c.self.inside.by c.args.f) c.slot_of-slot.ensures
    ∙ ap (λ b. (bans_of b).by c.args.f c.args.place c.args.value) c.self.view_is
