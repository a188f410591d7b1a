use Rattle.std.proofs.Common.{◌<◌, length, ap, sym, subst, arith}
use Rattle.cfn_model.specs.Steps.{IsPlace}
use Rattle.cfn_rows.specs.Jagged.{row_at}
use Rattle.cfn_derivation.specs.Banned.{Banning, bans_of, IsBannedBy}
use Rattle.cfn_derivation.proofs.Banning.{slot_below, banned_by}
use Rattle.cfn_derivation.proofs.bans.Bans.ban_by.Goals as goal

pub set-requires : goal.set-requires
set-requires c =
    let s : Banning = record { network = c.self.inside.network.now; own = c.self.inside.own; by = c.self.inside.by } in
    let place = subst (λ P. IsPlace P c.args.f c.args.place c.args.value) (sym (ap (λ b. b.network) c.self.view_is)) c.requires in (
      (let h = place.function in let k = c.self.invariant.functions in omega (arith, h, k)),
      subst (λ k. k < length (row_at c.self.inside.by c.args.f)) (sym c.slot_of-slot.ensures) (slot_below s c.args.f c.args.place c.args.value c.self.invariant place),
    )

pub returns-clause-banned : goal.returns-clause-banned
returns-clause-banned c =
    let s : Banning = record { network = c.self.inside.network.now; own = c.self.inside.own; by = c.self.inside.by } in
    let place = subst (λ P. IsPlace P c.args.f c.args.place c.args.value) (sym (ap (λ b. b.network) c.self.view_is)) c.requires in
    subst (λ t. IsBannedBy t.network (bans_of t) (bans_of (record { network = s.network; own = s.own; by = c.set.new.self })) c.args.f c.args.place c.args.value) c.self.view_is
    (banned_by s c.args.f c.args.place c.args.value c.slot_of-slot.result c.set.new.self c.self.invariant place c.slot_of-slot.ensures c.set.ensures)
