use Rattle.std.proofs.Common.{rules, length, sym, subst, ◌<◌}
use Rattle.std.specs.Prelude.{vec_capacity}
use Rattle.cfn_derivation.proofs.Striking.{room_for_cut, room_in_list}
use Rattle.cfn_derivation.proofs.work.Work.delete.Goals as goal

pub cut_value-requires-clause-room : goal.cut_value-requires-clause-room
cut_value-requires-clause-room c = room_for_cut c.args.store.now c.args.self.now c.args.deletion.variable c.args.deletion.value c.requires.room c.requires.value c.requires.live

pub push_reserved-requires : goal.push_reserved-requires
push_reserved-requires c =
    let room = room_in_list c.args.store.now c.args.self.now c.args.deletion.variable c.args.deletion.value c.requires.room c.requires.value c.requires.live in
    let same : length c.self.inside.deletions.items < vec_capacity c.self.inside.deletions = subst (λ w. length w.deletions < w.room) (sym c.self.view_is) room in
    search rules
