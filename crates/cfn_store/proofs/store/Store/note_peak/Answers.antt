use Rattle.std.proofs.Common.{refl}
use Rattle.std.specs.Vec.{with_item}
use Rattle.cfn_store.specs.declared.state.State.{State}
use Rattle.cfn_store.proofs.Stores.{peak_in, peak_kept}
use Rattle.cfn_store.proofs.store.Store.note_peak.Goals as goal

pub invariant_of-self : goal.invariant_of-self
invariant_of-self c = (
  (let new : State = record c.self.inside.state { peaks = with_item c.self.inside.state.peaks c.args.x c.args.peak } in
      let room = c.self.invariant.0.room in
      peak_kept c.self.inside.network.now c.self.inside.base c.self.inside.room c.args.x c.args.peak c.self.inside.state new c.self.invariant.0 refl refl refl refl refl
      (peak_in c.self.inside.network.now c.self.inside.base c.self.inside.room c.args.x c.args.peak c.self.inside.state c.args.self.now c.self.invariant.0 c.self.view_is c.requires.peak)
      (record { trail = room.trail; live = room.live; cuts = room.cuts; few = room.few })),
  c.self.invariant.1,
)
