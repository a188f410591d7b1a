use Rattle.std.proofs.Common.{◌-◌, ◌<◌, subst, sym, refl, length, eqb-true}
use Rattle.cfn_model.specs.Network.{IsNetwork}
use Rattle.cfn_store.specs.Standing.{history}
use Rattle.cfn_store.proofs.Doubting.{seen, along}
use Rattle.cfn_store.proofs.Least.{free_between}
use Rattle.cfn_store.proofs.store.Store.is_known.Goals as goal

pub is_live_number-requires : goal.is_live_number-requires
is_live_number-requires c =
    let s = c.args.self.now in
    let side = seen s c.args.f c.args.place c.args.side.now c.requires.place.place c.requires.side in
    let x = c.other.ensures s.network (history s) c.args.f c.args.place (1 - c.args.place) side.2 in
    subst (λ n. n < length s.network.sizes) (sym x) (((subst IsNetwork c.network.ensures c.law_limits.ensures).functions c.args.f c.requires.place.function).variables (1 - c.args.place) side.0)

pub line-requires : goal.line-requires
line-requires c =
    let s = c.args.self.now in
    let side = seen s c.args.f c.args.place c.args.side.now c.requires.place.place c.requires.side in
    (s.network, history s, c.args.f, c.args.place, 1 - c.args.place, side.2, c.requires.place)

pub least-requires : goal.least-requires
least-requires c =
    let s = c.args.self.now in
    let side = seen s c.args.f c.args.place c.args.side.now c.requires.place.place c.requires.side in
    let x = c.other.ensures s.network (history s) c.args.f c.args.place (1 - c.args.place) side.2 in (
      s.network,
      history s,
      c.args.f,
      c.args.place,
      c.args.value,
      1 - c.args.place,
      along s.network (history s) c.args.f c.args.place c.args.value (1 - c.args.place) c.in-Some.last.now c.other.result c.args.side.now c.line.result side.2 side.0 c.requires.place c.requires.live c.line.ensures x (c.if-not-is_live_number.ensures refl),
    )

pub returns-in-Some-least : goal.returns-in-Some-least
returns-in-Some-least c = λ free.
    (let s = c.args.self.now in
    let side = seen s c.args.f c.args.place c.args.side.now c.requires.place.place c.requires.side in
    let x = c.other.ensures s.network (history s) c.args.f c.args.place (1 - c.args.place) side.2 in
    free_between s.network (history s) c.args.f c.args.place c.args.value (1 - c.args.place) c.in-Some.last.now c.in-Some-least.extreme
    (c.in-Some-least.ensures s.network (history s) c.args.f c.args.place c.args.value (1 - c.args.place)
    (along s.network (history s) c.args.f c.args.place c.args.value (1 - c.args.place) c.in-Some.last.now c.other.result c.args.side.now c.line.result side.2 side.0 c.requires.place c.requires.live c.line.ensures x (c.if-not-is_live_number.ensures refl)))
    (eqb-true c.in-Some-least.extreme.cost 0 free))
