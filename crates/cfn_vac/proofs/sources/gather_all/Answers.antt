use Rattle.std.proofs.Common.{◌<◌, refl, sym, ap, ◌∙◌, subst, arith}
use Rattle.cfn_model.specs.declared.step.Step.TheVariants.{CutValue}
use Rattle.cfn_model.specs.Network.{IsNetwork, cells, dims_at, variable_at}
use Rattle.cfn_store.specs.Standing.{with_step}
use Rattle.cfn_net.proofs.CallerLemmas.{cell-below}
use Rattle.cfn_vac.proofs.Gathering.{gathering_start, found_at, found_room, found_nearer, gathering_more, none_at}
use Rattle.cfn_vac.proofs.sources.gather_all.Goals as goal

pub loop-number-init : goal.loop-number-init
loop-number-init c =
    let t = c.args.target in
    record { network = refl; gathering = gathering_start c.args.plan.now.network c.args.store.now c.args.q t.function t.place t.value t.amount c.args.earlier.now c.args.plan.now.steps c.requires.network c.requires.room }

pub earliest-requires-clause-number : goal.earliest-requires-clause-number
earliest-requires-clause-number c =
    let P = c.loop-number.store.network in let cheap = c.in-Some.ensures in
    subst (λ Q. c.in-Some.number < cells (dims_at Q c.args.target.function)) (sym c.network-in-Some.ensures)
    (let b = cell-below (dims_at P c.args.target.function) cheap.tuple cheap.picked.fits in let e = cheap.cell_is in omega (arith, b, e))

pub cut-requires-clause-room : goal.cut-requires-clause-room
cut-requires-clause-room c =
    let P = c.args.plan.now.network in let s = c.args.store.now in let now = c.loop-number.store in let t = c.args.target in let earlier = c.args.earlier.now in
    let net = subst IsNetwork (c.network.ensures ∙ c.requires.network) c.law_limits.ensures in
    let g = c.loop-number.invariant.gathering in
    let found = found_at P c.network-in-Some.result.now s now t.function t.place t.value t.amount c.args.q c.in-Some.number earlier c.args.plan.now.steps c.loop-number.plan.steps c.args.positions.now c.in-Some-earliest.source c.network-in-Some.ensures net c.requires.positions c.requires.live g c.in-Some.ensures (λ tuple fits cell. c.in-Some-earliest.ensures tuple fits cell) in
    found_room P s now c.args.q t.function t.place t.value t.amount earlier c.args.plan.now.steps c.loop-number.plan.steps c.in-Some-earliest.source g found

pub loop-number-smaller : goal.loop-number-smaller
loop-number-smaller c =
    let P = c.args.plan.now.network in let s = c.args.store.now in let now = c.loop-number.store in let t = c.args.target in let earlier = c.args.earlier.now in
    let net = subst IsNetwork (c.network.ensures ∙ c.requires.network) c.law_limits.ensures in
    let g = c.loop-number.invariant.gathering in
    let found = found_at P c.network-in-Some.result.now s now t.function t.place t.value t.amount c.args.q c.in-Some.number earlier c.args.plan.now.steps c.loop-number.plan.steps c.args.positions.now c.in-Some-earliest.source c.network-in-Some.ensures net c.requires.positions c.requires.live g c.in-Some.ensures (λ tuple fits cell. c.in-Some-earliest.ensures tuple fits cell) in
    found_nearer P now c.cut.new.store c.args.q t.function t.place t.value earlier c.in-Some-earliest.source found (c.in_ok-cut-in-Some-earliest.ensures.cut ∙ ap (λ Q. with_step now (CutValue (variable_at Q t.function c.in-Some-earliest.source.place) c.in-Some-earliest.source.value)) c.loop-number.invariant.network)

pub loop-number-preserved : goal.loop-number-preserved
loop-number-preserved c =
    let P = c.args.plan.now.network in let s = c.args.store.now in let now = c.loop-number.store in let t = c.args.target in let earlier = c.args.earlier.now in
    let net = subst IsNetwork (c.network.ensures ∙ c.requires.network) c.law_limits.ensures in
    let g = c.loop-number.invariant.gathering in
    let found = found_at P c.network-in-Some.result.now s now t.function t.place t.value t.amount c.args.q c.in-Some.number earlier c.args.plan.now.steps c.loop-number.plan.steps c.args.positions.now c.in-Some-earliest.source c.network-in-Some.ensures net c.requires.positions c.requires.live g c.in-Some.ensures (λ tuple fits cell. c.in-Some-earliest.ensures tuple fits cell) in
    record {
      network = c.in_ok-cut-in-Some-earliest.ensures.network ∙ c.loop-number.invariant.network;
      gathering = gathering_more P s now c.cut.new.store c.args.q t.function t.place t.value t.amount earlier c.args.plan.now.steps c.loop-number.plan.steps c.cut.new.plan.steps c.in-Some-earliest.source g found (c.in_ok-cut-in-Some-earliest.ensures.cut ∙ ap (λ Q. with_step now (CutValue (variable_at Q t.function c.in-Some-earliest.source.place) c.in-Some-earliest.source.value)) c.loop-number.invariant.network) c.in_ok-cut-in-Some-earliest.ensures.put;
    }

pub unreachable-requires : goal.unreachable-requires
unreachable-requires c =
    let P = c.args.plan.now.network in let s = c.args.store.now in let now = c.loop-number.store in let t = c.args.target in let earlier = c.args.earlier.now in
    let net = subst IsNetwork (c.network.ensures ∙ c.requires.network) c.law_limits.ensures in
    none_at P c.network-in-Some.result.now s now t.function t.place t.value t.amount c.args.q c.in-Some.number earlier c.args.plan.now.steps c.loop-number.plan.steps c.args.positions.now c.network-in-Some.ensures net c.requires.place.function c.requires.positions c.requires.live c.requires.enough c.loop-number.invariant.gathering c.in-Some.ensures (λ tuple fits cell. c.in-None.ensures tuple fits cell)
