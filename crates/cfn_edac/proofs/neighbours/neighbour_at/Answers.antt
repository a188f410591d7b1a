use Rattle.std.proofs.Common.{◌≡◌, ◌-◌, true≢false, refl, sym, ◌∙◌, subst, arith}
use Rattle.std.specs.Prelude.{IsTrue}
use Rattle.cfn_model.specs.Network.{variable_at}
use Rattle.cfn_consistency.specs.Openness.{is_open}
use Rattle.cfn_store.specs.Standing.{history}
use Rattle.cfn_incidence.proofs.CallerLemmas.{two_there}
use Rattle.cfn_edac.specs.Gathering.{IsNeighbourAt}
use Rattle.cfn_edac.proofs.Beside.{both_open, other_closed}
use Rattle.cfn_edac.proofs.neighbours.neighbour_at.Goals as goal

pub returns-then-count-lt2 : goal.returns-then-count-lt2
returns-then-count-lt2 c = λ j pair.
    (let s = c.args.store.now in let p = c.args.place in
    let two = two_there s.network c.args.x p c.requires.stands c.if-place-x.false in
    let here = pair.one.0 in let there = pair.other.0 in let apart = pair.different in
    let same : j ≡ 1 - p.place = omega (arith, two, here, there, apart) in
    true≢false (sym (subst (λ k. IsTrue (is_open s.network (history s) (variable_at s.network p.function k))) same pair.other.1) ∙ other_closed s c.args.x c.count.result p c.requires.stands two c.count.ensures c.if-count-lt2.true))

pub returns-else-count-lt2 : goal.returns-else-count-lt2
returns-else-count-lt2 c =
    let s = c.args.store.now in let p = c.args.place in let many = c.if-count-lt2.false in
    subst (IsNeighbourAt s.network (history s) p) (sym c.pair_of.ensures)
    (record { function = refl; place = refl; both = both_open s c.args.x c.count.result p c.requires.stands c.if-place-x.false c.requires.open c.count.ensures (omega (arith, many)) })
