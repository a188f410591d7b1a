use Rattle.cfn_tables.proofs.CallerLemmas.{place_small}
use Rattle.cfn_check.proofs.asked.is_place.Goals as goal

pub returns-clause-small : goal.returns-clause-small
returns-clause-small c = λ yes.
    let s = place_small c.args.network.now c.args.f c.args.place c.args.value c.law_limits.ensures (c.has_value.ensures.0 yes) in
    (s.function, s.place, s.value)
