-- At a function of two variables of which one is open: whether the other one is.
use Rattle.std.proofs.Common.{◌≡◌, ℕ, ◌-◌, ◌<◌, ◌≤◌, refl, sym, subst, arith}
use Rattle.std.specs.Prelude.{false, IsTrue}
use Rattle.cfn_model.specs.Network.{arity, variable_at}
use Rattle.cfn_rows.specs.Sets.{live_count}
use Rattle.cfn_consistency.specs.Openness.{is_open, HasOpenPair}
use Rattle.cfn_store.specs.Rooms.{sets_of}
use Rattle.cfn_store.specs.Standing.{Standing, history}
use Rattle.cfn_dac.proofs.CallerLemmas.{is_open_by, is_closed_by}
use Rattle.cfn_incidence.specs.declared.incidence.Place.{Place}
use Rattle.cfn_incidence.specs.Places.{StandsAt}
use Rattle.cfn_incidence.proofs.CallerLemmas.{two_there}
use Rattle.cfn_due.proofs.CallerLemmas.{pair_of_two}

-- both are open
pub both_open : (s : Standing) (x count : ℕ) (p : Place) → StandsAt s.network x p → (p.other ≡ x → ⊥) → 2 ≤ live_count (sets_of s) x → count ≡ live_count (sets_of s) p.other → 2 ≤ count → HasOpenPair s.network (history s) p.function p.place (1 - p.place)
both_open s x count p at apart here is many =
    let two = two_there s.network x p at apart in let within = at.place in
    pair_of_two s.network (history s) p.function p.place at.function two (omega (arith, within, two))
    (subst (λ y. IsTrue (is_open s.network (history s) y)) (sym at.is) (is_open_by s x _ refl here))
    (subst (λ y. IsTrue (is_open s.network (history s) y)) (at.other two) (is_open_by s p.other count is many))

-- the other one is not
pub other_closed : (s : Standing) (x count : ℕ) (p : Place) → StandsAt s.network x p → arity s.network p.function ≡ 2 → count ≡ live_count (sets_of s) p.other → count < 2 → is_open s.network (history s) (variable_at s.network p.function (1 - p.place)) ≡ false
other_closed s x count p at two is few = subst (λ y. is_open s.network (history s) y ≡ false) (at.other two) (is_closed_by s p.other count is few)
