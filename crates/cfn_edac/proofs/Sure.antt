-- What is known to rest, and what is seen of a place.
use Rattle.std.proofs.Common.{◌≡◌, ℕ, ◌<◌, true, false, true≢false, inl, inr, List, refl, sym, ◌∙◌, subst}
use Rattle.std.proofs.lemmas.Bool.{cases_eq}
use Rattle.std.specs.Prelude.{Bool}
use Rattle.cfn_model.specs.declared.step.Event.{Event}
use Rattle.cfn_model.specs.Network.{Network, arity, variable_at}
use Rattle.cfn_consistency.specs.Openness.{HasOpenPair, is_open}
use Rattle.cfn_consistency.specs.Consistency.{HasFullSupport}
use Rattle.cfn_incidence.specs.declared.incidence.Place.{Place}
use Rattle.cfn_due.specs.Resting.{RestsAt}
use Rattle.cfn_edac.specs.Resting.{RestsOn}
use Rattle.cfn_edac.proofs.Gather.{other_at}

pub sure_rests : (P : Network) (h : List Event) (p : Place) (a : ℕ) → RestsAt P h p.function p.place a → RestsOn P h p a
sure_rests P h p a is = λ j pair. elim (cases_eq j is.other) [
  | inl e ↦ subst (λ k. HasFullSupport P h p.function p.place k a) (sym e) is.full
  | inr other ↦ absurd (true≢false (sym pair.other.1 ∙ is.alone j pair.other.0 (λ e. pair.different (sym e)) other))
]

-- with a full support with regard to the other open variable a value rests
pub rests_at : (P : Network) (h : List Event) (p : Place) (a j : ℕ) → HasOpenPair P h p.function p.place j → HasFullSupport P h p.function p.place j a → RestsAt P h p.function p.place a
rests_at P h p a j pair full = record {
  function = pair.active.function;
  place = pair.one.0;
  other = j;
  other_place = pair.other.0;
  full = full;
  alone = λ k l not_one not_other. closed k l not_one not_other (is_open P h (variable_at P p.function k)) refl;
}
  where
    closed : (k : ℕ) → k < arity P p.function → (k ≡ p.place → ⊥) → (k ≡ j → ⊥) → (b : Bool) → is_open P h (variable_at P p.function k) ≡ b → is_open P h (variable_at P p.function k) ≡ false
    closed k l not_one not_other false is = is
    closed k l not_one not_other true is = absurd (not_other (other_at P h p (record { function = p.function; place = p.place; other = j }) k (record { function = refl; place = refl; both = pair }) (record { active = pair.active; one = pair.one; other = (l, is); different = λ e. not_one (sym e) })))
