-- Where no value is cut that may change what a place of a function has to delete, what is known of it stays.
use Rattle.std.proofs.Common.{◌≡◌, ℕ, suc, ◌<◌, true, not, ◌&&◌, List, [], ◌∷◌, length, refl, sym, ap, ◌∙◌, subst, inl, inr, arith}
use Rattle.std.proofs.lemmas.Bool.{cases_eq, and_parts, and_from}
use Rattle.std.proofs.lemmas.Int.{ints}
use Rattle.std.specs.Prelude.{ℤ, pos, ◌+ℤ◌, nat_lt, slice_index}
use Rattle.cfn_model.specs.declared.step.Step.TheVariants.{CutValue}
use Rattle.cfn_model.specs.declared.step.Event.{Event}
use Rattle.cfn_model.specs.declared.step.Event.TheVariants.{Did}
use Rattle.cfn_model.specs.Network.{Network, arity, scope_at, variable_at, dims_at, entry_at, cell}
use Rattle.cfn_model.specs.Sums.{residual, is_live, is_live_tuple, all_live, is_cut}
use Rattle.cfn_model.specs.Steps.{IsPlace}
use Rattle.cfn_model.proofs.CallerLemmas.{restrict_at}
use Rattle.cfn_consistency.specs.Agreement.{AgreeOnFunction}
use Rattle.cfn_consistency.specs.Openness.{TakesPart}
use Rattle.cfn_consistency.specs.Virtual.{Bans}
use Rattle.cfn_consistency.proofs.CallerLemmas.{part_is_local}
use Rattle.cfn_due.specs.Going.{IsOn}
use Rattle.cfn_due.proofs.CallerLemmas.{two_take_part}
use Rattle.cfn_derivation.specs.Working.{IsBehind, IsQuietAt}
use Rattle.cfn_derivation.proofs.Counting.{cut_other_variable, cut_fewer}

all_same : (history : List Event) (x a : ℕ) (scope tuple : List ℕ) → ((i : ℕ) → i < length scope → x ≡ slice_index scope i → ⊥) → all_live (Did (CutValue x a) ∷ history) scope tuple ≡ all_live history scope tuple
all_same history x a [] tuple apart = refl
all_same history x a (y ∷ scope) [] apart = refl
all_same history x a (y ∷ scope) (b ∷ tuple) apart =
    ap (λ t. t && all_live (Did (CutValue x a) ∷ history) scope tuple) (cut_other_variable history x a y b (apart 0 (omega arith)))
    ∙ ap (λ t. is_live history y b && t) (all_same history x a scope tuple (λ i h. apart (suc i) (omega (arith, h))))

none_more : (z : ℤ) → (pos 0 +ℤ z) ≡ z
none_more z = omega (arith, ints)

pub cut_agrees : (P : Network) (history : List Event) (x a f : ℕ) → (IsOn P x f → ⊥) → AgreeOnFunction P (Did (CutValue x a) ∷ history) history f
cut_agrees P history x a f off = record {
  values = λ i h b k. cut_other_variable history x a (variable_at P f i) b (λ e. off (i, h, sym e));
  tuples = λ tuple fits. ap (λ b. b && nat_lt (entry_at P f tuple) P.upper && not (is_cut history f (cell (dims_at P f) tuple)))
      (all_same history x a (scope_at P f) tuple (λ i h e. off (i, h, sym e)));
  costs = λ tuple fits live. none_more (residual P history f tuple);
}

-- so a function takes part that did, where the variable does not stand in it, or it has two variables
pub cut_part : (P : Network) (history : List Event) (x a f i : ℕ) → (IsBehind P x f i → ⊥) → TakesPart P (Did (CutValue x a) ∷ history) f → TakesPart P history f
cut_part P history x a f i apart part = elim (cases_eq (arity P f) 2) [
  | inl two ↦ two_take_part P history f two
  | inr other ↦ (part_is_local P (Did (CutValue x a) ∷ history) history f (cut_agrees P history x a f (λ on. apart (on.0, on.1, on.2, λ two. absurd (other two))))).0 part
]

pub at_place : (P : Network) (f i a : ℕ) → IsPlace P f i a → a < slice_index P.sizes (variable_at P f i)
at_place P f i a is = subst (λ d. a < d) (restrict_at (scope_at P f) P.sizes i is.place) is.value

-- and a cheap tuple stays one whose value at the place is not cut
all_kept : (history : List Event) (x b : ℕ) (scope tuple : List ℕ) → ((j : ℕ) → j < length scope → is_live history (slice_index scope j) (slice_index tuple j) ≡ true → is_live (Did (CutValue x b) ∷ history) (slice_index scope j) (slice_index tuple j) ≡ true) → all_live history scope tuple ≡ true → all_live (Did (CutValue x b) ∷ history) scope tuple ≡ true
all_kept history x b [] tuple stays all = all
all_kept history x b (y ∷ scope) [] stays all = all
all_kept history x b (y ∷ scope) (a ∷ tuple) stays all =
    let both = and_parts (is_live history y a) (all_live history scope tuple) all in
    and_from (is_live (Did (CutValue x b) ∷ history) y a) (all_live (Did (CutValue x b) ∷ history) scope tuple) (stays 0 (omega arith) both.0)
    (all_kept history x b scope tuple (λ j l live. stays (suc j) (omega (arith, l)) live) both.1)

tuple_kept : (P : Network) (history : List Event) (x b f i a : ℕ) (tuple : List ℕ) → ((j : ℕ) → j < arity P f → (j ≡ i → ⊥) → x ≡ variable_at P f j → ⊥) → slice_index tuple i ≡ a → is_live (Did (CutValue x b) ∷ history) (variable_at P f i) a ≡ true → is_live_tuple P history f tuple ≡ true → is_live_tuple P (Did (CutValue x b) ∷ history) f tuple ≡ true
tuple_kept P history x b f i a tuple apart at live was =
    let below = nat_lt (entry_at P f tuple) P.upper in
    let uncut = not (is_cut history f (cell (dims_at P f) tuple)) in
    let first = and_parts (all_live history (scope_at P f) tuple && below) uncut was in
    let second = and_parts (all_live history (scope_at P f) tuple) below first.0 in
    and_from (all_live (Did (CutValue x b) ∷ history) (scope_at P f) tuple && below) uncut
    (and_from (all_live (Did (CutValue x b) ∷ history) (scope_at P f) tuple) below (all_kept history x b (scope_at P f) tuple each second.0) second.1)
    first.1
  where
    each : (j : ℕ) → j < arity P f → is_live history (variable_at P f j) (slice_index tuple j) ≡ true → is_live (Did (CutValue x b) ∷ history) (variable_at P f j) (slice_index tuple j) ≡ true
    each j l there = elim (cases_eq j i) [
      | inl e ↦ subst (λ k. is_live (Did (CutValue x b) ∷ history) (variable_at P f k) (slice_index tuple k) ≡ true) (sym e) (subst (λ v. is_live (Did (CutValue x b) ∷ history) (variable_at P f i) v ≡ true) (sym at) live)
      | inr other ↦ cut_other_variable history x b (variable_at P f j) (slice_index tuple j) (apart j l other) ∙ there
    ]

-- so a place has nothing to delete behind a cut that can't change it
pub cut_quiet : (P : Network) (history : List Event) (x b q : ℕ) (bans : Bans) (f i a : ℕ) → (IsBehind P x f i → ⊥) → IsQuietAt P history q bans f i a → IsQuietAt P (Did (CutValue x b) ∷ history) q bans f i a
cut_quiet P history x b q bans f i a apart quiet place live unbanned =
    let has = quiet place (cut_fewer history x b (variable_at P f i) a live) unbanned in
    record {
      tuple = has.tuple;
      fits = has.fits;
      at = has.at;
      live = tuple_kept P history x b f i a has.tuple (λ j l other e. apart (j, l, sym e, λ two. other)) has.at live has.live;
      cheap = (let e = none_more (residual P history f has.tuple) in let h = has.cheap in omega (arith, ints, e, h));
    }
