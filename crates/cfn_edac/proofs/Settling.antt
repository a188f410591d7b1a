-- Where nothing is due and no step was made all is consistent.
use Rattle.std.proofs.Common.{◌≡◌, ℕ, ◌<◌, ◌≤◌, inl, inr, List, [], ◌∷◌, length, drop, sym, ap, subst, arith, ◌⊎◌}
use Rattle.std.proofs.lemmas.Bool.{cases_eq}
use Rattle.std.specs.Prelude.{IsTrue}
use Rattle.cfn_queue.specs.Waiting.{IsFirst}
use Rattle.cfn_model.specs.declared.step.Event.{Event}
use Rattle.cfn_model.specs.Network.{Network, arity, variable_at}
use Rattle.cfn_model.specs.Sums.{is_live}
use Rattle.cfn_model.specs.Steps.{IsPlace}
use Rattle.cfn_consistency.specs.Openness.{TakesPart}
use Rattle.cfn_consistency.specs.Consistency.{HasSupport, IsNodeConsistent, IsArcConsistent, AreFullyConsistent}
use Rattle.cfn_store.specs.Standing.{Standing, history}
use Rattle.cfn_due.specs.Dues.{Dues, NothingWaits, waiting, without_first}
use Rattle.cfn_due.proofs.CallerLemmas.{nothing_waits_is_full, two_take_part}
use Rattle.cfn_due.specs.Siding.{HasSupports}
use Rattle.cfn_gain.specs.declared.limits.Limits.{Limits}
use Rattle.cfn_gain.specs.Calls.{Adds, IsUnchanged, Grows}
use Rattle.cfn_gain.proofs.CallerLemmas.{unchanged, no_shorter}
use Rattle.cfn_edac.specs.Revising.{HoldsIn, IsRevised, IsRunOut}

-- where no step was made nothing waits
none_waits : (before after : Standing) (due : Dues) → IsUnchanged before after → Grows before after ⊎ NothingWaits due → NothingWaits due
none_waits before after due same (inl grows) = absurd (omega (arith, same, grows))
none_waits before after due same (inr none) = none

-- nothing was due, and then all variables were level
pub settled_here : (before mid after : Standing) (limits : Limits) (old new : Dues) → IsUnchanged before mid → IsUnchanged mid after → IsRunOut before mid old → Adds mid after limits → HoldsIn after new → (IsUnchanged mid after → IsNodeConsistent mid.network (history mid) limits.threshold) → (IsUnchanged mid after → new ≡ old) → AreFullyConsistent after.network (history after) limits.threshold
settled_here before mid after limits old new same still run adds holds nodes due =
    let is = unchanged mid after limits adds still in
    nothing_waits_is_full after.network (history after) limits.threshold new holds
    (subst NothingWaits (sym (due still)) (none_waits before mid old same run.why))
    (subst (λ t. IsNodeConsistent t.network (history t) limits.threshold) (sym is) (nodes still))

-- where no step was made and less waits a look is done
pub looked : (before after : Standing) (limits : Limits) (old new : Dues) → Adds before after limits → length after.block ≤ length before.block → HoldsIn before new → waiting new < waiting old → IsRevised before after old new
looked before after limits old new adds none holds less =
    let more = no_shorter before after limits adds in
    let same : IsUnchanged before after = omega (arith, none, more) in
    record { holds = subst (λ t. HoldsIn t new) (sym (unchanged before after limits adds same)) holds; sooner = inr (same, less) }

-- the first of what waits is taken away
drops_one : (items : List ℕ) (f : ℕ) → IsFirst items f → length (drop 1 items) < length items
drops_one [] f first = absurd (let h = ap length first.1 in omega (arith, h))
drops_one (g ∷ items) f first = omega arith

pub fewer_arcs : (old new : Dues) (f : ℕ) → IsFirst old.arcs.items f → new ≡ record { arcs = without_first old.arcs; directed = old.directed; existing = old.existing } → waiting new < waiting old
fewer_arcs old new f first taken = let e = ap waiting taken in let d = drops_one old.arcs.items f first in omega (arith, e, d)

pub fewer_directed : (old new : Dues) (f : ℕ) → IsFirst old.directed.items f → new ≡ record { arcs = old.arcs; directed = without_first old.directed; existing = old.existing } → waiting new < waiting old
fewer_directed old new f first taken = let e = ap waiting taken in let d = drops_one old.directed.items f first in omega (arith, e, d)

-- both places of a function of two variables
pub two_sides : (P : Network) (history : List Event) (f : ℕ) → arity P f ≡ 2 → HasSupports P history f 0 → HasSupports P history f 1 → IsArcConsistent P history f
two_sides P history f two first second i a place live = elim (cases_eq i 0) [
  | inl e ↦ subst (λ j. IsPlace P f j a → IsTrue (is_live history (variable_at P f j) a) → HasSupport P history f j a) (sym e) (first a) place live
  | inr other ↦ (let below = place.place in let e : i ≡ 1 = omega (arith, below, two, other) in
      subst (λ j. IsPlace P f j a → IsTrue (is_live history (variable_at P f j) a) → HasSupport P history f j a) (sym e) (second a) place live)
]

-- an arc consistent one has supports at both
pub sides_of : (P : Network) (history : List Event) (f : ℕ) → (TakesPart P history f → IsArcConsistent P history f) → arity P f ≡ 2 → HasSupports P history f 0 × HasSupports P history f 1
sides_of P history f arcs two = let is = arcs (two_take_part P history f two) in (is 0, is 1)
