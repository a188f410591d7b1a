-- A value with full supports in the neighbours makes its variable existential.
use Rattle.std.proofs.Common.{◌≡◌, ℕ, ◌+◌, ◌<◌, ◌≤◌, inl, inr, List, length, sym, ap, ◌∙◌, subst, arith}
use Rattle.std.proofs.lemmas.Int.{ints}
use Rattle.std.specs.Prelude.{min, Ok, pos, ◌<ℤ◌, IsTrue, slice_index, Result}
use Rattle.cfn_model.specs.declared.step.Event.{Event}
use Rattle.cfn_model.specs.Network.{Network, IsNetwork, arity, variable_at, scope_at}
use Rattle.cfn_model.specs.Sums.{floor, unary, is_live}
use Rattle.cfn_consistency.specs.Consistency.{HasFullSupport, IsExistential}
use Rattle.cfn_net.proofs.CallerLemmas.{get_or-dims}
use Rattle.cfn_store.specs.Standing.{Standing, history}
use Rattle.cfn_dac.specs.declared.pair.Pair.{Pair}
use Rattle.cfn_dac.specs.Full.{IsPair, AreFullBelow}
use Rattle.cfn_gain.specs.declared.limits.Limits.{Limits}
use Rattle.cfn_gain.specs.declared.limits.Halt.{Halt}
use Rattle.cfn_gain.specs.Calls.{Does, Passing, Shows, IsUnchanged}
use Rattle.cfn_gain.specs.Levels.{IsLevel}
use Rattle.cfn_gain.proofs.CallerLemmas.{passing_adds, shows_after}
use Rattle.cfn_edac.specs.Neighbours.{IsNeighbour, AreNeighbours, HasGood, pair_at}
use Rattle.cfn_edac.proofs.Gather.{which}

-- a variable stands at one place of a function
pub same_place : (P : Network) (f i p : ℕ) → IsNetwork P → f < length P.functions → i < arity P f → p < arity P f → variable_at P f i ≡ variable_at P f p → i ≡ p
same_place P f i p net there one other same = elim (which i p) [
  | inl h ↦ absurd ((net.functions f there).different i p h other same)
  | inr r ↦ (elim r [
    | inl e ↦ e
    | inr h ↦ absurd ((net.functions f there).different p i h one (sym same))
  ])
]

moved : (P : Network) (history : List Event) (f g i p j q a : ℕ) → g ≡ f → p ≡ i → q ≡ j → HasFullSupport P history g p q a → HasFullSupport P history f i j a
moved P history f g i p j q a e d b full =
    subst (λ n. HasFullSupport P history f i n a) b (subst (λ n. HasFullSupport P history f n q a) d (subst (λ n. HasFullSupport P history n p q a) e full))

pub existential_of : (P : Network) (history : List Event) (x : ℕ) (pairs : List Pair) → IsNetwork P → AreNeighbours P history x pairs → HasGood P history x pairs → IsExistential P history x
existential_of P history x pairs net are good = record {
  value = good.0;
  free = good.1.free;
  supports = λ f i j pair at first.
      (let r = are.all f i j pair at in
      let neighbour = are.each r.neighbour r.within in
      let mine = pair_at pairs r.neighbour in
      let low = r.first in
      let high = first mine.function mine.place mine.other neighbour.both (neighbour.at ∙ sym at) r.other in
      let same : mine.function ≡ f = omega (arith, low, high) in
      let there = pair.active.function in
      let place_there = subst (λ g. mine.place < arity P g) same neighbour.both.one.0 in
      let other_there = subst (λ g. mine.other < arity P g) same neighbour.both.other.0 in
      let place_is = same_place P f mine.place i net there place_there pair.one.0 (sym (ap (λ g. variable_at P g mine.place) same) ∙ neighbour.at ∙ sym at) in
      let other_is = same_place P f mine.other j net there other_there pair.other.0 (sym (ap (λ g. variable_at P g mine.other) same) ∙ r.other) in
      moved P history f mine.function i mine.place j mine.other good.0 same place_is other_is (good.1.full r.neighbour r.within));
}

-- a neighbour is a pair of places, and a value of x one of the values there
pub pair_of_neighbour : (P : Network) (history : List Event) (x : ℕ) (pair : Pair) → IsNeighbour P history x pair → IsPair P pair
pair_of_neighbour P history x pair neighbour = record {
  function = neighbour.both.active.function;
  place = neighbour.both.one.0;
  other = neighbour.both.other.0;
  different = neighbour.both.different;
}

-- the values that cost less than an amount have full supports in the first n neighbours
abbrev pub AreFullTo : Network → List Event → List Pair → ℕ → ℕ → Type 0
AreFullTo P history pairs alpha n = (k : ℕ) → k < n → AreFullBelow P history (pair_at pairs k) alpha

pub full_none : (P : Network) (history : List Event) (pairs : List Pair) (alpha : ℕ) → AreFullTo P history pairs alpha 0
full_none P history pairs alpha k h = absurd (omega (arith, h))

pub full_more : (before now next : Standing) (limits : Limits) (pairs : List Pair) (alpha cap lacks n : ℕ) → Passing before now limits (AreFullTo before.network (history before) pairs alpha n) → Does now next limits (Ok tt) → (IsUnchanged now next → AreFullBelow now.network (history now) (pair_at pairs n) cap) → floor before.network (history before) + alpha ≤ limits.threshold → floor now.network (history now) + lacks ≡ limits.threshold → cap ≡ min alpha lacks → Passing before next limits (AreFullTo before.network (history before) pairs alpha (n + 1))
full_more before now next limits pairs alpha cap lacks n p does here below sum least =
    passing_adds before now next limits _ _ p does.adds does.ends
    (λ is fact same k h. elim (which k n) [
      | inl less ↦ fact k less
      | inr r ↦ (elim r [
        | inl e ↦
            (let floors = ap (λ t. floor t.network (history t)) is in
            let whole : cap ≡ alpha = omega (arith, floors, below, sum, least) in
            subst (λ i. AreFullBelow before.network (history before) (pair_at pairs i) alpha) (sym e)
            (subst (λ m. AreFullBelow before.network (history before) (pair_at pairs n) m) whole
            (subst (λ t. AreFullBelow t.network (history t) (pair_at pairs n) cap) is (here same))))
        | inr past ↦ absurd (omega (arith, h, past))
      ])
    ])

-- where a variable is level and values below an amount have full supports, one is good
pub good_of_level : (P : Network) (history : List Event) (k x : ℕ) (pairs : List Pair) (alpha n : ℕ) → AreNeighbours P history x pairs → length pairs ≤ n → 0 < alpha → AreFullTo P history pairs alpha n → IsLevel P history k x → HasGood P history x pairs
good_of_level P history k x pairs alpha n are all some each level =
    let a = level.free.0 in let free = level.free.1 in (
      a,
      record {
        free = free;
        full = λ m h.
            (let neighbour = are.each m h in
            let pair = pair_at pairs m in
            let size = get_or-dims P.sizes (scope_at P pair.function) pair.place neighbour.both.one.0 ∙ ap (slice_index P.sizes) neighbour.at in
            let value = free.value.value in
            each m (omega (arith, h, all)) a
            (record { function = neighbour.both.active.function; place = neighbour.both.one.0; value = omega (arith, size, value) })
            (subst (λ v. IsTrue (is_live history v a)) (sym neighbour.at) free.live)
            (subst (λ v. unary P history v a <ℤ pos alpha) (sym neighbour.at) (let none = free.free in omega (arith, ints, none, some))));
      },
    )

pub good_after : (before now next : Standing) (limits : Limits) (x : ℕ) (pairs : List Pair) (alpha n : ℕ) (result : Result (Unit {0}) Halt) → AreNeighbours before.network (history before) x pairs → length pairs ≤ n → 0 < alpha → Passing before now limits (AreFullTo before.network (history before) pairs alpha n) → Does now next limits result → Shows now next result (IsLevel now.network (history now) limits.threshold x) → Shows before next result (HasGood before.network (history before) x pairs)
good_after before now next limits x pairs alpha n result are all some p does level =
    shows_after before now next limits result p.adds does.adds p.fact level
    (λ is fact flat. good_of_level before.network (history before) limits.threshold x pairs alpha n are all some fact (subst (λ t. IsLevel t.network (history t) limits.threshold x) is flat))
