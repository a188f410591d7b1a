-- Whether each live tuple with a value costs at least an amount, along a line.
use Rattle.std.proofs.Common.{◌≡◌, ℕ, ◌+◌, ◌-◌, ◌<◌, ◌≤◌, List, length, sym, ap, subst, ◌∙◌, inl, inr, arith}
use Rattle.std.proofs.lemmas.Bool.{cases_eq}
use Rattle.std.proofs.lemmas.Int.{ints}
use Rattle.std.specs.Prelude.{Option, Some, None, slice_index, ℤ, pos, ◌≤ℤ◌, ◌<ℤ◌, IsTrue, IsSomeAnd, IfSome, MatchOption}
use Rattle.cfn_model.specs.declared.step.Event.{Event}
use Rattle.cfn_model.specs.Network.{Network, IsNetwork, Fits, arity, dims_at, scope_at, variable_at}
use Rattle.cfn_model.specs.Sums.{residual, is_live, is_live_tuple}
use Rattle.cfn_model.specs.Steps.{IsPlace, CanProject}
use Rattle.cfn_net.proofs.CallerLemmas.{get_or-dims}
use Rattle.cfn_consistency.specs.Virtual.{HasCheapTuple}
use Rattle.cfn_rows.specs.Sets.{AreLive}
use Rattle.cfn_scan.specs.declared.line.Line.{Line}
use Rattle.cfn_scan.specs.declared.scan.Extreme.{Extreme}
use Rattle.cfn_scan.specs.Extremes.{NoneBetween, IsLeastBetween}
use Rattle.cfn_scan.specs.declared.line.Side.{Side}
use Rattle.cfn_store.specs.Doubts.{IsSeen}
use Rattle.cfn_scan.specs.Lines.{IsLine, IsSide, IsAlong}
use Rattle.cfn_store.specs.Rooms.{sets_of}
use Rattle.cfn_store.specs.Standing.{Standing, history}
use Rattle.cfn_scan.proofs.CallerLemmas.{tuple_at}

-- a live value of the other variable stands along the line
pub at_value : (P : Network) (h : List Event) (f i a j b : ℕ) (line : Line) → IsLine P h f i a j line → f < length P.functions → j < arity P f → b < slice_index P.sizes (variable_at P f j) → IsTrue (is_live h (variable_at P f j) b) → IsAlong P h f i a j line b
at_value P h f i a j b line is there place small live = record {
  is_line = is;
  place = record {
    function = there;
    place = place;
    value = let d = get_or-dims P.sizes (scope_at P f) j place in omega (arith, small, d);
  };
  live = live;
}

-- such a tuple that costs less is one
pub cheaper_is : (P : Network) (h : List Event) (f i a j b q : ℕ) (found : Option Extreme) → MatchOption found (NoneBetween P h f i a j b) (IsLeastBetween P h f i a j b) → IsSomeAnd found (λ extreme. extreme.cost < q) → HasCheapTuple P h f i a q
cheaper_is P h f i a j b q None is cheap = absurd cheap
cheaper_is P h f i a j b q (Some found) is cheap = record {
  tuple = is.tuple;
  fits = is.picked.fits;
  at = is.picked.one;
  live = is.picked.live;
  cheap = less found.cost (residual P h f is.tuple) is.cost_is cheap;
}
  where
    less : (cost : ℕ) (r : ℤ) → r ≡ pos cost → cost < q → r <ℤ pos q
    less cost r e l = omega (arith, ints, e, l)

-- the tuples with the other values of a list, below a number, cost as much
abbrev pub CostTo : Network → List Event → ℕ → ℕ → ℕ → ℕ → ℕ → List ℕ → ℕ → Type 0
CostTo P h f i a j q values n = (k : ℕ) → k < n → (tuple : List ℕ) → Fits (dims_at P f) tuple → slice_index tuple i ≡ a → slice_index tuple j ≡ slice_index values k → IsTrue (is_live_tuple P h f tuple) → pos q ≤ℤ residual P h f tuple

pub cost_none : (P : Network) (h : List Event) (f i a j q : ℕ) (values : List ℕ) → CostTo P h f i a j q values 0
cost_none P h f i a j q values k l = absurd (omega (arith, l))

pub cost_more : (P : Network) (h : List Event) (f i a j q : ℕ) (values : List ℕ) (n : ℕ) (found : Option Extreme) → CostTo P h f i a j q values n → MatchOption found (NoneBetween P h f i a j (slice_index values n)) (IsLeastBetween P h f i a j (slice_index values n)) → IfSome found (λ extreme. q ≤ extreme.cost) → CostTo P h f i a j q values (n + 1)
cost_more P h f i a j q values n found before is costs k l tuple fits one other live = elim (cases_eq k n) [
  | inl e ↦ here found is costs (other ∙ ap (slice_index values) e)
  | inr d ↦ before k (omega (arith, l, d)) tuple fits one other live
]
  where
    at_least : (cost : ℕ) (r : ℤ) → q ≤ cost → pos cost ≤ℤ r → pos q ≤ℤ r
    at_least cost r le h = omega (arith, ints, le, h)

    here : (found : Option Extreme) → MatchOption found (NoneBetween P h f i a j (slice_index values n)) (IsLeastBetween P h f i a j (slice_index values n)) → IfSome found (λ extreme. q ≤ extreme.cost) → slice_index tuple j ≡ slice_index values n → pos q ≤ℤ residual P h f tuple
    here None is costs at = absurd (is tuple (record { fits = fits; one = one; other = at; live = live }))
    here (Some found) is costs at = at_least found.cost (residual P h f tuple) costs (is.least tuple (record { fits = fits; one = one; other = at; live = live }))

-- all live values of the other variable are in the list
pub cost_all : (s : Standing) (f i a j q n : ℕ) (values : List ℕ) → j < arity s.network f → variable_at s.network f j < length s.network.sizes → AreLive (sets_of s) (variable_at s.network f j) values → length values ≤ n → CostTo s.network (history s) f i a j q values n → CanProject s.network (history s) f i a q
cost_all s f i a j q n values place there are all costs tuple fits one live =
    let at = tuple_at s.network (history s) f j tuple place fits live in
    let k = are.all (slice_index tuple j) (record { variable = there; value = at.0 }) at.1 in
    costs k.0 (omega (arith, k.1, all)) tuple fits one (sym k.2) live

-- a function of two variables, seen from a place
pub seen_side : (s : Standing) (f i : ℕ) (side : Side) → i < arity s.network f → IsSeen s f i side → IsSide s.network (history s) f i (1 - i) side
seen_side s f i side place is = is.1 (1 - i) (let two = is.0 in omega (arith, two)) (λ e. (let two = is.0 in omega (arith, e, two, place)))

-- a listed live value is one at the place
pub listed_place : (s : Standing) (f i : ℕ) (values : List ℕ) (k : ℕ) → f < length s.network.functions → i < arity s.network f → AreLive (sets_of s) (variable_at s.network f i) values → k < length values → IsPlace s.network f i (slice_index values k) × IsTrue (is_live (history s) (variable_at s.network f i) (slice_index values k))
listed_place s f i values k there place are l =
    let live = are.live k l in (
      record {
        function = there;
        place = place;
        value = let v = live.0.value in let d = get_or-dims s.network.sizes (scope_at s.network f) i place in omega (arith, v, d);
      },
      live.1,
    )

-- what holds of each listed value holds of each live one
pub all_listed : (s : Standing) (f i q : ℕ) (values : List ℕ) (n : ℕ) → IsNetwork s.network → i < arity s.network f → AreLive (sets_of s) (variable_at s.network f i) values → length values ≤ n → ((k : ℕ) → k < n → HasCheapTuple s.network (history s) f i (slice_index values k) q)
    → (a : ℕ) → IsPlace s.network f i a → IsTrue (is_live (history s) (variable_at s.network f i) a) → HasCheapTuple s.network (history s) f i a q
all_listed s f i q values n net place are all cheap a there live =
    let d = get_or-dims s.network.sizes (scope_at s.network f) i place in
    let variable = (net.functions f there.function).variables i place in
    let k = are.all a (record { variable = variable; value = let v = there.value in omega (arith, v, d) }) live in
    subst (λ v. HasCheapTuple s.network (history s) f i v q) k.2 (cheap k.0 (omega (arith, k.1, all)))
