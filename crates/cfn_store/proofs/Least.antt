-- The least residual cost of the tuples with one value, one value of the other variable after another.
use Rattle.std.proofs.Common.{◌≡◌, ℕ, ◌+◌, ◌<◌, ◌≤◌, List, length, sym, ap, subst, ◌∙◌, inl, inr, arith}
use Rattle.std.proofs.lemmas.Bool.{cases_eq}
use Rattle.std.proofs.lemmas.Int.{ints}
use Rattle.std.specs.Prelude.{Option, Some, None, slice_index, ℤ, pos, ◌≤ℤ◌, IsSomeAnd, MatchOption}
use Rattle.cfn_model.specs.declared.step.Event.{Event}
use Rattle.cfn_model.specs.Network.{Network, arity, cell, dims_at, scope_at, variable_at}
use Rattle.cfn_model.specs.Sums.{residual}
use Rattle.cfn_rows.specs.Sets.{AreLive}
use Rattle.cfn_scan.specs.Exact.{IsExact}
use Rattle.cfn_net.proofs.CallerLemmas.{get_or-dims}
use Rattle.cfn_scan.specs.declared.line.Line.{Line}
use Rattle.cfn_scan.specs.declared.scan.Extreme.{Extreme}
use Rattle.cfn_scan.specs.declared.scan.Sense.TheVariants.{Least}
use Rattle.cfn_scan.specs.Scanning.{IsSooner}
use Rattle.cfn_scan.specs.Extremes.{IsPicked, NonePicked, IsExtreme, IsPickedBetween, NoneBetween, IsLeastBetween, IsFree}
use Rattle.cfn_scan.specs.Lines.{IsLine, IsAlong}
use Rattle.cfn_store.specs.Rooms.{sets_of}
use Rattle.cfn_store.specs.Standing.{Standing, history}
use Rattle.cfn_scan.proofs.CallerLemmas.{picked_one, tuple_at}

-- what was found of the first n of the other values
pub record IsLeastTo (P : Network) (history : List Event) (f i a j : ℕ) (values : List ℕ) (n : ℕ) (found : Extreme) : Type 0 where
  pub tuple : List ℕ
  pub picked : IsPicked P history f i a tuple
  pub cell_is : cell (dims_at P f) tuple ≡ found.cell
  pub cost_is : residual P history f tuple ≡ pos found.cost
  pub least : (k : ℕ) (other : List ℕ) → k < n → IsPickedBetween P history f i a j (slice_index values k) other → pos found.cost ≤ℤ residual P history f other

abbrev pub NoneTo : Network → List Event → ℕ → ℕ → ℕ → ℕ → List ℕ → ℕ → Type 0
NoneTo P history f i a j values n = (k : ℕ) → k < n → NoneBetween P history f i a j (slice_index values k)

abbrev pub FoundTo : Network → List Event → ℕ → ℕ → ℕ → ℕ → List ℕ → ℕ → Option Extreme → Type 0
FoundTo P history f i a j values n found = MatchOption found (NoneTo P history f i a j values n) (IsLeastTo P history f i a j values n)

pub found_none : (P : Network) (history : List Event) (f i a j : ℕ) (values : List ℕ) → FoundTo P history f i a j values 0 None
found_none P history f i a j values = λ k l. absurd (omega (arith, l))

at_most : (a b : ℕ) (z : ℤ) → a ≤ b → pos b ≤ℤ z → pos a ≤ℤ z
at_most a b z le h = omega (arith, ints, h, le)

-- the one that was found stays the least, and the new one is it
stays : (P : Network) (history : List Event) (f i a j : ℕ) (values : List ℕ) (n : ℕ) (found : Extreme) → IsLeastTo P history f i a j values n found → ((other : List ℕ) → IsPickedBetween P history f i a j (slice_index values n) other → pos found.cost ≤ℤ residual P history f other) → IsLeastTo P history f i a j values (n + 1) found
stays P history f i a j values n found old last = record {
  tuple = old.tuple;
  picked = old.picked;
  cell_is = old.cell_is;
  cost_is = old.cost_is;
  least = λ k other l picked. elim (cases_eq k n) [
    | inl e ↦ last other (subst (λ m. IsPickedBetween P history f i a j (slice_index values m) other) e picked)
    | inr d ↦ old.least k other (omega (arith, l, d)) picked
  ];
}

comes : (P : Network) (history : List Event) (f i a j : ℕ) (values : List ℕ) (n : ℕ) (found : Extreme) → IsLeastBetween P history f i a j (slice_index values n) found → ((k : ℕ) (other : List ℕ) → k < n → IsPickedBetween P history f i a j (slice_index values k) other → pos found.cost ≤ℤ residual P history f other) → IsLeastTo P history f i a j values (n + 1) found
comes P history f i a j values n found new below = record {
  tuple = new.tuple;
  picked = picked_one P history f i a j (slice_index values n) new.tuple new.picked;
  cell_is = new.cell_is;
  cost_is = new.cost_is;
  least = λ k other l picked. elim (cases_eq k n) [
    | inl e ↦ new.least other (subst (λ m. IsPickedBetween P history f i a j (slice_index values m) other) e picked)
    | inr d ↦ below k other (omega (arith, l, d)) picked
  ];
}

none_more : (P : Network) (history : List Event) (f i a j : ℕ) (values : List ℕ) (n : ℕ) → NoneTo P history f i a j values n → NoneBetween P history f i a j (slice_index values n) → NoneTo P history f i a j values (n + 1)
none_more P history f i a j values n old new = λ k l tuple picked. elim (cases_eq k n) [
  | inl e ↦ new tuple (subst (λ m. IsPickedBetween P history f i a j (slice_index values m) tuple) e picked)
  | inr d ↦ old k (omega (arith, l, d)) tuple picked
]

pub found_more : (P : Network) (history : List Event) (f i a j : ℕ) (values : List ℕ) (n : ℕ) (first other result : Option Extreme) → FoundTo P history f i a j values n first → MatchOption other (NoneBetween P history f i a j (slice_index values n)) (IsLeastBetween P history f i a j (slice_index values n)) → IsSooner Least first other result → FoundTo P history f i a j values (n + 1) result
found_more P history f i a j values n None None result old new is = subst (FoundTo P history f i a j values (n + 1)) (sym is) (none_more P history f i a j values n old new)
found_more P history f i a j values n None (Some b) result old new is = subst (FoundTo P history f i a j values (n + 1)) (sym is) (comes P history f i a j values n b new (λ k other l picked. absurd (old k l other picked)))
found_more P history f i a j values n (Some c) None result old new is = subst (FoundTo P history f i a j values (n + 1)) (sym is) (stays P history f i a j values n c old (λ other picked. absurd (new other picked)))
found_more P history f i a j values n (Some c) (Some b) result old new is = elim is.4 [
  | inl e ↦ subst (FoundTo P history f i a j values (n + 1)) (sym (is.1 ∙ ap Some e)) (stays P history f i a j values n c old (λ other picked. at_most c.cost b.cost (residual P history f other) (subst (λ (x : Extreme). x.cost ≤ b.cost) e is.3) (new.least other picked)))
  | inr e ↦ subst (FoundTo P history f i a j values (n + 1)) (sym (is.1 ∙ ap Some e)) (comes P history f i a j values n b new (λ k other l picked. at_most b.cost c.cost (residual P history f other) (subst (λ (x : Extreme). x.cost ≤ c.cost) e is.2) (old.least k other l picked)))
]

-- each live tuple with the value has a live one at the other place
between : (s : Standing) (f i a j : ℕ) (values : List ℕ) (tuple : List ℕ) → j < arity s.network f → AreLive (sets_of s) (variable_at s.network f j) values → variable_at s.network f j < length s.network.sizes → IsPicked s.network (history s) f i a tuple
    → (k : ℕ) × (k < length values) × IsPickedBetween s.network (history s) f i a j (slice_index values k) tuple
between s f i a j values tuple place are variable picked =
    let at = tuple_at s.network (history s) f j tuple place picked.fits picked.live in
    let found = are.all (slice_index tuple j) (record { variable = variable; value = at.0 }) at.1 in
    (found.0, found.1, record { fits = picked.fits; one = picked.value; other = sym found.2; live = picked.live })

pub found_all : (s : Standing) (f i a j : ℕ) (values : List ℕ) (n : ℕ) (found : Option Extreme) → j < arity s.network f → AreLive (sets_of s) (variable_at s.network f j) values → variable_at s.network f j < length s.network.sizes → length values ≤ n → FoundTo s.network (history s) f i a j values n found → MatchOption found (NonePicked s.network (history s) f i a) (IsExtreme s.network (history s) f i a Least)
found_all s f i a j values n None place are variable all none = λ tuple picked. (let b = between s f i a j values tuple place are variable picked in none b.0 (omega (arith, b.1, all)) tuple b.2)
found_all s f i a j values n (Some found) place are variable all is = record {
  tuple = is.tuple;
  picked = is.picked;
  cell_is = is.cell_is;
  cost_is = is.cost_is;
  bounds = λ other picked. (let b = between s f i a j values other place are variable picked in is.least b.0 other (omega (arith, b.1, all)) b.2);
}

-- what costs nothing is the least
no_less : (z : ℤ) (cost : ℕ) → cost ≡ 0 → pos 0 ≤ℤ z → pos cost ≤ℤ z
no_less z cost e h = omega (arith, ints, e, h)

found_nothing : (P : Network) (history : List Event) (f i a j : ℕ) (values : List ℕ) (n : ℕ) (found : Extreme) → IsExact P history → f < length P.functions → found.cost ≡ 0 → IsLeastTo P history f i a j values n found → IsExtreme P history f i a Least found
found_nothing P history f i a j values n found exact there nothing is = record {
  tuple = is.tuple;
  picked = is.picked;
  cell_is = is.cell_is;
  cost_is = is.cost_is;
  bounds = λ other picked. no_less (residual P history f other) found.cost nothing (exact.no_debts.residual f other there picked.fits picked.live);
}

pub nothing_found : (P : Network) (history : List Event) (f i a j : ℕ) (values : List ℕ) (n : ℕ) (found : Option Extreme) → IsExact P history → f < length P.functions → IsSomeAnd found (λ extreme. extreme.cost ≡ 0) → FoundTo P history f i a j values n found → MatchOption found (NonePicked P history f i a) (IsExtreme P history f i a Least)
nothing_found P history f i a j values n None exact there nothing is = absurd nothing
nothing_found P history f i a j values n (Some found) exact there nothing is = found_nothing P history f i a j values n found exact there nothing is

-- a live value of the other variable stands along a line
pub stands_along : (s : Standing) (f i a j : ℕ) (line : Line) (values : List ℕ) (k : ℕ) → IsLine s.network (history s) f i a j line → j < arity s.network f → AreLive (sets_of s) (variable_at s.network f j) values → k < length values → IsAlong s.network (history s) f i a j line (slice_index values k)
stands_along s f i a j line values k is place are l =
    let live = are.live k l in
    record {
      is_line = is;
      place = record {
        function = is.is_way.place.function;
        place = place;
        value = let v = live.0.value in let d = get_or-dims s.network.sizes (scope_at s.network f) j place in omega (arith, v, d);
      };
      live = live.1;
    }

-- such a tuple is one that has one of its values, too
pub free_between : (P : Network) (history : List Event) (f i a j b : ℕ) (found : Extreme) → IsLeastBetween P history f i a j b found → found.cost ≡ 0 → IsFree P history f i a
free_between P history f i a j b found least none = record {
  tuple = least.tuple;
  picked = picked_one P history f i a j b least.tuple least.picked;
  free = least.cost_is ∙ ap pos none;
}
