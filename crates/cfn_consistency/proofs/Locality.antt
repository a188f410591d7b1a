-- Where two histories agree on what a consistency looks at, it holds after one exactly where it holds after the other.
use Rattle.std.proofs.Common.{◌≡◌, ℕ, zero, suc, ◌+◌, ◌<◌, ◌≤◌, inl, inr, List, [], ◌∷◌, length, refl, sym, ap, ◌∙◌, subst, arith}
use Rattle.std.proofs.lemmas.Int.{ints}
use Rattle.std.specs.Prelude.{ℤ, pos, ◌+ℤ◌, ◌<ℤ◌, Bool, true, false, not, ◌&&◌, slice_index, nat_le, nat_lt, if◌then◌else◌}
use Rattle.cfn_model.specs.declared.step.Event.{Event}
use Rattle.cfn_model.specs.Network.{Network, Fits, arity, scope_at, variable_at, dims, dims_at, entry_at, cell}
use Rattle.cfn_model.specs.Sums.{floor, unary, residual, is_live, is_live_tuple, all_live, is_cut}
use Rattle.cfn_model.specs.Steps.{IsPlace}
use Rattle.cfn_model.proofs.CallerLemmas.{restrict_at}
use Rattle.cfn_consistency.specs.Openness.{count_below, is_open, open_count, IsActive, TakesPart, HasOpenPair}
use Rattle.cfn_consistency.specs.Consistency.{IsFree, IsNodeConsistent, HasSupport, HasFullSupport, IsArcConsistent, IsDirectional, IsFirst, IsExistential}
use Rattle.cfn_consistency.specs.Agreement.{AgreeOnValues, AgreeOnUnaries, AgreeOnFunction, AgreeAround, AgreeNear, AgreeOnNodes}
use Rattle.cfn_consistency.specs.Laws.{PartIsLocal, ArcIsLocal, DirectionalIsLocal, ExistentialIsLocal, NodesAreLocal}

-- agreement goes both ways
values_back : (P : Network) (one other : List Event) (x : ℕ) → AgreeOnValues P one other x → AgreeOnValues P other one x
values_back P one other x agree a value = sym (agree a value)

unaries_back : (P : Network) (one other : List Event) (x : ℕ) → AgreeOnValues P one other x → AgreeOnUnaries P one other x → AgreeOnUnaries P other one x
unaries_back P one other x values agree a value live = sym (agree a value (values a value ∙ live))

function_back : (P : Network) (one other : List Event) (f : ℕ) → AgreeOnFunction P one other f → AgreeOnFunction P other one f
function_back P one other f agree = record {
  values = λ i h. values_back P one other (variable_at P f i) (agree.values i h);
  tuples = λ tuple fits. sym (agree.tuples tuple fits);
  costs = λ tuple fits live. sym (agree.costs tuple fits (agree.tuples tuple fits ∙ live));
}

around_back : (P : Network) (one other : List Event) (f : ℕ) → AgreeAround P one other f → AgreeAround P other one f
around_back P one other f agree = record {
  function = function_back P one other f agree.function;
  unaries = λ i h. unaries_back P one other (variable_at P f i) (agree.function.values i h) (agree.unaries i h);
}

near_back : (P : Network) (one other : List Event) (x : ℕ) → AgreeNear P one other x → AgreeNear P other one x
near_back P one other x agree = record {
  values = values_back P one other x agree.values;
  unaries = unaries_back P one other x agree.values agree.unaries;
  functions = λ f i there h is. around_back P one other f (agree.functions f i there h is);
}

nodes_back : (P : Network) (one other : List Event) → AgreeOnNodes P one other → AgreeOnNodes P other one
nodes_back P one other agree = record {
  floors = sym agree.floors;
  values = λ x h. values_back P one other x (agree.values x h);
  unaries = λ x h. unaries_back P one other x (agree.values x h) (agree.unaries x h);
}

-- counts by tests that agree
abbrev one_if : Bool → ℕ
one_if b = if b then 1 else 0

same_count : (test other : ℕ → Bool) (n : ℕ) → ((a : ℕ) → a < n → test a ≡ other a) → count_below test n ≡ count_below other n
same_count test other zero agree = refl
same_count test other (suc n) agree =
    ap (λ b. one_if b + count_below test n) (agree n (omega arith)) ∙ ap (λ m. one_if (other n) + m) (same_count test other n (λ a h. agree a (omega arith)))

same_open : (P : Network) (one other : List Event) (x : ℕ) → AgreeOnValues P one other x → is_open P one x ≡ is_open P other x
same_open P one other x agree = ap (nat_le 2) (same_count (is_live one x) (is_live other x) (slice_index P.sizes x) agree)

same_open_count : (P : Network) (one other : List Event) (f : ℕ) → AgreeOnFunction P one other f → open_count P one f ≡ open_count P other f
same_open_count P one other f agree =
    same_count (λ i. is_open P one (variable_at P f i)) (λ i. is_open P other (variable_at P f i)) (arity P f) (λ i h. same_open P one other (variable_at P f i) (agree.values i h))

active : (P : Network) (one other : List Event) (f : ℕ) → AgreeOnFunction P one other f → IsActive P one f → IsActive P other f
active P one other f agree is = record { function = is.function; some = is.some; few = subst (λ n. n ≤ 2) (same_open_count P one other f agree) is.few }

part : (P : Network) (one other : List Event) (f : ℕ) → AgreeOnFunction P one other f → TakesPart P one f → TakesPart P other f
part P one other f agree (inl is) = inl (active P one other f agree is)
part P one other f agree (inr small) = inr small

pub part_is_local : PartIsLocal
part_is_local P one other f agree = (part P one other f agree, part P other one f (function_back P one other f agree))

pair : (P : Network) (one other : List Event) (f i j : ℕ) → AgreeOnFunction P one other f → HasOpenPair P one f i j → HasOpenPair P other f i j
pair P one other f i j agree has = record {
  active = active P one other f agree has.active;
  one = (has.one.0, sym (same_open P one other (variable_at P f i) (agree.values i has.one.0)) ∙ has.one.1);
  other = (has.other.0, sym (same_open P one other (variable_at P f j) (agree.values j has.other.0)) ∙ has.other.1);
  different = has.different;
}

-- the value at a place is one of its variable's
at_place : (P : Network) (f i a : ℕ) → IsPlace P f i a → a < slice_index P.sizes (variable_at P f i)
at_place P f i a is = subst (λ d. a < d) (restrict_at (scope_at P f) P.sizes i is.place) is.value

support : (P : Network) (one other : List Event) (f i a : ℕ) → AgreeOnFunction P one other f → HasSupport P one f i a → HasSupport P other f i a
support P one other f i a agree has = record {
  tuple = has.tuple;
  fits = has.fits;
  at = has.at;
  live = sym (agree.tuples has.tuple has.fits) ∙ has.live;
  free = sym (agree.costs has.tuple has.fits has.live) ∙ has.free;
}

arc : (P : Network) (one other : List Event) (f : ℕ) → AgreeOnFunction P one other f → IsArcConsistent P one f → IsArcConsistent P other f
arc P one other f agree is i a place live = support P one other f i a agree (is i a place (agree.values i place.place a (at_place P f i a place) ∙ live))

pub arc_is_local : ArcIsLocal
arc_is_local P one other f agree = (arc P one other f agree, arc P other one f (function_back P one other f agree))

-- each value of a live tuple is one of its variable's, and live
both : (a b : Bool) → (a && b) ≡ true → (a ≡ true) × (b ≡ true)
both true true e = (refl, refl)
both true false e = absurd cc
both false b e = absurd cc

live_at : (history : List Event) (sizes scope tuple : List ℕ) (j : ℕ) → j < length scope → Fits (dims sizes scope) tuple → all_live history scope tuple ≡ true
    → (slice_index tuple j < slice_index sizes (slice_index scope j)) × (is_live history (slice_index scope j) (slice_index tuple j) ≡ true)
live_at history sizes [] tuple j h fits live = absurd (omega arith)
live_at history sizes (x ∷ scope) [] j h fits live = absurd fits
live_at history sizes (x ∷ scope) (a ∷ tuple) zero h fits live = (fits.0, (both (is_live history x a) (all_live history scope tuple) live).0)
live_at history sizes (x ∷ scope) (a ∷ tuple) (suc j) h fits live =
    live_at history sizes scope tuple j (omega arith) fits.1 (both (is_live history x a) (all_live history scope tuple) live).1

tuple_at : (P : Network) (history : List Event) (f j : ℕ) (tuple : List ℕ) → j < arity P f → Fits (dims_at P f) tuple → is_live_tuple P history f tuple ≡ true
    → (slice_index tuple j < slice_index P.sizes (variable_at P f j)) × (is_live history (variable_at P f j) (slice_index tuple j) ≡ true)
tuple_at P history f j tuple h fits live =
    let below = nat_lt (entry_at P f tuple) P.upper in
    let first = both (all_live history (scope_at P f) tuple && below) (not (is_cut history f (cell (dims_at P f) tuple))) live in
    let second = both (all_live history (scope_at P f) tuple) below first.0 in
    live_at history P.sizes (scope_at P f) tuple j h fits second.0

full_support : (P : Network) (one other : List Event) (f i j a : ℕ) → j < arity P f → AgreeAround P one other f → HasFullSupport P one f i j a → HasFullSupport P other f i j a
full_support P one other f i j a h agree has =
    let b = slice_index has.tuple j in
    let there = tuple_at P one f j has.tuple h has.fits has.live in
    let r = agree.function.costs has.tuple has.fits has.live in
    let u = agree.unaries j h b there.0 there.1 in
    record {
      tuple = has.tuple;
      fits = has.fits;
      at = has.at;
      live = sym (agree.function.tuples has.tuple has.fits) ∙ has.live;
      free = sym (ap (λ z. z +ℤ unary P one (variable_at P f j) b) r ∙ ap (λ z. residual P other f has.tuple +ℤ z) u) ∙ has.free;
    }

directional : (P : Network) (one other : List Event) (f : ℕ) → AgreeAround P one other f → IsDirectional P one f → IsDirectional P other f
directional P one other f agree is i j a has lower place live =
    let back = function_back P one other f agree.function in
    full_support P one other f i j a has.other.0 agree (is i j a (pair P other one f i j back has) lower place (agree.function.values i place.place a (at_place P f i a place) ∙ live))

pub directional_is_local : DirectionalIsLocal
directional_is_local P one other f agree = (directional P one other f agree, directional P other one f (around_back P one other f agree))

free : (P : Network) (one other : List Event) (x a : ℕ) → AgreeOnValues P one other x → AgreeOnUnaries P one other x → IsFree P one x a → IsFree P other x a
free P one other x a values unaries is = record {
  value = is.value;
  live = sym (values a is.value.value) ∙ is.live;
  free = sym (unaries a is.value.value is.live) ∙ is.free;
}

existential : (P : Network) (one other : List Event) (x : ℕ) → AgreeNear P one other x → IsExistential P one x → IsExistential P other x
existential P one other x agree is = record {
  value = is.value;
  free = free P one other x is.value agree.values agree.unaries is.free;
  supports = λ f i j has at first.
      (let around = agree.functions f i has.active.function has.one.0 at in
      let before = pair P other one f i j (function_back P one other f around.function) has in
      let first_before : IsFirst P one f i j = λ g p q other_has same same_other.
      (let near = agree.functions g p other_has.active.function other_has.one.0 (same ∙ at) in
      first g p q (pair P one other g p q near.function other_has) same same_other) in
      full_support P one other f i j is.value has.other.0 around (is.supports f i j before at first_before));
}

pub existential_is_local : ExistentialIsLocal
existential_is_local P one other x agree = (existential P one other x agree, existential P other one x (near_back P one other x agree))

less : (n m k : ℕ) (u v : ℤ) → n ≡ m → u ≡ v → (pos n +ℤ u) <ℤ pos k → (pos m +ℤ v) <ℤ pos k
less n m k u v e w h = omega (arith, ints, e, w)

nodes : (P : Network) (one other : List Event) (k : ℕ) → AgreeOnNodes P one other → IsNodeConsistent P one k → IsNodeConsistent P other k
nodes P one other k agree is = record {
  below = λ x a value live.
      (let before = agree.values x value.variable a value.value ∙ live in
      less (floor P one) (floor P other) k (unary P one x a) (unary P other x a) agree.floors (agree.unaries x value.variable a value.value before) (is.below x a value before));
  free = λ x h. (let some = is.free x h in (some.0, free P one other x some.0 (agree.values x h) (agree.unaries x h) some.1));
}

pub nodes_are_local : NodesAreLocal
nodes_are_local P one other k agree = (nodes P one other k agree, nodes P other one k (nodes_back P one other agree))
