-- What values come to, as it is added up, and as costs are moved along the neighbours.
use Rattle.std.proofs.Common.{◌≡◌, ◌⊎◌, ℕ, zero, suc, ◌+◌, ◌-◌, ◌<◌, ◌≤◌, min, inl, inr, List, [], ◌∷◌, length, true, false, Bool, refl, sym, ap, ◌∙◌, subst, arith}
use Rattle.std.proofs.lemmas.Bool.{cases_eq}
use Rattle.std.proofs.lemmas.Int.{ints}
use Rattle.std.specs.Prelude.{ℤ, pos, ◌+ℤ◌, ◌≤ℤ◌, ◌<ℤ◌, slice_index, nat_le, if◌then◌else◌, IsTrue, Result, Ok, Err, IsErrAnd}
use Rattle.cfn_model.specs.declared.step.Event.{Event}
use Rattle.cfn_model.specs.Network.{Network, IsNetwork, arity, scope_at, variable_at}
use Rattle.cfn_net.proofs.CallerLemmas.{get_or-dims}
use Rattle.cfn_model.specs.Sums.{floor, unary, residual, is_live}
use Rattle.cfn_model.specs.Steps.{IsValue, IsPlace}
use Rattle.cfn_consistency.specs.Openness.{count_below, is_open, HasOpenPair}
use Rattle.cfn_consistency.specs.Consistency.{HasFullSupport, IsFirst}
use Rattle.cfn_consistency.specs.Groups.{Group, IsBegun}
use Rattle.cfn_consistency.proofs.CallerLemmas.{pair_kept}
use Rattle.cfn_rows.specs.Sets.{AreLive}
use Rattle.cfn_scan.specs.Exact.{IsExactAlong}
use Rattle.cfn_scan.specs.Extremes.{IsPicked}
use Rattle.cfn_store.specs.Rooms.{sets_of}
use Rattle.cfn_store.specs.Standing.{Standing, history}
use Rattle.cfn_scan.proofs.CallerLemmas.{unary_amount}
use Rattle.cfn_gain.specs.declared.limits.Limits.{Limits}
use Rattle.cfn_gain.specs.declared.limits.Halt.{Halt}
use Rattle.cfn_gain.specs.declared.limits.Halt.TheVariants.{Dead, Spent}
use Rattle.cfn_gain.specs.Passes.{HasLive}
use Rattle.cfn_gain.specs.Gains.{Leads, IsDue, Gains, GainsBehind}
use Rattle.cfn_gain.specs.Levels.{AreAllCostly, AreAllAtLeast, RisesBy}
use Rattle.cfn_gain.proofs.CallerLemmas.{gained_none, leads_weaker, opened, gains_halt, gains_spent, IsNotDead}
use Rattle.cfn_dac.specs.declared.pair.Pair.{Pair}
use Rattle.cfn_dac.specs.Full.{AreFullBelow, first_of, second_of, total}
use Rattle.cfn_dac.specs.Moves.{IsLeastTotal}
use Rattle.cfn_dac.specs.Shifts.{Shifts, IsIn, GoThrough, IsThrough, LeadsThrough}
use Rattle.cfn_dac.proofs.CallerLemmas.{either, not_negative, variables_apart}
use Rattle.cfn_edac.specs.Neighbours.{IsNeighbour, AreNeighbours, IsGood, pair_at}
use Rattle.cfn_edac.specs.Asking.{Asks}
use Rattle.cfn_edac.specs.Owing.{ComesTo, AllComeTo, IsAskedBy}
use Rattle.cfn_edac.proofs.Gather.{which}
use Rattle.cfn_edac.proofs.Existing.{same_place, pair_of_neighbour, AreFullTo}

-- from a cost that is as much greater an amount that is
carry : (r s : ℕ) (z w : ℤ) → (pos r +ℤ z) ≤ℤ (pos s +ℤ w) → pos s ≤ℤ z → pos r ≤ℤ w
carry r s z w h le = omega (arith, ints, h, le)

both_more : (r s : ℕ) (z w t : ℤ) → (pos r +ℤ z) ≤ℤ (pos s +ℤ w) → (pos r +ℤ (z +ℤ t)) ≤ℤ (pos s +ℤ (w +ℤ t))
both_more r s z w t h = omega (arith, ints, h)

comes_more : (P : Network) (h : List Event) (pairs : List Pair) (a n r s : ℕ) (z w : ℤ) → (pos r +ℤ z) ≤ℤ (pos s +ℤ w) → ComesTo P h pairs a n z s → ComesTo P h pairs a n w r
comes_more P h pairs a zero r s z w le comes = carry r s z w le comes
comes_more P h pairs a (suc n) r s z w le comes = λ tuple picked.
    comes_more P h pairs a n r s (z +ℤ total P h (pair_at pairs n) tuple) (w +ℤ total P h (pair_at pairs n) tuple) (both_more r s z w (total P h (pair_at pairs n) tuple) le) (comes tuple picked)

-- what is added up of the first n neighbours
abbrev pub IsLow : Network → List Event → ℕ → List Pair → ℕ → ℕ → ℕ → Type 0
IsLow P h x pairs a n amount = (z : ℤ) → unary P h x a ≤ℤ z → ComesTo P h pairs a n z amount

pub low_start : (P : Network) (h : List Event) (x : ℕ) (pairs : List Pair) (a own : ℕ) → pos own ≡ unary P h x a → IsLow P h x pairs a 0 own
low_start P h x pairs a own is z le = by own (unary P h x a) z is le
  where
    by : (own : ℕ) (u z : ℤ) → pos own ≡ u → u ≤ℤ z → pos own ≤ℤ z
    by own u z is le = omega (arith, ints, is, le)

adds_up : (amount more new : ℕ) (z t : ℤ) → new ≤ amount + more → pos more ≤ℤ t → (pos new +ℤ z) ≤ℤ (pos amount +ℤ (z +ℤ t))
adds_up amount more new z t le low = omega (arith, ints, le, low)

pub low_more : (P : Network) (h : List Event) (x : ℕ) (pairs : List Pair) (a n amount more new : ℕ) → IsLow P h x pairs a n amount → IsLeastTotal P h (pair_at pairs n) a more → new ≤ amount + more → IsLow P h x pairs a (n + 1) new
low_more P h x pairs a n amount more new low is le = subst (λ m. IsLow P h x pairs a m new) (let e : suc n ≡ n + 1 = omega arith in e) (λ z above tuple picked.
    comes_more P h pairs a n new amount z (z +ℤ total P h (pair_at pairs n) tuple) (adds_up amount more new z (total P h (pair_at pairs n) tuple) le (is.bound tuple picked)) (low z above))

-- the neighbours that are left take nothing away
none_less : (amount : ℕ) (z t : ℤ) → pos 0 ≤ℤ t → (pos amount +ℤ z) ≤ℤ (pos amount +ℤ (z +ℤ t))
none_less amount z t low = omega (arith, ints, low)

low_rest : (P : Network) (h : List Event) (x : ℕ) (pairs : List Pair) (a n amount m : ℕ) → IsNetwork P → IsExactAlong P h → AreNeighbours P h x pairs → n + m ≤ length pairs → IsLow P h x pairs a n amount → IsLow P h x pairs a (m + n) amount
low_rest P h x pairs a n amount zero net exact are le low = subst (λ i. IsLow P h x pairs a i amount) (let e : n ≡ zero + n = omega arith in e) low
low_rest P h x pairs a n amount (suc m) net exact are le low = subst (λ i. IsLow P h x pairs a i amount) (let e : suc (m + n) ≡ suc m + n = omega arith in e) (λ z above tuple picked.
    comes_more P h pairs a (m + n) amount amount z (z +ℤ total P h (pair_at pairs (m + n)) tuple)
    (none_less amount z (total P h (pair_at pairs (m + n)) tuple) (not_negative P h (pair_at pairs (m + n)) tuple net exact (pair_of_neighbour P h x (pair_at pairs (m + n)) (are.each (m + n) (omega (arith, le)))) (record { fits = picked.fits; live = picked.live })))
    (low_rest P h x pairs a n amount m net exact are (omega (arith, le)) low z above))

pub low_all : (P : Network) (h : List Event) (x : ℕ) (pairs : List Pair) (a n amount : ℕ) → IsNetwork P → IsExactAlong P h → AreNeighbours P h x pairs → n ≤ length pairs → IsLow P h x pairs a n amount → ComesTo P h pairs a (length pairs) (unary P h x a) amount
low_all P h x pairs a n amount net exact are le low = by (low_rest P h x pairs a n amount (rest n (length pairs) le) net exact are (omega (arith, (rest_is n (length pairs) le))) low)
  where
    rest : (n m : ℕ) → n ≤ m → ℕ
    rest n m le = m - n

    rest_is : (n m : ℕ) (le : n ≤ m) → n + rest n m le ≡ m
    rest_is n m le = omega (arith, le)

    same : (u : ℤ) → u ≤ℤ u
    same u = omega (arith, ints)

    by : IsLow P h x pairs a (rest n (length pairs) le + n) amount → ComesTo P h pairs a (length pairs) (unary P h x a) amount
    by all = subst (λ i. ComesTo P h pairs a i (unary P h x a) amount) (let e = rest_is n (length pairs) le in omega (arith, e)) (all (unary P h x a) (same (unary P h x a)))

-- the values of a list below a number come to an amount
abbrev pub ListComesTo : Network → List Event → ℕ → List Pair → List ℕ → ℕ → ℕ → Type 0
ListComesTo P h x pairs values n amount = (j : ℕ) → j < n → ComesTo P h pairs (slice_index values j) (length pairs) (unary P h x (slice_index values j)) amount

lower_amount : (r s : ℕ) (z : ℤ) → r ≤ s → (pos r +ℤ z) ≤ℤ (pos s +ℤ z)
lower_amount r s z le = omega (arith, ints, le)

pub list_more : (P : Network) (h : List Event) (x : ℕ) (pairs : List Pair) (values : List ℕ) (n least asked new : ℕ) → ListComesTo P h x pairs values n least → ComesTo P h pairs (slice_index values n) (length pairs) (unary P h x (slice_index values n)) asked → new ≡ min least asked → ListComesTo P h x pairs values (n + 1) new
list_more P h x pairs values n least asked new old here m j less = elim (cases_eq j n) [
  | inl e ↦ subst (λ i. ComesTo P h pairs (slice_index values i) (length pairs) (unary P h x (slice_index values i)) new) (sym e)
      (comes_more P h pairs (slice_index values n) (length pairs) new asked (unary P h x (slice_index values n)) (unary P h x (slice_index values n)) (lower_amount new asked (unary P h x (slice_index values n)) (omega (arith, m))) here)
  | inr d ↦ comes_more P h pairs (slice_index values j) (length pairs) new least (unary P h x (slice_index values j)) (unary P h x (slice_index values j)) (lower_amount new least (unary P h x (slice_index values j)) (omega (arith, m))) (old j (omega (arith, less, d)))
]

pub list_all : (s : Standing) (x : ℕ) (pairs : List Pair) (values : List ℕ) (n amount : ℕ) → AreLive (sets_of s) x values → length values ≤ n → ListComesTo s.network (history s) x pairs values n amount → AllComeTo s.network (history s) x pairs amount
list_all s x pairs values n amount are all come a value live =
    let at = are.all a (record { variable = value.variable; value = value.value }) live in
    subst (λ v. ComesTo s.network (history s) pairs v (length pairs) (unary s.network (history s) x v) amount) at.2 (come at.0 (omega (arith, at.1, all)))

-- the least that was asked so far, and one value more
pub asked_least : (s : Standing) (x : ℕ) (pairs : List Pair) (a k least asked new : ℕ) → IsAskedBy s.network (history s) x pairs least ⊎ (floor s.network (history s) + least ≡ k) → IsValue s.network x a → IsTrue (is_live (history s) x a)
    → (asked ≤ least - 1 → Asks s.network (history s) x pairs a (length pairs) asked) → 0 < least → new ≡ min least asked → IsAskedBy s.network (history s) x pairs new ⊎ (floor s.network (history s) + new ≡ k)
asked_least s x pairs a k least asked new old value live asks some is = elim (cases_eq new least) [
  | inl e ↦ subst (λ n. IsAskedBy s.network (history s) x pairs n ⊎ (floor s.network (history s) + n ≡ k)) (sym e) old
  | inr d ↦
      inl (record {
        value = a;
        is = value;
        live = live;
        asks = subst (Asks s.network (history s) x pairs a (length pairs)) (omega (arith, is, d)) (asks (omega (arith, is, d, some)));
      })
]

-- no value is free and has full supports in all neighbours
nothing_left : (s : ℕ) (z : ℤ) → 0 < s → z ≡ pos 0 → pos s ≤ℤ z → ⊥
nothing_left s z some none le = absurd (omega (arith, ints, some, none, le))

still_none : (z t : ℤ) → z ≡ pos 0 → t ≡ pos 0 → (z +ℤ t) ≡ pos 0
still_none z t a b = omega (arith, ints, a, b)

comes_free : (P : Network) (h : List Event) (pairs : List Pair) (a n s : ℕ) (z : ℤ) → 0 < s → z ≡ pos 0 → ((k : ℕ) → k < n → HasFullSupport P h (pair_at pairs k).function (pair_at pairs k).place (pair_at pairs k).other a) → ComesTo P h pairs a n z s → ⊥
comes_free P h pairs a zero s z some none full comes = nothing_left s z some none comes
comes_free P h pairs a (suc n) s z some none full comes =
    let has = full n (omega arith) in
    comes_free P h pairs a n s (z +ℤ total P h (pair_at pairs n) has.tuple) some (still_none z (total P h (pair_at pairs n) has.tuple) none has.free) (λ k less. full k (omega (arith, less)))
    (comes has.tuple (record { fits = has.fits; value = has.at; live = has.live }))

pub none_good : (P : Network) (h : List Event) (x : ℕ) (pairs : List Pair) (alpha a : ℕ) → 0 < alpha → AllComeTo P h x pairs alpha → IsGood P h x pairs a → ⊥
none_good P h x pairs alpha a some come good = comes_free P h pairs a (length pairs) alpha (unary P h x a) some good.free.free good.full (come a good.free.value good.free.live)

-- two neighbours go through different functions
pub functions_apart : (P : Network) (h : List Event) (x : ℕ) (pairs : List Pair) (k m : ℕ) → IsNetwork P → AreNeighbours P h x pairs → k < length pairs → m < length pairs → (k ≡ m → ⊥) → (pair_at pairs k).function ≡ (pair_at pairs m).function → ⊥
functions_apart P h x pairs k m net are less more apart same = by (either P h two.function two.place two.other one.other neighbour_two.both there.other.0 there.other.1)
  where
    one : Pair
    one = pair_at pairs k

    two : Pair
    two = pair_at pairs m

    neighbour_one : IsNeighbour P h x one
    neighbour_one = are.each k less

    neighbour_two : IsNeighbour P h x two
    neighbour_two = are.each m more

    there : HasOpenPair P h two.function one.place one.other
    there = subst (λ f. HasOpenPair P h f one.place one.other) same neighbour_one.both

    place_is : one.place ≡ two.place
    place_is = same_place P two.function one.place two.place net neighbour_two.both.active.function there.one.0 neighbour_two.both.one.0 (sym (ap (λ f. variable_at P f one.place) same) ∙ neighbour_one.at ∙ sym neighbour_two.at)

    by : (one.other ≡ two.place) ⊎ (one.other ≡ two.other) → ⊥
    by (inl e) = there.different (place_is ∙ sym e)
    by (inr e) = apart (are.once k m less more (ap (λ f. variable_at P f one.other) same ∙ ap (variable_at P two.function) e))

-- the functions of the first n neighbours
abbrev pub functions_to : List Pair → ℕ → List ℕ
functions_to pairs zero = []
functions_to pairs (suc n) = (pair_at pairs n).function ∷ functions_to pairs n

pub fresh_function : (P : Network) (h : List Event) (x : ℕ) (pairs : List Pair) (k n : ℕ) → IsNetwork P → AreNeighbours P h x pairs → k < length pairs → n ≤ k → IsIn (pair_at pairs k).function (functions_to pairs n) → ⊥
fresh_function P h x pairs k zero net are less le is = is
fresh_function P h x pairs k (suc n) net are less le (inl e) = functions_apart P h x pairs k n net are less (omega (arith, less, le)) (λ same. absurd (omega (arith, same, le))) e
fresh_function P h x pairs k (suc n) net are less le (inr is) = fresh_function P h x pairs k n net are less (omega (arith, le)) is

-- along one neighbour the others stay as they are
other_total : (P : Network) (h before after : List Event) (x : ℕ) (pairs : List Pair) (k most m : ℕ) (tuple : List ℕ) → IsNetwork P → AreNeighbours P h x pairs → k < length pairs → m < length pairs → (k ≡ m → ⊥) → Shifts P (pair_at pairs m) most before after → total P after (pair_at pairs k) tuple ≡ total P before (pair_at pairs k) tuple
other_total P h before after x pairs k most m tuple net are less more apart shifts =
    let one = pair_at pairs k in
    let neighbour = are.each k less in
    let r = (shifts.others one.function tuple (functions_apart P h x pairs k m net are less more apart)).1 in
    let u = shifts.aside (second_of P one) (slice_index tuple one.other) (λ e. variables_apart P one net (pair_of_neighbour P h x one neighbour) (e ∙ (are.each m more).at ∙ sym neighbour.at)) (λ e. apart (are.once k m less more e)) in
    ap (λ z. z +ℤ unary P after (second_of P one) (slice_index tuple one.other)) r ∙ ap (λ z. residual P before one.function tuple +ℤ z) u

passed : (z w u v t q : ℤ) → (w +ℤ u) ≡ (z +ℤ v) → (q +ℤ v) ≡ (t +ℤ u) → (w +ℤ q) ≡ (z +ℤ t)
passed z w u v t q one two = omega (arith, ints, one, two)

ahead : (z w u v t q : ℤ) → (w +ℤ u) ≡ (z +ℤ v) → q ≡ t → ((w +ℤ q) +ℤ u) ≡ ((z +ℤ t) +ℤ v)
ahead z w u v t q one same = omega (arith, ints, one, same)

same_sum : (z w t q : ℤ) → w ≡ z → q ≡ t → (w +ℤ q) ≡ (z +ℤ t)
same_sum z w t q a b = omega (arith, ints, a, b)

-- and the sum over all of them does, with the unary cost
module _ (P : Network) (h before after : List Event) (x : ℕ) (pairs : List Pair) (most m a s : ℕ) (net : IsNetwork P) (are : AreNeighbours P h x pairs) (more : m < length pairs) (shifts : Shifts P (pair_at pairs m) most before after) where
  was : (f i : ℕ) (tuple : List ℕ) → IsPicked P after f i a tuple → IsPicked P before f i a tuple
  was f i tuple picked = record { fits = picked.fits; value = picked.value; live = shifts.tuples f tuple picked.live }

  comes_behind : (n : ℕ) (z w : ℤ) → n ≤ m → w ≡ z → ComesTo P before pairs a n z s → ComesTo P after pairs a n w s
  comes_behind zero z w le same comes = subst (λ c. pos s ≤ℤ c) (sym same) comes
  comes_behind (suc n) z w le same comes = λ tuple picked.
      comes_behind n (z +ℤ total P before (pair_at pairs n) tuple) (w +ℤ total P after (pair_at pairs n) tuple) (omega (arith, le))
      (same_sum z w (total P before (pair_at pairs n) tuple) (total P after (pair_at pairs n) tuple) same (other_total P h before after x pairs n most m tuple net are (omega (arith, le, more)) more (λ e. absurd (omega (arith, e, le))) shifts))
      (comes tuple (was (pair_at pairs n).function (pair_at pairs n).place tuple picked))

  here_total : (tuple : List ℕ) → slice_index tuple (pair_at pairs m).place ≡ a → (total P after (pair_at pairs m) tuple +ℤ unary P after x a) ≡ (total P before (pair_at pairs m) tuple +ℤ unary P before x a)
  here_total tuple at =
      subst (λ b. (total P after (pair_at pairs m) tuple +ℤ unary P after x b) ≡ (total P before (pair_at pairs m) tuple +ℤ unary P before x b)) at
      (subst (λ y. (total P after (pair_at pairs m) tuple +ℤ unary P after y (slice_index tuple (pair_at pairs m).place)) ≡ (total P before (pair_at pairs m) tuple +ℤ unary P before y (slice_index tuple (pair_at pairs m).place))) (are.each m more).at (shifts.whole tuple))

  comes_ahead : (n : ℕ) (z w : ℤ) → m < n → n ≤ length pairs → (w +ℤ unary P before x a) ≡ (z +ℤ unary P after x a) → ComesTo P before pairs a n z s → ComesTo P after pairs a n w s
  comes_ahead zero z w less le same comes = absurd (omega (arith, less))
  comes_ahead (suc n) z w less le same comes = λ tuple picked. elim (cases_eq n m) [
    | inl e ↦
        comes_behind n (z +ℤ total P before (pair_at pairs n) tuple) (w +ℤ total P after (pair_at pairs n) tuple) (omega (arith, e))
        (passed z w (unary P before x a) (unary P after x a) (total P before (pair_at pairs n) tuple) (total P after (pair_at pairs n) tuple) same
        (subst (λ i. (slice_index tuple (pair_at pairs i).place ≡ a) → (total P after (pair_at pairs i) tuple +ℤ unary P after x a) ≡ (total P before (pair_at pairs i) tuple +ℤ unary P before x a)) (sym e) (here_total tuple) picked.value))
        (comes tuple (was (pair_at pairs n).function (pair_at pairs n).place tuple picked))
    | inr d ↦
        comes_ahead n (z +ℤ total P before (pair_at pairs n) tuple) (w +ℤ total P after (pair_at pairs n) tuple) (omega (arith, less, d)) (omega (arith, le))
        (ahead z w (unary P before x a) (unary P after x a) (total P before (pair_at pairs n) tuple) (total P after (pair_at pairs n) tuple) same (other_total P h before after x pairs n most m tuple net are (omega (arith, le)) more d shifts))
        (comes tuple (was (pair_at pairs n).function (pair_at pairs n).place tuple picked))
  ]

turn : (u v : ℤ) → (v +ℤ u) ≡ (u +ℤ v)
turn u v = omega (arith, ints)

pub come_on : (P : Network) (h before after : List Event) (x : ℕ) (pairs : List Pair) (most m s : ℕ) → IsNetwork P → AreNeighbours P h x pairs → m < length pairs → Shifts P (pair_at pairs m) most before after → AllComeTo P before x pairs s → AllComeTo P after x pairs s
come_on P h before after x pairs most m s net are more shifts come a value live =
    comes_ahead P h before after x pairs most m a s net are more shifts (length pairs) (unary P before x a) (unary P after x a) more (omega arith) (turn (unary P before x a) (unary P after x a)) (come a value (sym (shifts.values x a) ∙ live))

-- full supports in other neighbours stay
less_before : (u v : ℤ) (alpha : ℕ) → u ≤ℤ v → v <ℤ pos alpha → u <ℤ pos alpha
less_before u v alpha le less = omega (arith, ints, le, less)

pub full_on : (P : Network) (h before after : List Event) (x : ℕ) (pairs : List Pair) (k most m alpha : ℕ) → IsNetwork P → AreNeighbours P h x pairs → k < length pairs → m < length pairs → (k ≡ m → ⊥) → Shifts P (pair_at pairs m) most before after → AreFullBelow P before (pair_at pairs k) alpha → AreFullBelow P after (pair_at pairs k) alpha
full_on P h before after x pairs k most m alpha net are less more apart shifts full a place live low =
    let one = pair_at pairs k in
    let x_is : first_of P (pair_at pairs m) ≡ first_of P one = (are.each m more).at ∙ sym (are.each k less).at in
    let has = full a place (sym (shifts.values (first_of P one) a) ∙ live) (less_before (unary P before (first_of P one) a) (unary P after (first_of P one) a) alpha (subst (λ y. unary P before y a ≤ℤ unary P after y a) x_is (shifts.more a)) low) in
    record {
      tuple = has.tuple;
      fits = has.fits;
      at = has.at;
      live = (shifts.others one.function has.tuple (functions_apart P h x pairs k m net are less more apart)).0 ∙ has.live;
      free = other_total P h before after x pairs k most m has.tuple net are less more apart shifts ∙ has.free;
    }

-- Where the call is: the values have full supports in the first n neighbours, unless they have come to alpha.
pub record IsRaising (before now : Standing) (x : ℕ) (pairs : List Pair) (alpha n : ℕ) : Type 0 where
  pub floors : floor before.network (history now) ≡ floor before.network (history before)
  pub values : (y a : ℕ) → is_live (history now) y a ≡ is_live (history before) y a
  pub come : AllComeTo before.network (history now) x pairs alpha
  pub full : AreFullTo before.network (history now) pairs alpha n
  pub leads : Leads before now (IsThrough (functions_to pairs n))
  pub none : n ≡ 0 → now ≡ before

pub raising_start : (s : Standing) (x : ℕ) (pairs : List Pair) (alpha : ℕ) → AllComeTo s.network (history s) x pairs alpha → IsRaising s s x pairs alpha 0
raising_start s x pairs alpha come = record {
  floors = refl;
  values = λ y a. refl;
  come = come;
  full = λ k h. absurd (omega (arith, h));
  leads = leads_weaker s s IsBegun (IsThrough []) (gained_none s) (λ g is. subst (λ (k : Group). GoThrough [] k.steps) (sym is) tt);
  none = λ e. refl;
}

pub raising_more : (before now next : Standing) (x : ℕ) (pairs : List Pair) (alpha cap lacks most n : ℕ) → IsNetwork before.network → AreNeighbours before.network (history before) x pairs → n < length pairs → now.network ≡ before.network → IsRaising before now x pairs alpha n
    → Shifts now.network (pair_at pairs n) most (history now) (history next) → LeadsThrough now next (pair_at pairs n) → AreFullBelow now.network (history next) (pair_at pairs n) cap
    → floor before.network (history before) + alpha ≤ most → floor now.network (history now) + lacks ≡ most → cap ≡ min alpha lacks → IsRaising before next x pairs alpha (n + 1)
raising_more before now next x pairs alpha cap lacks most n net are less same v moved through full below sum least = record {
  floors = shifts.floors ∙ v.floors;
  values = λ y a. shifts.values y a ∙ v.values y a;
  come = come_on P (history before) (history now) (history next) x pairs most n alpha net are less shifts v.come;
  full = λ k h. elim (cases_eq k n) [
    | inl e ↦ subst (λ i. AreFullBelow P (history next) (pair_at pairs i) alpha) (sym e) (subst (AreFullBelow P (history next) (pair_at pairs n)) whole (subst (λ Q. AreFullBelow Q (history next) (pair_at pairs n) cap) same full))
    | inr d ↦ full_on P (history before) (history now) (history next) x pairs k most n alpha net are (omega (arith, h, less)) less d shifts (v.full k (omega (arith, h, d)))
  ];
  leads = subst (λ i. Leads before next (IsThrough (functions_to pairs i))) (let e : suc n ≡ n + 1 = omega arith in e)
      (through before (functions_to pairs n) (fresh_function P (history before) x pairs n n net are less (omega arith)) v.leads);
  none = λ e. absurd (omega (arith, e));
}
  where
    P : Network
    P = before.network

    shifts : Shifts P (pair_at pairs n) most (history now) (history next)
    shifts = subst (λ Q. Shifts Q (pair_at pairs n) most (history now) (history next)) same moved

    whole : cap ≡ alpha
    whole = let f = v.floors in let g = ap (λ Q. floor Q (history now)) same in omega (arith, f, g, below, sum, least)

-- a step that is refused in a neighbour was due
pub due_existing : (before next : Standing) (limits : Limits) (x : ℕ) (pairs : List Pair) (alpha : ℕ) → x < length before.network.sizes → next.network ≡ before.network → AreNeighbours before.network (history before) x pairs → ((y a : ℕ) → is_live (history next) y a ≡ is_live (history before) y a) → 0 < alpha → AllComeTo before.network (history next) x pairs alpha → IsDue next limits
due_existing before next limits x pairs alpha there same are values some come = subst (λ P. IsDue (record { network = P; base = next.base; block = next.block; spare = next.spare }) limits) (sym same) (λ full.
    (let is = full.existential.variables x there in
    none_good before.network (history next) x pairs alpha is.value some come (record { free = is.free; full = λ k h. is.supports (pair_at pairs k).function (pair_at pairs k).place (pair_at pairs k).other (pair_kept before.network (history before) (history next) (pair_at pairs k).function (pair_at pairs k).place (pair_at pairs k).other values (are.each k h).both) (are.each k h).at (first k h) })))
  where
    first : (k : ℕ) → k < length pairs → IsFirst before.network (history next) (pair_at pairs k).function (pair_at pairs k).place (pair_at pairs k).other
    first k h g p q pair at other =
        let r = are.all g p q (pair_kept before.network (history next) (history before) g p q (λ y a. sym (values y a)) pair) (at ∙ (are.each k h).at) in
        let e = are.once r.neighbour k r.within h (r.other ∙ other) in
        subst (λ i. (pair_at pairs i).function ≤ g) e r.first

pub raising_halts : (before now next : Standing) (limits : Limits) (x : ℕ) (pairs : List Pair) (alpha n : ℕ) (halt : Halt) (result : Result (Unit {0}) Halt) → IsNetwork before.network → x < length before.network.sizes → AreNeighbours before.network (history before) x pairs → n < length pairs → now.network ≡ before.network → next.network ≡ now.network → 0 < alpha → IsRaising before now x pairs alpha n
    → Shifts now.network (pair_at pairs n) limits.threshold (history now) (history next) → LeadsThrough now next (pair_at pairs n) → IsNotDead (Err halt) → IsErrAnd result (λ h. h ≡ halt) → Gains before next limits result
raising_halts before now next limits x pairs alpha n halt result net there are less same later some v moved through not is =
    let P = before.network in
    let shifts = subst (λ Q. Shifts Q (pair_at pairs n) limits.threshold (history now) (history next)) same moved in
    gains_halt before next limits halt result
    (gains_spent before next limits halt not
    (opened before next (IsThrough ((pair_at pairs n).function ∷ functions_to pairs n)) (through before (functions_to pairs n) (fresh_function P (history before) x pairs n n net are less (omega arith)) v.leads))
    (due_existing before next limits x pairs alpha there (later ∙ same) are (λ y a. shifts.values y a ∙ v.values y a) some (come_on P (history before) (history now) (history next) x pairs limits.threshold n alpha net are less shifts v.come))) is

-- an open variable has a live value
abbrev one_if : Bool → ℕ
one_if b = if b then 1 else 0

some_below : (test : ℕ → Bool) (n : ℕ) → 0 < count_below test n → (a : ℕ) × (a < n) × (test a ≡ true)
some_below test zero some = absurd (omega (arith, some))
some_below test (suc n) some = by (test n) refl (λ more. some_below test n more)
  where
    by : (b : Bool) → test n ≡ b → (0 < count_below test n → (a : ℕ) × (a < n) × (test a ≡ true)) → (a : ℕ) × (a < suc n) × (test a ≡ true)
    by true e rest = (n, omega arith, e)
    by false e rest =
        let h = subst (λ b. 0 < one_if b + count_below test n) e some in
        let r = rest (omega (arith, h)) in
        (r.0, (let l = r.1 in omega (arith, l)), r.2)

open_live : (P : Network) (h : List Event) (x : ℕ) → x < length P.sizes → IsTrue (is_open P h x) → (a : ℕ) × IsValue P x a × IsTrue (is_live h x a)
open_live P h x there is =
    let r = some_below (is_live h x) (slice_index P.sizes x) (at_least (count_below (is_live h x) (slice_index P.sizes x)) is) in
    (r.0, record { variable = there; value = r.1 }, r.2)
  where
    at_least : (n : ℕ) → nat_le 2 n ≡ true → 0 < n
    at_least n is = grind (arith, is)

place_at : (P : Network) (pair : Pair) (x a : ℕ) → pair.function < length P.functions → pair.place < arity P pair.function → variable_at P pair.function pair.place ≡ x → IsValue P x a → IsPlace P pair.function pair.place a
place_at P pair x a function place at value = record {
  function = function;
  place = place;
  value = (let size = get_or-dims P.sizes (scope_at P pair.function) pair.place place ∙ ap (slice_index P.sizes) at in let v = value.value in omega (arith, size, v));
}

-- at the end each live value costs something, where there is a neighbour
costs_some : (u : ℤ) (n : ℕ) → u ≡ pos (suc n) → pos 1 ≤ℤ u
costs_some u n e = omega (arith, ints, e)

below_alpha : (u : ℤ) (alpha : ℕ) → 0 < alpha → u ≡ pos 0 → u <ℤ pos alpha
below_alpha u alpha some e = omega (arith, ints, some, e)

pub all_costly : (before now : Standing) (x : ℕ) (pairs : List Pair) (alpha n : ℕ) → IsNetwork before.network → x < length before.network.sizes → AreNeighbours before.network (history before) x pairs → 0 < length pairs → length pairs ≤ n → 0 < alpha → IsExactAlong before.network (history now) → IsRaising before now x pairs alpha n → AreAllCostly before.network (history now) x
all_costly before now x pairs alpha n net there are one all some exact v = record {
  some = (let r = open_live P (history now) x there (subst (λ y. IsTrue (is_open P (history now) y)) (are.each 0 one).at (pair_kept P (history before) (history now) (pair_at pairs 0).function (pair_at pairs 0).place (pair_at pairs 0).other v.values (are.each 0 one).both).one.1) in record { value = r.0; is = r.1; live = r.2 });
  each = λ a value live. (let u = unary_amount P (history now) x a exact value live in by a value live u.0 u.2);
}
  where
    P : Network
    P = before.network

    by : (a : ℕ) → IsValue P x a → IsTrue (is_live (history now) x a) → (u : ℕ) → unary P (history now) x a ≡ pos u → pos 1 ≤ℤ unary P (history now) x a
    by a value live zero e = absurd (none_good P (history now) x pairs alpha a some v.come (record {
      free = record { value = value; live = live; free = e };
      full = λ k h.
          (let neighbour = are.each k h in
          v.full k (omega (arith, h, all)) a (place_at P (pair_at pairs k) x a neighbour.both.active.function neighbour.both.one.0 neighbour.at value)
          (subst (λ y. IsTrue (is_live (history now) y a)) (sym neighbour.at) live)
          (subst (λ y. unary P (history now) y a <ℤ pos alpha) (sym neighbour.at) (below_alpha (unary P (history now) x a) alpha some e)));
    }))
    by a value live (suc u) e = costs_some (unary P (history now) x a) u e

pub raising_ends : (before now next : Standing) (limits : Limits) (x : ℕ) (pairs : List Pair) (alpha n : ℕ) (result : Result (Unit {0}) Halt) → IsNetwork before.network → x < length before.network.sizes → AreNeighbours before.network (history before) x pairs → now.network ≡ before.network → n ≤ length pairs → length pairs ≤ n → 0 < alpha → IsExactAlong now.network (history now) → IsRaising before now x pairs alpha n
    → Gains now next limits result → (AreAllCostly now.network (history now) x → GainsBehind now next limits result) → Gains before next limits result
raising_ends before now next limits x pairs alpha n result net there are same le all some exact v gains closes = elim (cases_eq n 0) [
  | inl e ↦ subst (λ t. Gains t next limits result) (v.none e) gains
  | inr d ↦
      closes (subst (λ P. AreAllCostly P (history now) x) (sym same) (all_costly before now x pairs alpha n net there are (omega (arith, d, le)) all some (subst (λ P. IsExactAlong P (history now)) same exact) v)) before
      (opened before now (IsThrough (functions_to pairs n)) v.leads)
]

-- at the end each live value has come to the amount
drop_none : (s : ℕ) (z t : ℤ) → pos s ≤ℤ (z +ℤ t) → t ≡ pos 0 → pos s ≤ℤ z
drop_none s z t le none = omega (arith, ints, le, none)

comes_least : (P : Network) (h : List Event) (pairs : List Pair) (a n s : ℕ) (z : ℤ) → ((k : ℕ) → k < n → HasFullSupport P h (pair_at pairs k).function (pair_at pairs k).place (pair_at pairs k).other a) → ComesTo P h pairs a n z s → pos s ≤ℤ z
comes_least P h pairs a zero s z full comes = comes
comes_least P h pairs a (suc n) s z full comes =
    let has = full n (omega arith) in
    drop_none s z (total P h (pair_at pairs n) has.tuple)
    (comes_least P h pairs a n s (z +ℤ total P h (pair_at pairs n) has.tuple) (λ k less. full k (omega (arith, less))) (comes has.tuple (record { fits = has.fits; value = has.at; live = has.live })))
    has.free

at_least : (alpha n : ℕ) (u : ℤ) → u ≡ pos n → alpha ≤ n → pos alpha ≤ℤ u
at_least alpha n u e le = omega (arith, ints, e, le)

less_than : (alpha n : ℕ) (u : ℤ) → u ≡ pos n → n < alpha → u <ℤ pos alpha
less_than alpha n u e less = omega (arith, ints, e, less)

all_reach : (before now : Standing) (x : ℕ) (pairs : List Pair) (alpha n : ℕ) → IsNetwork before.network → AreNeighbours before.network (history before) x pairs → length pairs ≤ n → IsExactAlong before.network (history now) → IsRaising before now x pairs alpha n → HasLive before.network (history before) x → AreAllAtLeast before.network (history now) x alpha
all_reach before now x pairs alpha n net are all exact v some = record {
  some = record { value = some.value; is = some.is; live = v.values x some.value ∙ some.live };
  each = λ a value live. (let u = unary_amount P (history now) x a exact value live in by a value live u.0 u.2);
}
  where
    P : Network
    P = before.network

    by : (a : ℕ) → IsValue P x a → IsTrue (is_live (history now) x a) → (u : ℕ) → unary P (history now) x a ≡ pos u → pos alpha ≤ℤ unary P (history now) x a
    by a value live u e = elim (which u alpha) [
      | inl less ↦
          comes_least P (history now) pairs a (length pairs) alpha (unary P (history now) x a)
          (λ k h.
          (let neighbour = are.each k h in
          v.full k (omega (arith, h, all)) a (place_at P (pair_at pairs k) x a neighbour.both.active.function neighbour.both.one.0 neighbour.at value)
          (subst (λ y. IsTrue (is_live (history now) y a)) (sym neighbour.at) live)
          (subst (λ y. unary P (history now) y a <ℤ pos alpha) (sym neighbour.at) (less_than alpha u (unary P (history now) x a) e less))))
          (v.come a value live)
      | inr r ↦ (elim r [
        | inl same ↦ at_least alpha u (unary P (history now) x a) e (omega (arith, same))
        | inr more ↦ at_least alpha u (unary P (history now) x a) e (omega (arith, more))
      ])
    ]

-- so the floor rises by it
pub rises_ends : (before now next : Standing) (limits : Limits) (x : ℕ) (pairs : List Pair) (alpha n : ℕ) (result : Result (Unit {0}) Halt) → IsNetwork before.network → AreNeighbours before.network (history before) x pairs → now.network ≡ before.network → length pairs ≤ n → IsExactAlong now.network (history now) → IsRaising before now x pairs alpha n
    → floor before.network (history before) + alpha ≤ limits.threshold → (AreAllAtLeast now.network (history now) x alpha → floor now.network (history now) + alpha ≤ limits.threshold → RisesBy now next alpha result) → HasLive before.network (history before) x → RisesBy before next alpha result
rises_ends before now next limits x pairs alpha n result net are same all exact v below level some room =
    let f = v.floors in
    let g = ap (λ Q. floor Q (history now)) same in
    let reach = subst (λ Q. AreAllAtLeast Q (history now) x alpha) (sym same) (all_reach before now x pairs alpha n net are all (subst (λ Q. IsExactAlong Q (history now)) same exact) v some) in
    let r = level reach (omega (arith, f, g, below)) room in
    omega (arith, f, g, r)

pub rises_halts : (before next : Standing) (alpha : ℕ) (halt : Halt) (result : Result (Unit {0}) Halt) → IsNotDead (Err halt) → IsErrAnd result (λ h. h ≡ halt) → RisesBy before next alpha result
rises_halts before next alpha Dead result not is room = absurd (not refl)
rises_halts before next alpha Spent (Ok done) not is room = absurd is
rises_halts before next alpha Spent (Err h) not is room = absurd (room (ap Err is))
