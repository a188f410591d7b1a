-- A walk down a scope over the live tuples that a project asks about.
use Rattle.std.proofs.Common.{◌≡◌, ℕ, zero, suc, ◌+◌, ◌*◌, ◌<◌, ◌≤◌, ◌^◌, List, [], ◌∷◌, length, get_or, drop, refl, sym, ap, ◌∙◌, subst, inl, inr, arith}
use Rattle.std.proofs.Common.{to_z, of_z}
use mir.Syntax.{w128}
use Rattle.std.proofs.lemmas.Bool.{and_parts, cases_eq, cases_lt, false≢true, lt-ltb, not-true}
use Rattle.std.proofs.lemmas.Int.{ints, by_lt_z, to_z-of_z}
use Rattle.std.proofs.lemmas.List.{drop_more, drop_all}
use Rattle.std.specs.Prelude.{true, false, not, ◌&&◌, ◌↔◌, ℤ, pos, neg_ℤ, ◌+ℤ◌, slice_index, nat_lt, IsTrue}
use Rattle.cfn_model.specs.declared.step.Event.{Event}
use Rattle.cfn_model.specs.Network.{Network, IsNetwork, Fits, cells, cell, cell_from, dims, dims_at, arity, scope_at, variable_at, entry_at}
use Rattle.cfn_model.specs.Sums.{when, all_live, is_live, is_cut, is_live_tuple, residual}
use Rattle.cfn_model.specs.Steps.{IsPlace, CanProject}
use Rattle.cfn_net.proofs.CallerLemmas.{length-dims, get_or-dims, Inhabited-dims, cells-drop-pos}
use Rattle.cfn_check.specs.declared.probe.Asked.{Asked}
use Rattle.cfn_check.specs.declared.probe.Spot.{Spot}
use Rattle.cfn_tables.specs.Slots.{slots, shifted}
use Rattle.cfn_check.specs.Along.{along}
use Rattle.cfn_check.specs.Along.{IsSlight}
use Rattle.cfn_check.specs.Probing.{IsLow, LacksIn, Lacks, IsAsked, IsSpot, IsOnly, spot_behind}
use Rattle.cfn_tables.proofs.CallerLemmas.{arity_small}
use Rattle.cfn_tables.proofs.CallerLemmas.{slots-drop_more, slots_few}

-- values behind one more place, and behind the spot before it
record IsNext (P : Network) (history : List Event) (asked : Asked) (spot next : Spot) (y v : ℕ) : Type 0 where
  pub number : next.number ≡ spot.number * slice_index P.sizes y + v
  pub slot : next.slot ≡ spot.slot + slice_index P.sizes y
  pub bound : next.bound ≡ (spot.bound +ℤ shifted P history asked.function (spot.slot + v))

bound_is : (P : Network) (history : List Event) (asked : Asked) (spot next : Spot) (y v : ℕ) (rest tuple : List ℕ) → IsNext P history asked spot next y v → (next.bound +ℤ along (λ n. shifted P history asked.function n) next.slot (dims P.sizes rest) tuple) ≡ (spot.bound +ℤ along (λ n. shifted P history asked.function n) spot.slot (dims P.sizes (y ∷ rest)) (v ∷ tuple))
bound_is P history asked spot next y v rest tuple is =
    let tail = ap (λ n. along (λ k. shifted P history asked.function k) n (dims P.sizes rest) tuple) is.slot in
    omega (arith, ints, is.bound, tail)

number_is : (P : Network) (history : List Event) (asked : Asked) (spot next : Spot) (y v : ℕ) (rest tuple : List ℕ) → IsNext P history asked spot next y v → cell_from next.number (dims P.sizes rest) tuple ≡ cell_from spot.number (dims P.sizes (y ∷ rest)) (v ∷ tuple)
number_is P history asked spot next y v rest tuple is = ap (λ n. cell_from n (dims P.sizes rest) tuple) is.number

one_more : (P : Network) (history : List Event) (asked : Asked) (spot next : Spot) (y v : ℕ) (rest : List ℕ) → IsNext P history asked spot next y v → v < slice_index P.sizes y → (y ≡ asked.variable → v ≡ asked.value) → is_live history y v ≡ true → LacksIn P history asked next rest → LacksIn P history asked spot (y ∷ rest)
one_more P history asked spot next y v rest is below has live (tuple, t) = (
  v ∷ tuple,
  record {
    fits = (below, t.fits);
    has = places t.has;
    live = ap (λ b. b && all_live history rest tuple) live ∙ t.live;
    low = subst (λ z. IsLow P history asked.function (cell_from spot.number (dims P.sizes (y ∷ rest)) (v ∷ tuple)) z) (bound_is P history asked spot next y v rest tuple is) (subst (λ c. IsLow P history asked.function c (next.bound +ℤ along (λ n. shifted P history asked.function n) next.slot (dims P.sizes rest) tuple)) (number_is P history asked spot next y v rest tuple is) t.low);
  },
)
  where
    places : ((place : ℕ) → place < length rest → slice_index rest place ≡ asked.variable → slice_index tuple place ≡ asked.value) → (place : ℕ) → place < length (y ∷ rest) → slice_index (y ∷ rest) place ≡ asked.variable → slice_index (v ∷ tuple) place ≡ asked.value
    places h zero l e = has e
    places h (suc place) l e = h place (omega arith) e

record OneLess (P : Network) (history : List Event) (asked : Asked) (spot : Spot) (y : ℕ) (rest : List ℕ) : Type 0 where
  pub value : ℕ
  pub below : value < slice_index P.sizes y
  pub has : y ≡ asked.variable → value ≡ asked.value
  pub live : is_live history y value ≡ true
  pub behind : (next : Spot) → IsNext P history asked spot next y value → LacksIn P history asked next rest

one_less : (P : Network) (history : List Event) (asked : Asked) (spot : Spot) (y : ℕ) (rest : List ℕ) → LacksIn P history asked spot (y ∷ rest) → OneLess P history asked spot y rest
one_less P history asked spot y rest ([], t) = absurd (t.fits)
one_less P history asked spot y rest (v ∷ tuple, t) =
    let parts = and_parts (is_live history y v) (all_live history rest tuple) t.live in
    record {
      value = v;
      below = t.fits.0;
      has = λ e. t.has 0 (omega arith) e;
      live = parts.0;
      behind = λ next is. (
        tuple,
        record {
          fits = t.fits.1;
          has = λ place l e. t.has (suc place) (omega arith) e;
          live = parts.1;
          low = subst (λ z. IsLow P history asked.function (cell_from next.number (dims P.sizes rest) tuple) z) (sym (bound_is P history asked spot next y v rest tuple is)) (subst (λ c. IsLow P history asked.function c (spot.bound +ℤ along (λ n. shifted P history asked.function n) spot.slot (dims P.sizes (y ∷ rest)) (v ∷ tuple))) (sym (number_is P history asked spot next y v rest tuple is)) t.low);
        },
      );
    }

next_is : (P : Network) (history : List Event) (asked : Asked) (spot : Spot) (v : ℕ) → spot.place < arity P asked.function → IsNext P history asked spot (spot_behind P history asked.function spot v) (variable_at P asked.function spot.place) v
next_is P history asked spot v l =
    let size = get_or-dims P.sizes (scope_at P asked.function) spot.place l in
    record {
      number = ap (λ n. spot.number * n + v) size;
      slot = ap (λ n. spot.slot + n) size;
      bound = refl;
    }

-- what is lacking behind a live value is lacking before it
pub lacks_more : (P : Network) (history : List Event) (asked : Asked) (spot : Spot) (v : ℕ) → spot.place < arity P asked.function → v < slice_index (dims_at P asked.function) spot.place → (variable_at P asked.function spot.place ≡ asked.variable → v ≡ asked.value) → is_live history (variable_at P asked.function spot.place) v ≡ true → Lacks P history asked (spot_behind P history asked.function spot v) → Lacks P history asked spot
lacks_more P history asked spot v l below has live lack =
    let scope = scope_at P asked.function in
    subst (λ xs. LacksIn P history asked spot xs) (sym (drop_more scope spot.place 0 l)) (one_more P history asked spot (spot_behind P history asked.function spot v) (variable_at P asked.function spot.place) v (drop (spot.place + 1) scope) (next_is P history asked spot v l) (omega (arith, below, get_or-dims P.sizes scope spot.place l)) has live lack)

-- what is lacking before a place is lacking behind one of its live values
pub record LacksBehind (P : Network) (history : List Event) (asked : Asked) (spot : Spot) : Type 0 where
  pub value : ℕ
  pub below : value < slice_index (dims_at P asked.function) spot.place
  pub has : variable_at P asked.function spot.place ≡ asked.variable → value ≡ asked.value
  pub live : is_live history (variable_at P asked.function spot.place) value ≡ true
  pub rest : Lacks P history asked (spot_behind P history asked.function spot value)

pub lacks_less : (P : Network) (history : List Event) (asked : Asked) (spot : Spot) → spot.place < arity P asked.function → Lacks P history asked spot → LacksBehind P history asked spot
lacks_less P history asked spot l lack =
    let scope = scope_at P asked.function in
    let one = one_less P history asked spot (variable_at P asked.function spot.place) (drop (spot.place + 1) scope) (subst (λ xs. LacksIn P history asked spot xs) (drop_more scope spot.place 0 l) lack) in
    record {
      value = one.value;
      below = omega (arith, one.below, get_or-dims P.sizes scope spot.place l);
      has = one.has;
      live = one.live;
      rest = one.behind (spot_behind P history asked.function spot one.value) (next_is P history asked spot one.value l);
    }

-- at the end of the scope the tuple itself is low
pub lacks_end : (P : Network) (history : List Event) (asked : Asked) (spot : Spot) → arity P asked.function ≤ spot.place → Lacks P history asked spot ↔ IsLow P history asked.function spot.number spot.bound
lacks_end P history asked spot l =
    let none = drop_all spot.place (scope_at P asked.function) l in (
      λ lack. back (subst (λ xs. LacksIn P history asked spot xs) none lack),
      λ low. subst (λ xs. LacksIn P history asked spot xs) (sym none) (
        [],
        record {
          fits = tt;
          has = λ place m e. absurd (omega arith);
          live = refl;
          low = subst (λ z. IsLow P history asked.function spot.number z) (omega (arith, ints)) low;
        },
      ),
    )
  where
    back : LacksIn P history asked spot [] → IsLow P history asked.function spot.number spot.bound
    back ([], t) = subst (λ z. IsLow P history asked.function spot.number z) (omega (arith, ints)) t.low
    back (v ∷ tuple, t) = absurd (t.fits)

-- the size at a place, as the code finds it
pub size_at : (P : Network) (f : ℕ) (scope : List ℕ) (place size : ℕ) → scope ≡ scope_at P f → place < arity P f → size ≡ get_or P.sizes (get_or scope place 0) 0 → size ≡ slice_index (dims_at P f) place
size_at P f scope place size same l is = is ∙ ap (λ (xs : List ℕ). get_or P.sizes (get_or xs place 0) 0) same ∙ sym (get_or-dims P.sizes (scope_at P f) place l)

-- behind the values of x below a number nothing is lacking
abbrev pub NoneBelow : Network → List Event → Asked → Spot → ℕ → ℕ → Type 0
NoneBelow P history asked spot x n = (a : ℕ) → a < n → is_live history x a ≡ true → Lacks P history asked (spot_behind P history asked.function spot a) → ⊥

pub none_more : (P : Network) (history : List Event) (asked : Asked) (spot : Spot) (x n : ℕ) → (is_live history x n ≡ true → Lacks P history asked (spot_behind P history asked.function spot n) → ⊥) → NoneBelow P history asked spot x n → NoneBelow P history asked spot x (n + 1)
none_more P history asked spot x n here below a l live lack = elim (cases_eq a n) [
  | inl same ↦ here (subst (λ m. is_live history x m ≡ true) same live) (subst (λ m. Lacks P history asked (spot_behind P history asked.function spot m)) same lack)
  | inr other ↦ below a (omega arith) live lack
]

pub none_left : (P : Network) (history : List Event) (asked : Asked) (spot : Spot) (x n : ℕ) → x ≡ variable_at P asked.function spot.place → spot.place < arity P asked.function → slice_index (dims_at P asked.function) spot.place ≤ n → NoneBelow P history asked spot x n → Lacks P history asked spot → ⊥
none_left P history asked spot x n at l all below lack =
    let b = lacks_less P history asked spot l lack in
    let under = b.below in
    below b.value (omega arith) (subst (λ y. is_live history y b.value ≡ true) (sym at) b.live) b.rest

-- the tuples of the last place
pub row_more : (P : Network) (history : List Event) (asked : Asked) (spot next : Spot) (x v : ℕ) → next ≡ spot_behind P history asked.function spot v → x ≡ variable_at P asked.function spot.place → spot.place + 1 ≡ arity P asked.function → v < slice_index (dims_at P asked.function) spot.place → (variable_at P asked.function spot.place ≡ asked.variable → v ≡ asked.value) → is_live history x v ≡ true → IsLow P history asked.function next.number next.bound → Lacks P history asked spot
row_more P history asked spot next x v is at last below has live low =
    lacks_more P history asked spot v (omega arith) below has (subst (λ y. is_live history y v ≡ true) at live) ((lacks_end P history asked (spot_behind P history asked.function spot v) (omega arith)).1 (subst (λ (s : Spot). IsLow P history asked.function s.number s.bound) is low))

pub row_low : (P : Network) (history : List Event) (asked : Asked) (spot next : Spot) (v : ℕ) → next ≡ spot_behind P history asked.function spot v → spot.place + 1 ≡ arity P asked.function → Lacks P history asked (spot_behind P history asked.function spot v) → IsLow P history asked.function next.number next.bound
row_low P history asked spot next v is last lack =
    subst (λ (s : Spot). IsLow P history asked.function s.number s.bound) (sym is) ((lacks_end P history asked (spot_behind P history asked.function spot v) (omega arith)).0 lack)

-- where one value alone comes in question, as much is lacking behind it
pub only_same : (P : Network) (history : List Event) (asked : Asked) (spot : Spot) (v : ℕ) → spot.place < arity P asked.function → IsOnly (slice_index (dims_at P asked.function) spot.place) asked (variable_at P asked.function spot.place) v → is_live history (variable_at P asked.function spot.place) v ≡ true → Lacks P history asked (spot_behind P history asked.function spot v) ↔ Lacks P history asked spot
only_same P history asked spot v l only live = (
  λ lack. lacks_more P history asked spot v l only.below only.has live lack,
  λ lack. (let b = lacks_less P history asked spot l lack in subst (λ m. Lacks P history asked (spot_behind P history asked.function spot m)) (only.only b.value b.below b.has) b.rest),
)

pub only_dead : (P : Network) (history : List Event) (asked : Asked) (spot : Spot) (v : ℕ) → spot.place < arity P asked.function → IsOnly (slice_index (dims_at P asked.function) spot.place) asked (variable_at P asked.function spot.place) v → is_live history (variable_at P asked.function spot.place) v ≡ false → Lacks P history asked spot → ⊥
only_dead P history asked spot v l only dead lack =
    let b = lacks_less P history asked spot l lack in
    let same = ap (λ m. is_live history (variable_at P asked.function spot.place) m) (only.only b.value b.below b.has) in
    false≢true (sym dead ∙ sym same ∙ b.live)

-- the numbers of a spot that lies behind one more place
pub number_room : (n s v rest total : ℕ) → v < s → suc n * (s * rest) ≤ total → suc (n * s + v) * rest ≤ total
number_room n s v rest total l h = grind arith

number_below : (n s v rest total : ℕ) → v < s → 0 < rest → suc n * (s * rest) ≤ total → n * s + v < total
number_below n s v rest total l p h = grind arith

pub record Behind (P : Network) (f : ℕ) (spot : Spot) (value : ℕ) : Type 0 where
  pub size : slice_index (dims_at P f) spot.place ≡ slice_index P.sizes (variable_at P f spot.place)
  pub number : spot.number * slice_index (dims_at P f) spot.place + value < cells (dims_at P f)
  pub slot : spot.slot + value < slots (dims_at P f)
  pub slots : spot.slot + slice_index (dims_at P f) spot.place ≤ slots (dims_at P f)

cells_here : (P : Network) (f : ℕ) (spot : Spot) → spot.place < arity P f → cells (drop spot.place (dims_at P f)) ≡ slice_index (dims_at P f) spot.place * cells (drop (spot.place + 1) (dims_at P f))
cells_here P f spot l = ap cells (drop_more (dims_at P f) spot.place 0 (omega (arith, length-dims P.sizes (scope_at P f))))

pub behind : (P : Network) (f : ℕ) (spot : Spot) (value : ℕ) → IsNetwork P → f < length P.functions → IsSpot P f spot → spot.place < arity P f → value < slice_index (dims_at P f) spot.place → Behind P f spot value
behind P f spot value network there is l below =
    let limits = network.functions f there in
    let some = cells-drop-pos (dims_at P f) (spot.place + 1) (Inhabited-dims P.sizes (scope_at P f) (λ x h. (network.sizes x h).0) limits.variables) in
    let more = slots-drop_more (dims_at P f) spot.place (omega (arith, length-dims P.sizes (scope_at P f))) in
    let room : suc spot.number * (slice_index (dims_at P f) spot.place * cells (drop (spot.place + 1) (dims_at P f))) ≤ cells (dims_at P f) = subst (λ n. suc spot.number * n ≤ cells (dims_at P f)) (cells_here P f spot l) is.number in
    record {
      size = get_or-dims P.sizes (scope_at P f) spot.place l;
      number = number_below spot.number (slice_index (dims_at P f) spot.place) value (cells (drop (spot.place + 1) (dims_at P f))) (cells (dims_at P f)) below some room;
      slot = omega (arith, is.slot, more, below);
      slots = omega (arith, is.slot, more);
    }

-- the numbers behind one more place, in the bits that they have
pub record RoomBehind (P : Network) (f : ℕ) (spot : Spot) (value size : ℕ) : Type 0 where
  pub number : spot.number * size + value < 4194304
  pub slot : spot.slot + size ≤ 4294967296
  pub at : spot.slot + value < 4294967296

pub room_behind : (P : Network) (f : ℕ) (spot : Spot) (value size : ℕ) → IsNetwork P → f < length P.functions → IsSpot P f spot → spot.place < arity P f → value < slice_index (dims_at P f) spot.place → size ≡ slice_index (dims_at P f) spot.place → RoomBehind P f spot value size
room_behind P f spot value size network there is l below same =
    let b = behind P f spot value network there is l below in
    let limits = network.functions f there in
    let scope = scope_at P f in
    let few = arity_small P f network there in
    let most = slots_few (dims_at P f) 4096 (λ i k. let m : i < length scope = omega (arith, k, length-dims P.sizes scope) in let size = (network.sizes (get_or scope i 0) (limits.variables i m)).1 in omega (arith, size, get_or-dims P.sizes scope i m)) in
    let e = ap (λ n. spot.number * n) same in
    record {
      number = omega (arith, e, b.number, limits.few);
      slot = omega (arith, same, b.slots, most, few, length-dims P.sizes scope);
      at = omega (arith, b.slot, most, few, length-dims P.sizes scope);
    }

pub next_spot : (P : Network) (history : List Event) (f : ℕ) (spot : Spot) (value : ℕ) → IsSpot P f spot → spot.place < arity P f → value < slice_index (dims_at P f) spot.place → IsSlight (shifted P history f (spot.slot + value)) → IsSpot P f (spot_behind P history f spot value)
next_spot P history f spot value is l below slight =
    let more = slots-drop_more (dims_at P f) spot.place (omega (arith, length-dims P.sizes (scope_at P f))) in
    record {
      place = omega arith;
      number = number_room spot.number (slice_index (dims_at P f) spot.place) value (cells (drop (spot.place + 1) (dims_at P f))) (cells (dims_at P f)) below (subst (λ n. suc spot.number * n ≤ cells (dims_at P f)) (cells_here P f spot l) is.number);
      slot = omega (arith, is.slot, more);
      low = omega (arith, ints, is.low, slight.low);
      high = omega (arith, ints, is.high, slight.high);
    }

-- the bound of a spot in its bits
pub bound_same : (P : Network) (f : ℕ) (spot : Spot) → IsNetwork P → f < length P.functions → IsSpot P f spot → to_z w128 (of_z w128 spot.bound) ≡ spot.bound
bound_same P f spot network there is =
    let few = arity_small P f network there in
    to_z-of_z w128 spot.bound (omega (arith, ints, is.low, is.high, is.place, few))

pub same_spot : (place number number' slot slot' : ℕ) (bound bound' : ℤ) → number ≡ number' → slot ≡ slot' → bound ≡ bound' → ◌≡◌ {A = Spot} (record { place = place; number = number; slot = slot; bound = bound }) (record { place = place; number = number'; slot = slot'; bound = bound' })
same_spot place number number' slot slot' bound bound' n s b = rw (n, s, b) refl

-- the number of a spot is that of a tuple
pub at_end : (P : Network) (f : ℕ) (spot : Spot) → arity P f ≤ spot.place → IsSpot P f spot → spot.number < cells (dims_at P f)
at_end P f spot l is =
    let one = ap cells (drop_all spot.place (dims_at P f) (omega (arith, length-dims P.sizes (scope_at P f)))) in
    let room : suc spot.number * 1 ≤ cells (dims_at P f) = subst (λ n. suc spot.number * n ≤ cells (dims_at P f)) one is.number in
    omega (arith, room)

-- the spot that a walk begins at
pub first_spot : (P : Network) (f m : ℕ) → m < 2 ^ 64 → IsSpot P f (record { place = 0; number = 0; slot = 0; bound = pos m })
first_spot P f m small = record { place = omega arith; number = omega arith; slot = omega arith; low = omega (arith, ints); high = omega (arith, ints) }

-- the root of a walk, and what a project asks
pub first_asked : (P : Network) (f i a x : ℕ) → IsPlace P f i a → x ≡ variable_at P f i → IsAsked P (record { function = f; variable = x; value = a })
first_asked P f i a x range is = record {
  function = range.function;
  value = λ place l e. (let size = get_or-dims P.sizes (scope_at P f) i range.place in let same = ap (λ y. slice_index P.sizes y) is in omega (arith, range.value, size, same));
}

-- the residual cost of each tuple is its entry less what was shifted along it
abbrev pub AreDifferences : Network → List Event → Type 0
AreDifferences P history = (f : ℕ) (tuple : List ℕ) → Fits (dims_at P f) tuple → residual P history f tuple ≡ (residual P [] f tuple +ℤ neg_ℤ (along (λ n. shifted P history f n) 0 (dims_at P f) tuple))

first_residual : (P : Network) (f : ℕ) (tuple : List ℕ) → 0 < arity P f → residual P [] f tuple ≡ pos (entry_at P f tuple)
first_residual P f tuple l = ap (λ b. when b (pos (entry_at P f tuple))) (lt-ltb 0 (arity P f) l)

module _ (P : Network) (history : List Event) (f i a x m : ℕ) (range : IsPlace P f i a) (is : x ≡ variable_at P f i) (differences : AreDifferences P history) where
  abbrev pub asked : Asked
  asked = record { function = f; variable = x; value = a }

  abbrev pub root : Spot
  root = record { place = 0; number = 0; slot = 0; bound = pos m }

  pub cannot_project : Lacks P history asked root → CanProject P history f i a m → ⊥
  cannot_project (tuple, t) can =
      let low = t.low in
      let live : IsTrue (is_live_tuple P history f tuple) = ap (λ b. (b && nat_lt (entry_at P f tuple) P.upper) && not (is_cut history f (cell (dims_at P f) tuple))) t.live ∙ ap (λ b. b && not (is_cut history f (cell (dims_at P f) tuple))) low.entry ∙ ap not low.uncut in
      let enough = can tuple t.fits (t.has i range.place (sym is)) live in
      let one = differences f tuple t.fits in
      let entry = first_residual P f tuple (omega (arith, range.place)) in
      let few = low.low in
      omega (arith, ints, enough, one, entry, few)

  pub can_project : IsNetwork P → (Lacks P history asked root → ⊥) → CanProject P history f i a m
  can_project network none tuple fits at live =
      by_lt_z (residual P history f tuple) (pos m) (λ few. absurd (none (
        tuple,
        record {
          fits = fits;
          has = λ place l e. elim (cases_lt place i) [
            | inl before ↦ absurd ((network.functions f range.function).different place i before range.place (e ∙ is))
            | inr after ↦ elim (cases_eq i place) [
              | inl same ↦ ap (λ n. slice_index tuple n) (sym same) ∙ at
              | inr other ↦ absurd ((network.functions f range.function).different i place (omega arith) l (sym is ∙ sym e))
            ]
          ];
          live = (and_parts _ _ (and_parts _ _ live).0).0;
          low = record {
            entry = (and_parts _ _ (and_parts _ _ live).0).1;
            uncut = not-true _ (and_parts _ _ live).1;
            low = let one = differences f tuple fits in let entry = first_residual P f tuple (omega (arith, range.place)) in omega (arith, ints, few, one, entry);
          };
        },
      ))) (λ enough. enough)
