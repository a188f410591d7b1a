-- A function is its default with its listed cells written over it.
use Rattle.std.proofs.Common.{◌≡◌, ◌≢◌, ◌⊎◌, inl, inr, ℕ, zero, suc, ◌+◌, ◌*◌, ◌/◌, ◌%◌, ◌<◌, ◌≤◌, min, Bool, true, false, cond, List, [], ◌∷◌, length, map, get_or, refl, sym, ap, ap₂, ◌∙◌, arith}
use Rattle.std.specs.Prelude.{filter, not, slice_index, if◌then◌else◌, ◌==◌}
use Rattle.std.specs.List.{AllByRecursion, range_with_len}
use Rattle.std.proofs.lemmas.Bool.{cases_Bool, cases_eq, eq-eqb, ne_eqb, eqb-true}
use Rattle.std.proofs.lemmas.List.{ext_get_or}
use Rattle.std.proofs.lemmas.List.FromFn.{get_or-map-range_with_len, length-map-range_with_len}
use Rattle.std.proofs.lemmas.Nat.{div_below, mod_below, div-add-mod'}
use Rattle.cfn_model.specs.Network.{Fits, Function, IsFunction, cell, cell_from, cells, dims, function_of, last_listed}
use Rattle.cfn_wcspwrite.specs.Canonical.{differs, listed, tuple_of}

-- ---- the tuple with a number

-- a number that a walk begins with stands above the tuple's own number
cell_from-add : (a : ℕ) (sizes values : List ℕ) → Fits sizes values → cell_from a sizes values ≡ a * cells sizes + cell_from 0 sizes values
cell_from-add a [] [] h = omega arith
cell_from-add a [] (v ∷ vs) h = absurd h
cell_from-add a (s ∷ ss) [] h = absurd h
cell_from-add a (s ∷ ss) (v ∷ vs) h =
    carry a s v (cells ss) (cell_from (a * s + v) ss vs) (cell_from (0 * s + v) ss vs) (cell_from 0 ss vs) (cell_from-add (a * s + v) ss vs h.1) (cell_from-add (0 * s + v) ss vs h.1)
  where
    carry : (a s v rest here there tail : ℕ) → here ≡ (a * s + v) * rest + tail → there ≡ (0 * s + v) * rest + tail → here ≡ a * (s * rest) + there
    carry a s v rest here there tail e d = grind arith

cell-cons : (s v : ℕ) (ss vs : List ℕ) → Fits ss vs → cell (s ∷ ss) (v ∷ vs) ≡ v * cells ss + cell ss vs
cell-cons s v ss vs h = let e : 0 * s + v ≡ v = omega arith in ap (λ n. cell_from n ss vs) e ∙ cell_from-add v ss vs h

pub record Numbered (sizes : List ℕ) (c : ℕ) (values : List ℕ) : Type 0 where
  pub fits : Fits sizes values
  pub number : cell sizes values ≡ c

pub numbered : (sizes : List ℕ) (c : ℕ) → c < cells sizes → Numbered sizes c (tuple_of sizes c)
numbered [] c l = record { fits = tt; number = omega arith }
numbered (s ∷ ss) c l =
    let some : 0 < cells ss = rest_some s (cells ss) c l in
    let rest = numbered ss (c % cells ss) (mod_below c (cells ss) some) in
    record {
      fits = (div_below c (cells ss) s some l, rest.fits);
      number = cell-cons s (c / cells ss) ss (tuple_of ss (c % cells ss)) rest.fits ∙ ap (λ n. c / cells ss * cells ss + n) rest.number ∙ div-add-mod' c (cells ss);
    }
  where
    rest_some : (s rest c : ℕ) → c < s * rest → 0 < rest
    rest_some s zero c l = absurd (omega arith)
    rest_some s (suc rest) c l = omega arith

-- ---- all cells of a range, and of some of it

pub range_below : (a n bound : ℕ) → a + n ≤ bound → AllByRecursion (λ c. c < bound) (range_with_len a n)
range_below a zero bound l = tt
range_below a (suc n) bound l = (omega arith, range_below (a + 1) n bound (omega arith))

chosen : (P : ℕ → Type 0) (b : Bool) (c : ℕ) (cs : List ℕ) → P c → AllByRecursion P cs → AllByRecursion P (cond b (c ∷ cs) cs)
chosen P true c cs first all = (first, all)
chosen P false c cs first all = all

pub all_filter : (P : ℕ → Type 0) (p : ℕ → Bool) (cs : List ℕ) → AllByRecursion P cs → AllByRecursion P (filter p cs)
all_filter P p [] all = tt
all_filter P p (c ∷ cs) all = chosen P (p c) c (filter p cs) all.0 (all_filter P p cs all.1)

-- ---- what the listings of a function say

module _ (ds : List ℕ) (f : Function) where
  abbrev pub listing : ℕ → List ℕ × ℕ
  listing c = (tuple_of ds c, slice_index f.entries c)

  -- the entry so far, behind one more listing
  taken : (c i so_far : ℕ) → c < cells ds → so_far ≡ slice_index f.entries i → (if cell ds (tuple_of ds c) == i then slice_index f.entries c else so_far) ≡ slice_index f.entries i
  taken c i so_far l e =
      let number = (numbered ds c l).number in
      elim (cases_eq c i) [
        | inl same ↦ ap (λ (b : Bool). cond b (slice_index f.entries c) so_far) (eq-eqb (cell ds (tuple_of ds c)) i (number ∙ same)) ∙ ap (slice_index f.entries) same
        | inr other ↦ ap (λ (b : Bool). cond b (slice_index f.entries c) so_far) (ne_eqb (cell ds (tuple_of ds c)) i (λ same. other (sym number ∙ same))) ∙ e
      ]

  passed : (c i so_far : ℕ) → c < cells ds → c ≢ i → (if cell ds (tuple_of ds c) == i then slice_index f.entries c else so_far) ≡ so_far
  passed c i so_far l other =
      let number = (numbered ds c l).number in
      ap (λ (b : Bool). cond b (slice_index f.entries c) so_far) (ne_eqb (cell ds (tuple_of ds c)) i (λ same. other (sym number ∙ same)))

  -- an entry stays as it is
  keeps : (cs : List ℕ) (i so_far : ℕ) → AllByRecursion (λ c. c < cells ds) cs → so_far ≡ slice_index f.entries i → last_listed ds so_far (map listing cs) i ≡ slice_index f.entries i
  keeps [] i so_far all e = e
  keeps (c ∷ cs) i so_far all e = keeps cs i (if cell ds (tuple_of ds c) == i then slice_index f.entries c else so_far) all.1 (taken c i so_far all.0 e)

  is_default : (e d : ℕ) → not (e == d) ≡ false → e ≡ d
  is_default e d off = eqb-true e d (double (e == d) off)
    where
      double : (b : Bool) → not b ≡ false → b ≡ true
      double true h = refl
      double false h = cc

  -- one more cell in front of those that give their entries
  module _ (a n i : ℕ) (from : a ≤ i) (to : i < a + suc n) (within : a + suc n ≤ cells ds) where
    abbrev rest : List ℕ
    rest = filter (differs f) (range_with_len (a + 1) n)

    below : AllByRecursion (λ c. c < cells ds) rest
    below = all_filter (λ c. c < cells ds) (differs f) (range_with_len (a + 1) n) (range_below (a + 1) n (cells ds) (omega arith))

    listed_first : (a < i → last_listed ds f.default (map listing rest) i ≡ slice_index f.entries i) → (a ≡ i) ⊎ (a ≢ i) → last_listed ds f.default (map listing (a ∷ rest)) i ≡ slice_index f.entries i
    listed_first later (inl same) =
        keeps rest i (if cell ds (tuple_of ds a) == i then slice_index f.entries a else f.default) below
        (ap (λ (b : Bool). cond b (slice_index f.entries a) f.default) (eq-eqb (cell ds (tuple_of ds a)) i ((numbered ds a (omega arith)).number ∙ same)) ∙ ap (slice_index f.entries) same)
    listed_first later (inr other) =
        ap (λ d. last_listed ds d (map listing rest) i) (passed a i f.default (omega arith) other) ∙ later (omega (arith, other, from))

    not_listed : (a < i → last_listed ds f.default (map listing rest) i ≡ slice_index f.entries i) → differs f a ≡ false → (a ≡ i) ⊎ (a ≢ i) → last_listed ds f.default (map listing rest) i ≡ slice_index f.entries i
    not_listed later off (inl same) = keeps rest i f.default below (sym (is_default (slice_index f.entries a) f.default off) ∙ ap (slice_index f.entries) same)
    not_listed later off (inr other) = later (omega (arith, other, from))

    gives_one : (a < i → last_listed ds f.default (map listing rest) i ≡ slice_index f.entries i) → last_listed ds f.default (map listing (filter (differs f) (range_with_len a (suc n)))) i ≡ slice_index f.entries i
    gives_one later =
        elim (cases_Bool (differs f a)) [
          | inl on ↦ ap (λ cs. last_listed ds f.default (map listing cs) i) (ap (λ (b : Bool). cond b (a ∷ rest) rest) on) ∙ listed_first later (cases_eq a i)
          | inr off ↦ ap (λ cs. last_listed ds f.default (map listing cs) i) (ap (λ (b : Bool). cond b (a ∷ rest) rest) off) ∙ not_listed later off (cases_eq a i)
        ]

  -- from a cell on, the listings give each entry
  gives : (a n i : ℕ) → a ≤ i → i < a + n → a + n ≤ cells ds → last_listed ds f.default (map listing (filter (differs f) (range_with_len a n))) i ≡ slice_index f.entries i
  gives a zero i from to within = absurd (omega arith)
  gives a (suc n) i from to within = gives_one a n i from to within (λ l. gives (a + 1) n i (omega (arith, l)) (omega (arith, to)) (omega (arith, within)))

-- the function of its default and its listings
pub function_is : (sizes : List ℕ) (upper : ℕ) (f : Function) → IsFunction sizes upper f → function_of sizes upper f.scope f.default (map (listing (dims sizes f.scope) f) (listed f)) ≡ f
function_is sizes upper f limits =
    ap₂ (λ d es. record { scope = f.scope; default = d; entries = es }) default (ext_get_or 0 _ _ (len ∙ sym limits.table) each)
  where
    len : length (map (λ c. min upper (last_listed (dims sizes f.scope) f.default (map (listing (dims sizes f.scope) f) (listed f)) c)) (range_with_len 0 (cells (dims sizes f.scope)))) ≡ cells (dims sizes f.scope)
    len = length-map-range_with_len (λ c. min upper (last_listed (dims sizes f.scope) f.default (map (listing (dims sizes f.scope) f) (listed f)) c)) 0 (cells (dims sizes f.scope))

    default : min upper f.default ≡ f.default
    default = let h = limits.default in omega arith

    each : (i : ℕ) → i < length (map (λ c. min upper (last_listed (dims sizes f.scope) f.default (map (listing (dims sizes f.scope) f) (listed f)) c)) (range_with_len 0 (cells (dims sizes f.scope)))) → get_or (map (λ c. min upper (last_listed (dims sizes f.scope) f.default (map (listing (dims sizes f.scope) f) (listed f)) c)) (range_with_len 0 (cells (dims sizes f.scope)))) i 0 ≡ get_or f.entries i 0
    each i l =
        let capped = limits.capped i in
        let value = gives (dims sizes f.scope) f 0 (length f.entries) i (omega arith) (omega (arith, l, len, limits.table)) (omega (arith, limits.table)) in
        get_or-map-range_with_len (λ c. min upper (last_listed (dims sizes f.scope) f.default (map (listing (dims sizes f.scope) f) (listed f)) c)) 0 (cells (dims sizes f.scope)) i i 0 (omega (arith, l, len)) (omega arith)
        ∙ ap (λ e. min upper e) value ∙ cap upper (get_or f.entries i 0) capped
      where
        cap : (upper e : ℕ) → e ≤ upper → min upper e ≡ e
        cap upper e h = omega arith
