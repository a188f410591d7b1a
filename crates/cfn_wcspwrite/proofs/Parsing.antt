-- Reading the words of a canonical text, place by place.
use Rattle.std.proofs.Common.{◌≡◌, ℕ, zero, suc, ◌+◌, ◌*◌, ◌<◌, ◌≤◌, true, false, List, [], ◌∷◌, ◌++◌, length, map, get_or, refl, sym, ap, ◌∙◌, subst, append_assoc, arith, length-append}
use Rattle.std.specs.Prelude.{Option, None, Result, Ok, ℤ, pos, decimal, int_lt, slice_index, ◌==◌, flat_map}
use Rattle.std.specs.List.{AllByRecursion, list_all, list_any}
use Rattle.std.proofs.lemmas.Bool.{le-ltb, ne_eqb, and_parts}
use Rattle.std.proofs.lemmas.List.{append-nil, map-append}
use Rattle.cfn_model.specs.declared.limits.TheConstants.{MOST_VARIABLES, MOST_VALUES, MOST_FUNCTIONS, MOST_TUPLES, MOST_CELLS}
use Rattle.cfn_model.specs.declared.reading.Kind.{Kind}
use Rattle.cfn_model.specs.declared.reading.Refusal.{Refusal}
use Rattle.cfn_model.specs.Network.{Fits, Function, cells, dims}
use Rattle.cfn_model.specs.Reading.{At, check_cost, check_count, check_default, check_domain, check_functions, check_size, check_value, check_variable, check_variables, listing_at, listings_at, natural_at, number_at, scope_from, sizes_at, tuple_at}
use Rattle.cfn_model.specs.Words.{digits_behind, greatest, has_minus, is_digit, is_empty, magnitude_of, number_of}
use Rattle.cfn_net.proofs.CallerLemmas.{mul-pos, product_below}
use Rattle.cfn_wcspwrite.proofs.Wording.{decimal_digits, decimal_some, decimal_value}

-- ---- a number

-- digits have no minus in front
no_minus : (ds : List ℕ) → 0 < length ds → list_all is_digit ds ≡ true → (magnitude_of ds ≡ ds) × (has_minus ds ≡ false) × (is_empty ds ≡ false)
no_minus [] some all = absurd (omega arith)
no_minus (b ∷ ds) some all =
    let first = (and_parts (is_digit b) (list_all is_digit ds) all).0 in
    let ne : (b == 45) ≡ false = other b first in
    (rw ne refl, ne, refl)
  where
    other : (b : ℕ) → is_digit b ≡ true → (b == 45) ≡ false
    other b e = ne_eqb b 45 (λ same. clash b same e)
      where
        clash : (b : ℕ) → b ≡ 45 → is_digit b ≡ true → ⊥
        clash b same e = let no : false ≡ true = sym (ap is_digit same) ∙ e in cc

number_is : (word : List ℕ) (n : ℕ) → magnitude_of word ≡ word → has_minus word ≡ false → is_empty word ≡ false → list_all is_digit word ≡ true → digits_behind 0 word ≡ n → n ≤ greatest → number_of word ≡ Ok (pos n)
number_is word n same plain some digits value h = rw (same, some, digits, value, le-ltb greatest n h, plain) refl

pub decimal_number : (n : ℕ) → n ≤ greatest → number_of (decimal n) ≡ Ok (pos n)
decimal_number n h =
    let m = no_minus (decimal n) (decimal_some n h) (decimal_digits n h) in
    number_is (decimal n) n m.0 m.1 m.2 (decimal_digits n h) (decimal_value n h) h

-- the words at a place
abbrev pub place : List (List ℕ) → ℕ → At
place words next = record { words = words; next = next }

pub number_here : (n : ℕ) (rest : List (List ℕ)) (k : ℕ) → n ≤ greatest → number_at (place (decimal n ∷ rest) k) ≡ Ok (pos n, place rest (k + 1))
number_here n rest k h = rw (decimal_number n h) refl

pub natural_here : (check : ℤ → Option Kind) (n : ℕ) (rest : List (List ℕ)) (k : ℕ) → n ≤ greatest → check (pos n) ≡ None → natural_at check (place (decimal n ∷ rest) k) ≡ Ok (n, place rest (k + 1))
unfolding natural_at
natural_here check n rest k h passes = rw (decimal_number n h, passes) refl

-- ---- the checks

pub above : (a b : ℕ) → b ≤ a → int_lt (pos a) (pos b) ≡ false
above a b h = le-ltb a b h

pub passes_variables : (n : ℕ) → 0 < n → n ≤ MOST_VARIABLES → check_variables (pos n) ≡ None
passes_variables n some few = rw (above n 1 some, above MOST_VARIABLES n few) refl

pub passes_size : (n : ℕ) → 0 < n → check_size (pos n) ≡ None
passes_size n some = rw (above n 0 (omega arith), above n 1 some) refl

pub passes_functions : (n : ℕ) → n ≤ MOST_FUNCTIONS → check_functions (pos n) ≡ None
passes_functions n few = rw (above n 0 (omega arith), above MOST_FUNCTIONS n few) refl

pub passes_cost : (n : ℕ) → check_cost (pos n) ≡ None
passes_cost n = rw (above n 0 (omega arith)) refl

pub passes_domain : (n : ℕ) → 0 < n → n ≤ MOST_VALUES → check_domain (pos n) ≡ None
passes_domain n some few = rw (above n 0 (omega arith), above n 1 some, above MOST_VALUES n few) refl

pub passes_count : (sizes : List ℕ) (shared : List Function) (arity : ℤ) (scope : List ℕ) (n : ℕ) → n ≤ MOST_CELLS → check_count sizes shared arity scope (pos n) ≡ None
passes_count sizes shared arity scope n few = rw (above n 0 (omega arith), above MOST_CELLS n few) refl

pub passes_value : (size n : ℕ) → n < size → check_value size (pos n) ≡ None
passes_value size n less = rw (above n 0 (omega arith), above size (suc n) less) refl

pub passes_default : (all n : ℕ) → all ≤ MOST_CELLS → check_default all (pos n) ≡ None
passes_default all n few = rw (above n 0 (omega arith), le-ltb MOST_CELLS all few) refl

pub passes_variable : (sizes scope : List ℕ) (x : ℕ) → x < length sizes → list_any (λ y. y == x) scope ≡ false → cells (dims sizes scope) * slice_index sizes x ≤ MOST_TUPLES → check_variable sizes scope (pos x) ≡ None
passes_variable sizes scope x less fresh few =
    rw (above x 0 (omega arith), above (length sizes) (suc x) less, fresh, le-ltb MOST_TUPLES (cells (dims sizes scope) * slice_index sizes x) few) refl

-- ---- what is read at a place, and the words behind it

pub record Gets {A : Type 0} (read : Result (A × At) Refusal) (value : A) (rest : List (List ℕ)) : Type 0 where
  pub next : ℕ
  pub is : read ≡ Ok (value, place rest next)

pub sizes_here : (sizes : List ℕ) (rest : List (List ℕ)) (k : ℕ) → AllByRecursion (λ s. (0 < s) × (s ≤ MOST_VALUES)) sizes → Gets (sizes_at (length sizes) (place (map decimal sizes ++ rest) k)) sizes rest
unfolding sizes_at
sizes_here [] rest k all = record { next = k; is = refl }
sizes_here (s ∷ sizes) rest k all =
    let one = natural_here check_domain s (map decimal sizes ++ rest) k (omega (arith, all.0.1)) (passes_domain s all.0.0 all.0.1) in
    let more = sizes_here sizes rest (k + 1) all.1 in
    record { next = more.next; is = rw (one, more.is) refl }

pub tuple_here : (sizes tuple : List ℕ) (rest : List (List ℕ)) (k : ℕ) → Fits sizes tuple → AllByRecursion (λ s. s ≤ greatest) sizes → Gets (tuple_at sizes (place (map decimal tuple ++ rest) k)) tuple rest
unfolding tuple_at
tuple_here [] [] rest k fits small = record { next = k; is = refl }
tuple_here [] (v ∷ tuple) rest k fits small = absurd fits
tuple_here (s ∷ sizes) [] rest k fits small = absurd fits
tuple_here (s ∷ sizes) (v ∷ tuple) rest k fits small =
    let one = natural_here (check_value s) v (map decimal tuple ++ rest) k (omega (arith, fits.0, small.0)) (passes_value s v fits.0) in
    let more = tuple_here sizes tuple rest (k + 1) fits.1 small.1 in
    record { next = more.next; is = rw (one, more.is) refl }

pub listing_here : (sizes tuple : List ℕ) (amount : ℕ) (rest : List (List ℕ)) (k : ℕ) → Fits sizes tuple → AllByRecursion (λ s. s ≤ greatest) sizes → amount ≤ greatest → Gets (listing_at sizes (place ((map decimal tuple ++ decimal amount ∷ []) ++ rest) k)) (tuple, amount) rest
unfolding listing_at
listing_here sizes tuple amount rest k fits small h =
    let values = tuple_here sizes tuple (decimal amount ∷ rest) k fits small in
    let one = natural_here check_cost amount rest values.next h (passes_cost amount) in
    record {
      next = values.next + 1;
      is = rw (append_assoc (map decimal tuple) (decimal amount ∷ []) rest, values.is, one) refl;
    }

-- so many listings, one for each cell
module _ (sizes : List ℕ) (tuple_at_cell : ℕ → List ℕ) (amount : ℕ → ℕ) where
  abbrev pub words_at : ℕ → List (List ℕ)
  words_at c = map decimal (tuple_at_cell c) ++ decimal (amount c) ∷ []

  pub listings_here : (cs : List ℕ) (rest : List (List ℕ)) (k : ℕ) → AllByRecursion (λ c. Fits sizes (tuple_at_cell c) × (amount c ≤ greatest)) cs → AllByRecursion (λ s. s ≤ greatest) sizes → Gets (listings_at sizes (length cs) (place (flat_map words_at cs ++ rest) k)) (map (λ c. (tuple_at_cell c, amount c)) cs) rest
  unfolding listings_at
  listings_here [] rest k all small = record { next = k; is = refl }
  listings_here (c ∷ cs) rest k all small =
      let one = listing_here sizes (tuple_at_cell c) (amount c) (flat_map words_at cs ++ rest) k all.0.0 small all.0.1 in
      let more = listings_here cs rest one.next all.1 small in
      record {
        next = more.next;
        is = rw (append_assoc (words_at c) (flat_map words_at cs) rest, one.is, more.is) refl;
      }

-- ---- a scope

-- a variable that stands behind others of its scope is another one than each of them
fresh : (x : ℕ) (front : List ℕ) → ((i : ℕ) → i < length front → get_or front i 0 ≡ x → ⊥) → list_any (λ y. y == x) front ≡ false
fresh x [] other = refl
fresh x (y ∷ front) other = rw (ne_eqb y x (other 0 (omega arith)), fresh x front (λ i l. other (suc i) (omega (arith, l)))) refl

cells-append : (first rest : List ℕ) → cells (first ++ rest) ≡ cells first * cells rest
cells-append [] rest = omega arith
cells-append (s ∷ first) rest = ap (λ n. s * n) (cells-append first rest) ∙ regroup s (cells first) (cells rest)
  where
    regroup : (a b c : ℕ) → a * (b * c) ≡ a * b * c
    regroup a b c = grind arith

-- the variables of a scope that are still to come, behind those that it has so far
pub record Coming (sizes front more : List ℕ) : Type 0 where
  pub variables : AllByRecursion (λ x. (x < length sizes) × (0 < slice_index sizes x)) more
  pub different : (place other : ℕ) → place < other → other < length (front ++ more) → get_or (front ++ more) place 0 ≡ get_or (front ++ more) other 0 → ⊥
  pub few : cells (dims sizes (front ++ more)) ≤ MOST_TUPLES

cells_some : (sizes more : List ℕ) → AllByRecursion (λ x. (x < length sizes) × (0 < slice_index sizes x)) more → 0 < cells (dims sizes more)
cells_some sizes [] all = omega arith
cells_some sizes (x ∷ more) all = mul-pos (slice_index sizes x) (cells (dims sizes more)) all.0.1 (cells_some sizes more all.1)

at_seam : (front more : List ℕ) (x : ℕ) → get_or (front ++ x ∷ more) (length front) 0 ≡ x
at_seam [] more x = refl
at_seam (y ∷ front) more x = at_seam front more x

in_front : (front more : List ℕ) (i : ℕ) → i < length front → get_or (front ++ more) i 0 ≡ get_or front i 0
in_front [] more i l = absurd (omega arith)
in_front (y ∷ front) more zero l = refl
in_front (y ∷ front) more (suc i) l = in_front front more i (omega arith)

module _ (sizes front : List ℕ) (x : ℕ) (more : List ℕ) (coming : Coming sizes front (x ∷ more)) where
  is_fresh : list_any (λ y. y == x) front ≡ false
  is_fresh = fresh x front (λ i l e.
      coming.different i (length front) l (omega (arith, length-append front (x ∷ more))) (in_front front (x ∷ more) i l ∙ e ∙ sym (at_seam front more x)))

  is_narrow : cells (dims sizes front) * slice_index sizes x ≤ MOST_TUPLES
  is_narrow =
      let parts : cells (dims sizes front) * (slice_index sizes x * cells (dims sizes more)) ≡ cells (dims sizes (front ++ x ∷ more)) =
      sym (ap cells (map-append (slice_index sizes) front (x ∷ more)) ∙ cells-append (dims sizes front) (dims sizes (x ∷ more))) in
      let rest = cells_some sizes more coming.variables.1 in
      let part = product_below (cells (dims sizes front) * slice_index sizes x) (cells (dims sizes more)) (cells (dims sizes (front ++ x ∷ more))) rest (regroup (cells (dims sizes front)) (slice_index sizes x) (cells (dims sizes more)) ∙ parts) in
      omega (arith, part, coming.few)
    where
      regroup : (a b c : ℕ) → a * b * c ≡ a * (b * c)
      regroup a b c = grind arith

  still_coming : Coming sizes (front ++ x ∷ []) more
  still_coming =
      let same : front ++ x ∷ more ≡ (front ++ x ∷ []) ++ more = sym (append_assoc front (x ∷ []) more) in
      record {
        variables = coming.variables.1;
        different = subst (λ (xs : List ℕ). (place other : ℕ) → place < other → other < length xs → get_or xs place 0 ≡ get_or xs other 0 → ⊥) same coming.different;
        few = subst (λ (xs : List ℕ). cells (dims sizes xs) ≤ MOST_TUPLES) same coming.few;
      }

pub scope_here : (sizes front more : List ℕ) (rest : List (List ℕ)) (k : ℕ) → length sizes ≤ MOST_VARIABLES → Coming sizes front more → Gets (scope_from sizes front (length more) (place (map decimal more ++ rest) k)) (front ++ more) rest
unfolding scope_from
scope_here sizes front [] rest k few coming = record { next = k; is = ap (λ xs. Ok (xs, place rest k)) (sym (append-nil front)) }
scope_here sizes front (x ∷ more) rest k few coming =
    let one = natural_here (check_variable sizes front) x (map decimal more ++ rest) k (omega (arith, few, coming.variables.0.0)) (passes_variable sizes front x coming.variables.0.0 (is_fresh sizes front x more coming) (is_narrow sizes front x more coming)) in
    let others = scope_here sizes (front ++ x ∷ []) more rest (k + 1) few (still_coming sizes front x more coming) in
    record { next = others.next; is = rw (one, others.is) (ap (λ xs. Ok (xs, place rest others.next)) (append_assoc front (x ∷ []) more)) }
