-- Reading a whole canonical text.
use Rattle.std.proofs.Common.{◌≡◌, ℕ, suc, ◌+◌, ◌<◌, ◌≤◌, inl, inr, true, false, List, [], ◌∷◌, ◌++◌, length, map, get_or, refl, sym, ap, ◌∙◌, append_assoc, arith, ne_eqb, eqb}
use Rattle.std.specs.Prelude.{Ok, ℤ, pos, decimal, flat_map, fold, max, slice_index, slice_index_or, sum_by}
use Rattle.std.specs.List.{AllByRecursion, list_any, range_with_len}
use Rattle.std.proofs.lemmas.Bool.{or_cases, eqb-true, false≢true}
use Rattle.std.proofs.lemmas.List.{append-nil, get_or_default}
use Rattle.std.proofs.lemmas.List.Concat.{flat_map-append}
use Rattle.std.proofs.lemmas.List.FromFn.{length-range_with_len}
use Rattle.std.proofs.lemmas.List.Sums.{count_by-le-length, length-filter, sum_by-cons}
use Rattle.std.proofs.lemmas.Map.Keys.{IsDistinct-from_apart}
use Rattle.std.proofs.lemmas.Map.Steps.{length-le_from_distinct_below}
use Rattle.std.proofs.Math.Nat.{le-max_left, le-max_right}
use Rattle.cfn_model.specs.declared.limits.TheConstants.{MOST_VARIABLES, MOST_VALUES, MOST_TUPLES, MOST_CELLS}
use Rattle.cfn_model.specs.Network.{Fits, Function, IsFunction, IsNetwork, Network, cells, dims, no_function}
use Rattle.cfn_model.specs.Reading.{Reads, check_cost, check_default, check_functions, check_size, check_variables, table_at, function_from, functions_from, network_at}
use Rattle.cfn_model.specs.Words.{IsWord, greatest, words}
use Rattle.cfn_wcspwrite.specs.Canonical.{canonical, canonical_lines, cell_words, differs, function_lines, function_words, listed, tuple_of}
use Rattle.cfn_wcspwrite.proofs.Wording.{all_append, all_decimals, decimal_word, flat, lines_append, text_words}
use Rattle.cfn_wcspwrite.proofs.Parsing.{Coming, Gets, above, listings_here, natural_here, number_here, passes_cost, passes_count, passes_default, passes_functions, passes_size, passes_variables, place, scope_here, sizes_here}
use Rattle.cfn_wcspwrite.proofs.Tables.{all_filter, function_is, numbered, range_below}

-- ---- facts of each item, from facts by index

pub all_from_index : (P : ℕ → Type 0) (xs : List ℕ) → ((i : ℕ) → i < length xs → P (get_or xs i 0)) → AllByRecursion P xs
all_from_index P [] each = tt
all_from_index P (x ∷ xs) each = (each 0 (omega arith), all_from_index P xs (λ i l. each (suc i) (omega (arith, l))))

pub all_map : (P Q : ℕ → Type 0) (xs : List ℕ) → ((x : ℕ) → P x → Q x) → AllByRecursion P xs → AllByRecursion Q xs
all_map P Q [] weaker all = tt
all_map P Q (x ∷ xs) weaker all = (weaker x all.0, all_map P Q xs weaker all.1)

-- ---- one function

module _ (sizes : List ℕ) (upper : ℕ) (some_sizes : (x : ℕ) → x < length sizes → (0 < slice_index sizes x) × (slice_index sizes x ≤ MOST_VALUES)) (few_sizes : length sizes ≤ MOST_VARIABLES) (capped : upper ≤ greatest) where
  module _ (f : Function) (limits : IsFunction sizes upper f) where
    abbrev ds : List ℕ
    ds = dims sizes f.scope

    apart : (xs : List ℕ) (i j d : ℕ) → i < j → j < length xs → (slice_index xs i ≡ slice_index xs j → ⊥) → eqb (get_or xs i d) (get_or xs j d) ≡ false
    apart xs i j d l m h =
        ne_eqb (get_or xs i d) (get_or xs j d) (λ e. let a = get_or_default xs i d 0 (omega arith) in let b = get_or_default xs j d 0 m in h (cc))

    found : (xs : List ℕ) (n : ℕ) → ((i : ℕ) → i < length xs → slice_index xs i < n) → (q : ℕ) → list_any (eqb q) xs ≡ true → q < n
    found [] n all q h = absurd (false≢true h)
    found (x ∷ xs) n all q h = elim (or_cases (eqb q x) (list_any (eqb q) xs) h) [
      | inl here ↦ (let e = eqb-true q x here in omega (arith, e, all 0 (omega arith)))
      | inr there ↦ found xs n (λ i l. all (suc i) (omega arith)) q there
    ]

    -- a scope has no more variables than there are
    few_places : length f.scope ≤ length sizes
    few_places =
        length-le_from_distinct_below f.scope (length sizes) (IsDistinct-from_apart eqb f.scope (λ i j d l m. apart f.scope i j d l m (limits.different i j l m))) (λ q h. found f.scope (length sizes) limits.variables q h)

    variables : AllByRecursion (λ x. (x < length sizes) × (0 < slice_index sizes x)) f.scope
    variables = all_from_index _ f.scope (λ i l. (limits.variables i l, (some_sizes (slice_index f.scope i) (limits.variables i l)).0))

    dims_small : (xs : List ℕ) → AllByRecursion (λ x. x < length sizes) xs → AllByRecursion (λ s. s ≤ greatest) (dims sizes xs)
    dims_small [] all = tt
    dims_small (x ∷ xs) all = (let h = (some_sizes x all.0).1 in omega (arith, h), dims_small xs all.1)

    small_dims : AllByRecursion (λ s. s ≤ greatest) ds
    small_dims = dims_small f.scope (all_from_index _ f.scope (λ i l. limits.variables i l))

    coming : Coming sizes [] f.scope
    coming = record { variables = variables; different = limits.different; few = limits.few }

    below : AllByRecursion (λ c. c < cells ds) (listed f)
    below = all_filter (λ c. c < cells ds) (differs f) (range_with_len 0 (length f.entries)) (range_below 0 (length f.entries) (cells ds) (omega (arith, limits.table)))

    each_listed : AllByRecursion (λ c. Fits ds (tuple_of ds c) × (slice_index f.entries c ≤ greatest)) (listed f)
    each_listed = all_map (λ c. c < cells ds) _ (listed f) (λ c l. ((numbered ds c l).fits, (let h = limits.capped c in omega (arith, h, capped)))) below

    few_listed : length (listed f) ≤ MOST_TUPLES
    few_listed =
        omega (arith, length-filter (differs f) (range_with_len 0 (length f.entries)), count_by-le-length (differs f) (range_with_len 0 (length f.entries)), length-range_with_len 0 (length f.entries), limits.table, limits.few)

    abbrev lists : List (List ℕ)
    lists = flat_map (cell_words sizes f) (listed f)

    function_words_are : (rest : List (List ℕ)) → function_words f ++ rest ≡ decimal (length f.scope) ∷ (map decimal f.scope ++ decimal f.default ∷ decimal (length (listed f)) ∷ rest)
    function_words_are rest = ap (λ ws. decimal (length f.scope) ∷ ws) (append_assoc (map decimal f.scope) (decimal f.default ∷ decimal (length (listed f)) ∷ []) rest)

    -- its own table, where these functions have shared ones
    table_here : (shared : List Function) (arity : ℤ) (rest : List (List ℕ)) (k : ℕ) → Gets (table_at sizes upper shared arity f.scope f.default (place (decimal (length (listed f)) ∷ (lists ++ rest)) k)) f rest
    unfolding table_at
    table_here shared arity rest k =
        let n = length (listed f) in
        let count = number_here n (lists ++ rest) k (omega (arith, few_listed)) in
        let passes = passes_count sizes shared arity f.scope n (omega (arith, few_listed)) in
        let tuples = listings_here ds (tuple_of ds) (slice_index f.entries) (listed f) rest (k + 1) each_listed small_dims in
        record {
          next = tuples.next;
          is = rw (count, passes, above n 0 (omega arith), tuples.is) (ap (λ g. Ok (g, place rest tuples.next)) (function_is sizes upper f limits));
        }

    pub function_here : (shared : List Function) (so_far : ℕ) (rest : List (List ℕ)) (k : ℕ) → so_far + cells ds ≤ MOST_CELLS → Gets (function_from sizes upper shared so_far (place (function_words f ++ (lists ++ rest)) k)) (f, shared) rest
    unfolding function_from
    function_here shared so_far rest k few =
        let n = length f.scope in
        let arity = number_here n (map decimal f.scope ++ decimal f.default ∷ decimal (length (listed f)) ∷ (lists ++ rest)) k (omega (arith, few_places, few_sizes)) in
        let scope = scope_here sizes [] f.scope (decimal f.default ∷ decimal (length (listed f)) ∷ (lists ++ rest)) (k + 1) few_sizes coming in
        let default = natural_here (check_default (so_far + cells ds)) f.default (decimal (length (listed f)) ∷ (lists ++ rest)) scope.next (let h = limits.default in omega (arith, h, capped)) (passes_default (so_far + cells ds) f.default few) in
        let table = table_here shared (pos n) rest (scope.next + 1) in
        record {
          next = table.next;
          is = ap (λ ws. function_from sizes upper shared so_far (place ws k)) (function_words_are (lists ++ rest)) ∙ rw (arity, scope.is, default, table.is, above n 0 (omega arith)) refl;
        }

    number_words : AllByRecursion IsWord (function_words f)
    number_words = (
      decimal_word (length f.scope) (omega (arith, few_places, few_sizes)),
      all_append (map decimal f.scope) (decimal f.default ∷ decimal (length (listed f)) ∷ [])
          (all_decimals f.scope (all_map (λ x. x < length sizes) _ f.scope (λ x l. omega (arith, l, few_sizes)) (all_from_index _ f.scope (λ i l. limits.variables i l))))
          (decimal_word f.default (let h = limits.default in omega (arith, h, capped)), (decimal_word (length (listed f)) (omega (arith, few_listed)), tt)),
    )

    -- a tuple's values are words
    tuple_words : (ss vs : List ℕ) → Fits ss vs → AllByRecursion (λ s. s ≤ greatest) ss → AllByRecursion (λ n. n ≤ greatest) vs
    tuple_words [] [] fits small = tt
    tuple_words [] (v ∷ vs) fits small = absurd fits
    tuple_words (s ∷ ss) [] fits small = absurd fits
    tuple_words (s ∷ ss) (v ∷ vs) fits small = (omega (arith, fits.0, small.0), tuple_words ss vs fits.1 small.1)

    cells_words : (cs : List ℕ) → AllByRecursion (λ c. Fits ds (tuple_of ds c) × (slice_index f.entries c ≤ greatest)) cs → AllByRecursion (AllByRecursion IsWord) (map (cell_words sizes f) cs)
    cells_words [] all = tt
    cells_words (c ∷ cs) all =
        (all_append (map decimal (tuple_of ds c)) (decimal (slice_index f.entries c) ∷ []) (all_decimals (tuple_of ds c) (tuple_words ds (tuple_of ds c) all.0.0 small_dims)) (decimal_word (slice_index f.entries c) all.0.1, tt), cells_words cs all.1)

    pub function_words_all : AllByRecursion (AllByRecursion IsWord) (function_lines sizes f)
    function_words_all = (number_words, cells_words (listed f) each_listed)

    flat_cells : (cs : List ℕ) → flat (map (cell_words sizes f) cs) ≡ flat_map (cell_words sizes f) cs
    flat_cells [] = refl
    flat_cells (c ∷ cs) = ap (λ ws. cell_words sizes f c ++ ws) (flat_cells cs)

    pub flat_function : flat (function_lines sizes f) ≡ function_words f ++ lists
    flat_function = ap (λ ws. function_words f ++ ws) (flat_cells (listed f))

  -- ---- all functions

  pub functions_here : (fs shared : List Function) (so_far : ℕ) (rest : List (List ℕ)) (k : ℕ) → ((i : ℕ) → i < length fs → IsFunction sizes upper (slice_index_or fs i no_function)) → so_far + sum_by (λ f. cells (dims sizes f.scope)) fs ≤ MOST_CELLS →
      Gets (functions_from sizes upper shared so_far (length fs) (place (flat (flat_map (function_lines sizes) fs) ++ rest) k)) fs rest
  unfolding functions_from
  functions_here [] shared so_far rest k each few = record { next = k; is = refl }
  functions_here (f ∷ fs) shared so_far rest k each few =
      let limits = each 0 (omega arith) in
      let sum = sum_by-cons (λ g. cells (dims sizes g.scope)) f fs in
      let others = flat (flat_map (function_lines sizes) fs) in
      let one = function_here f limits shared so_far (others ++ rest) k (omega (arith, few, sum)) in
      let more = functions_here fs shared (so_far + cells (dims sizes f.scope)) rest one.next (λ i l. each (suc i) (omega (arith, l))) (omega (arith, few, sum)) in
      let parts : flat (function_lines sizes f ++ flat_map (function_lines sizes) fs) ++ rest ≡ function_words f ++ (flat_map (cell_words sizes f) (listed f) ++ (others ++ rest)) =
      ap (λ ws. ws ++ rest) (flat_map-append (λ ws. ws) (function_lines sizes f) (flat_map (function_lines sizes) fs) ∙ ap (λ ws. ws ++ others) (flat_function f limits))
      ∙ append_assoc (function_words f ++ flat_map (cell_words sizes f) (listed f)) others rest
      ∙ append_assoc (function_words f) (flat_map (cell_words sizes f) (listed f)) (others ++ rest) in
      record { next = more.next; is = rw (parts, one.is, more.is) refl }

  pub functions_words_all : (fs : List Function) → ((i : ℕ) → i < length fs → IsFunction sizes upper (slice_index_or fs i no_function)) → AllByRecursion (AllByRecursion IsWord) (flat_map (function_lines sizes) fs)
  functions_words_all [] each = tt
  functions_words_all (f ∷ fs) each =
      lines_append (function_lines sizes f) (flat_map (function_lines sizes) fs) (function_words_all f (each 0 (omega arith))) (functions_words_all fs (λ i l. each (suc i) (omega (arith, l))))

-- ---- the whole

fold_least : (sizes : List ℕ) (a : ℕ) → a ≤ fold max a sizes
fold_least [] a = omega arith
fold_least (s ∷ sizes) a = omega (arith, le-max_left a s, fold_least sizes (max a s))

fold_most : (sizes : List ℕ) (a most : ℕ) → a ≤ most → AllByRecursion (λ s. (0 < s) × (s ≤ most)) sizes → fold max a sizes ≤ most
fold_most [] a most h all = h
fold_most (s ∷ sizes) a most h all = fold_most sizes (max a s) most (let k = all.0.1 in omega (arith, h, k)) all.1

fold_some : (sizes : List ℕ) (most : ℕ) → 0 < length sizes → AllByRecursion (λ s. (0 < s) × (s ≤ most)) sizes → 0 < fold max 0 sizes
fold_some [] most l all = absurd (omega arith)
fold_some (s ∷ sizes) most l all = omega (arith, all.0.0, le-max_right 0 s, fold_least sizes (max 0 s))

module _ (P : Network) (net : IsNetwork P) where
  capped_upper : P.upper ≤ greatest
  capped_upper = let h = net.upper in omega (arith, h)

  sizes_all : AllByRecursion (λ s. (0 < s) × (s ≤ MOST_VALUES)) P.sizes
  sizes_all = all_from_index _ P.sizes net.sizes

  widest_some : 0 < fold max 0 P.sizes
  widest_some = fold_some P.sizes MOST_VALUES net.some sizes_all

  widest_few : fold max 0 P.sizes ≤ MOST_VALUES
  widest_few = fold_most P.sizes 0 MOST_VALUES (omega arith) sizes_all

  abbrev behind : List (List ℕ)
  behind = flat (flat_map (function_lines P.sizes) P.functions)

  all_words : AllByRecursion (AllByRecursion IsWord) (canonical_lines P)
  all_words = (
    (
      net.name,
      (
        decimal_word (length P.sizes) (omega (arith, net.few)),
        (
          decimal_word (fold max 0 P.sizes) (omega (arith, widest_few)),
          (
            decimal_word (length P.functions) (omega (arith, net.few_functions)),
            (decimal_word P.upper capped_upper, tt),
          ),
        ),
      ),
    ),
    (
      all_decimals P.sizes (all_map (λ s. (0 < s) × (s ≤ MOST_VALUES)) _ P.sizes (λ s h. omega (arith, h.1)) sizes_all),
      functions_words_all P.sizes P.upper net.sizes net.few capped_upper P.functions net.functions,
    ),
  )

  canonical_words : words (canonical P) ≡ P.name ∷ decimal (length P.sizes) ∷ decimal (fold max 0 P.sizes) ∷ decimal (length P.functions) ∷ decimal P.upper ∷ (map decimal P.sizes ++ (behind ++ []))
  canonical_words =
      text_words (canonical_lines P) all_words ∙ ap (λ ws. P.name ∷ decimal (length P.sizes) ∷ decimal (fold max 0 P.sizes) ∷ decimal (length P.functions) ∷ decimal P.upper ∷ (map decimal P.sizes ++ ws)) (sym (append-nil behind))

  pub reads_back : Reads (canonical P) P
  unfolding network_at
  reads_back =
      let n = length P.sizes in
      let e = length P.functions in
      let rest = map decimal P.sizes ++ (behind ++ []) in
      let variables = natural_here check_variables n (decimal (fold max 0 P.sizes) ∷ decimal e ∷ decimal P.upper ∷ rest) 2 (omega (arith, net.few)) (passes_variables n net.some net.few) in
      let widest = natural_here check_size (fold max 0 P.sizes) (decimal e ∷ decimal P.upper ∷ rest) 3 (omega (arith, widest_few)) (passes_size (fold max 0 P.sizes) widest_some) in
      let functions = natural_here check_functions e (decimal P.upper ∷ rest) 4 (omega (arith, net.few_functions)) (passes_functions e net.few_functions) in
      let upper = natural_here check_cost P.upper rest 5 capped_upper (passes_cost P.upper) in
      let sizes = sizes_here P.sizes (behind ++ []) 6 sizes_all in
      let fs = functions_here P.sizes P.upper net.sizes net.few capped_upper P.functions [] 0 [] sizes.next net.functions (let h = net.few_cells in omega (arith, h)) in
      rw (canonical_words, variables, widest, functions, upper, sizes.is, fs.is) refl
