-- What reads is a network: each limit is kept by the check of its place.
use Rattle.std.proofs.Common.{◌≡◌, ℕ, zero, suc, ◌+◌, ◌-◌, ◌*◌, ◌<◌, ◌≤◌, ◌⊎◌, inl, inr, min, Bool, true, false, not, ◌&&◌, ◌||◌, cond, List, [], ◌∷◌, ◌++◌, length, map, get_or, Result, Ok, Err, Option, Some, None, ltb, refl, sym, ap, subst, ◌∙◌, arith}
use Rattle.std.proofs.lemmas.Bool.{cases_lt, ltb-false, le-ltb, leb-true, eq-eqb, and_parts}
use Rattle.std.proofs.lemmas.List.{get_or_append_left, get_or_push, length_push, map_push, get_or_past}
use Rattle.std.proofs.lemmas.Slice.Eq.{bytes_eq-Decides}
use Rattle.std.proofs.lemmas.List.Folds.{list_any_at}
use Rattle.std.proofs.lemmas.List.Sums.{sum_by-cons}
use Rattle.std.proofs.lemmas.List.FromFn.{length-map-range_with_len, get_or-map-range_with_len}
use Rattle.std.proofs.Math.Nat.{mul_assoc}
use Rattle.std.specs.Prelude.{ℤ, pos, negsuc, neg_ℤ, int_lt, nat_eq, nat_le, nat_lt, unsigned_abs, ◌==◌, if◌then◌else◌, slice_index, slice_index_or, sum_by}
use Rattle.std.specs.List.{list_any, range_with_len}
use Rattle.std.specs.Cmp.Lexicographic.{pointwise}
use Rattle.cfn_model.specs.declared.limits.TheConstants.{MOST_VARIABLES, MOST_VALUES, MOST_FUNCTIONS, MOST_TUPLES, MOST_CELLS}
use Rattle.cfn_model.specs.declared.reading.NumberFault.{NumberFault}
use Rattle.cfn_model.specs.declared.reading.NumberFault.TheVariants as faults
use Rattle.cfn_model.specs.declared.reading.Kind.{Kind}
use Rattle.cfn_model.specs.declared.reading.Kind.TheVariants.{NegativeCost, Keyword, SharedTable, VariableOutOfRange, RepeatedVariable, TableTooWide, TooMany}
use Rattle.cfn_model.specs.declared.reading.Refusal.{Refusal}
use Rattle.cfn_model.specs.Network.{Function, IsFunction, IsNetwork, cells, dims, last_listed, function_of, no_function}
use Rattle.cfn_model.specs.Words.{is_space, begins_word, with_first, words, IsWord, greatest, is_number, has_minus, magnitude, number_of}
use Rattle.cfn_model.specs.Reading.{◌>>=◌, At, unless_refused, first_word, word_at, number_in, number_at, natural_at, check_variables, check_functions, check_cost, check_size, check_domain, check_variable, check_default, shared_table, can_share, check_count, sizes_at, scope_from, listings_at, own_table, table_at, function_from, functions_from, network_at}
use Rattle.cfn_model.specs.Laws.{ReadNetworks}

-- what does not fail, did not fail at its first part
bind_ok : {A B : Type 0} (r : Result A Refusal) (f : A → Result B Refusal) (y : B) → (r >>= f) ≡ Ok y → (x : A) × (r ≡ Ok x) × (f x ≡ Ok y)
bind_ok (Ok x) f y e = (x, refl, e)
bind_ok (Err d) f y e = absurd cc

abbrev succeeded : {A : Type 0} → A → Result A Refusal
succeeded x = Ok x

abbrev numeral : ℤ → Result ℤ NumberFault
numeral z = Ok z

ok_is : {A : Type 0} (x y : A) → succeeded x ≡ succeeded y → x ≡ y
ok_is x y e = cc

-- the first word of a text is one word, and begins with its first byte
abbrev FirstIsWord : List (List ℕ) → Type 0
FirstIsWord [] = Unit {0}
FirstIsWord (word ∷ others) = IsWord word × (begins_word word ≡ true)

pub first_is_word : (bytes : List ℕ) → FirstIsWord (words bytes)
first_is_word [] = tt
first_is_word (b ∷ bytes) = by_space (is_space b) (begins_word bytes) refl (first_is_word bytes)
  where
    letter : is_space b ≡ false → begins_word (b ∷ []) ≡ true
    letter e = rw e refl

    longer : (ws : List (List ℕ)) → is_space b ≡ false → FirstIsWord ws → FirstIsWord (with_first b ws)
    longer [] e h = (rw e refl, letter e)
    longer (w ∷ ws) e h = (rw (e, h.1, h.0) refl, rw e refl)

    by_space : (space word : Bool) → is_space b ≡ space → FirstIsWord (words bytes)
        → FirstIsWord (if space then words bytes else (if word then with_first b (words bytes) else (b ∷ []) ∷ words bytes))
    by_space true word e rest = rest
    by_space false true e rest = longer (words bytes) e rest
    by_space false false e rest = (rw e refl, letter e)

-- a number that is read is at most the greatest
size_of : (minus : Bool) (n : ℕ) → unsigned_abs (if minus then neg_ℤ (pos n) else pos n) ≡ n
size_of true zero = refl
size_of true (suc n) = refl
size_of false n = refl

read_number : (word : List ℕ) (z : ℤ) → number_of word ≡ Ok z → unsigned_abs z ≤ greatest
read_number word z e = by_tests (not (is_number word)) (nat_lt greatest (magnitude word)) refl e
  where
    by_tests : (other large : Bool) → nat_lt greatest (magnitude word) ≡ large
        → (if other then Err faults.NotNumber else (if large then Err faults.TooLarge else Ok (if has_minus word then neg_ℤ (pos (magnitude word)) else pos (magnitude word)))) ≡ Ok z → unsigned_abs z ≤ greatest
    by_tests true large t e = absurd cc
    by_tests false true t e = absurd cc
    by_tests false false t e = subst (λ y. unsigned_abs y ≤ greatest) (same _ z e) (omega (arith, ltb-false greatest (magnitude word) t, size_of (has_minus word) (magnitude word)))
      where
        same : (x y : ℤ) → numeral x ≡ numeral y → x ≡ y
        same x y e = cc

in_number : (read : Result ℤ NumberFault) (n : ℕ) (z : ℤ) → number_in read n ≡ Ok z → read ≡ Ok z
in_number (Ok y) n z e = cc
in_number (Err faults.NotNumber) n z e = absurd cc
in_number (Err faults.TooLarge) n z e = absurd cc

-- a number that is read passes the checks of its place
record Passes (check : ℤ → Option Kind) (n : ℕ) : Type 0 where
  pub number : ℤ
  pub passes : check number ≡ None
  pub is : unsigned_abs number ≡ n
  pub most : n ≤ greatest

not_refused : {A : Type 0} (fault : Option Kind) (n : ℕ) (x y : A) → unless_refused fault n x ≡ Ok y → (fault ≡ None) × (x ≡ y)
not_refused None n x y e = (refl, ok_is x y e)
not_refused (Some kind) n x y e = absurd cc

number_read : (s : At) (got : ℤ × At) → number_at s ≡ Ok got → unsigned_abs got.0 ≤ greatest
number_read s got e =
    let word = bind_ok (word_at s) _ got e in
    let number = bind_ok (number_in (number_of word.0.0) s.next) _ got word.2 in
    let is : number.0 ≡ got.0 = ap (λ (p : ℤ × At). p.0) (ok_is (number.0, word.0.1) got number.2) in
    subst (λ z. unsigned_abs z ≤ greatest) is (read_number word.0.0 number.0 (in_number (number_of word.0.0) s.next number.0 number.1))

read_at : (check : ℤ → Option Kind) (s : At) (got : ℕ × At) → natural_at check s ≡ Ok got → Passes check got.0
unfolding natural_at
read_at check s got e =
    let z = bind_ok (number_at s) _ got e in
    let passed = not_refused (check z.0.0) s.next (unsigned_abs z.0.0, z.0.1) got z.2 in
    let is : unsigned_abs z.0.0 ≡ got.0 = ap (λ (p : ℕ × At). p.0) passed.1 in
    record { number = z.0.0; passes = passed.0; is = is; most = omega (arith, is, number_read s z.0 z.1) }

two_pass : (a b : Bool) (k l : Kind) → cond a (Some k) (cond b (Some l) None) ≡ None → (a ≡ false) × (b ≡ false)
two_pass true b k l e = absurd cc
two_pass false true k l e = absurd cc
two_pass false false k l e = (refl, refl)

three_pass : (a b c : Bool) (k l m : Kind) → cond a (Some k) (cond b (Some l) (cond c (Some m) None)) ≡ None → (a ≡ false) × (b ≡ false) × (c ≡ false)
three_pass true b c k l m e = absurd cc
three_pass false true c k l m e = absurd cc
three_pass false false true k l m e = absurd cc
three_pass false false false k l m e = (refl, refl, refl)

-- what the checks of each place say
variables_pass : (z : ℤ) → check_variables z ≡ None → (0 < unsigned_abs z) × (unsigned_abs z ≤ MOST_VARIABLES)
variables_pass (pos n) e = let h = two_pass (ltb n 1) (ltb MOST_VARIABLES n) _ _ e in (omega (arith, ltb-false n 1 h.0), ltb-false MOST_VARIABLES n h.1)
variables_pass (negsuc n) e = absurd cc

functions_pass : (z : ℤ) → check_functions z ≡ None → unsigned_abs z ≤ MOST_FUNCTIONS
functions_pass (pos n) e = let h = two_pass (ltb n 0) (ltb MOST_FUNCTIONS n) _ _ e in ltb-false MOST_FUNCTIONS n h.1
functions_pass (negsuc n) e = absurd cc

domain_passes : (z : ℤ) → check_domain z ≡ None → (0 < unsigned_abs z) × (unsigned_abs z ≤ MOST_VALUES)
domain_passes (pos n) e = let h = three_pass (ltb n 0) (ltb n 1) (ltb MOST_VALUES n) _ _ _ e in (omega (arith, ltb-false n 1 h.1), ltb-false MOST_VALUES n h.2)
domain_passes (negsuc n) e = absurd cc

default_passes : (all : ℕ) (z : ℤ) → check_default all z ≡ None → all ≤ MOST_CELLS
default_passes all z e = let h = three_pass (int_lt (negsuc 1) z && int_lt z (pos 0)) (int_lt z (pos 0)) (ltb MOST_CELLS all) Keyword NegativeCost TooMany e in ltb-false MOST_CELLS all h.2

record FitsScope (sizes scope : List ℕ) (x : ℕ) : Type 0 where
  pub in_range : x < length sizes
  pub fresh : list_any (λ y. y == x) scope ≡ false
  pub few : cells (dims sizes scope) * slice_index sizes x ≤ MOST_TUPLES

or_none : (a b : Bool) → (a || b) ≡ false → b ≡ false
or_none true b e = absurd cc
or_none false b e = e

variable_passes : (sizes scope : List ℕ) (z : ℤ) → check_variable sizes scope z ≡ None → FitsScope sizes scope (unsigned_abs z)
variable_passes sizes scope z e =
    let x = unsigned_abs z in
    let h = three_pass (int_lt z (pos 0) || ltb (length sizes) (suc x)) (list_any (λ y. y == x) scope) (ltb MOST_TUPLES (cells (dims sizes scope) * slice_index sizes x)) VariableOutOfRange RepeatedVariable TableTooWide e in
    record {
      in_range = omega (arith, ltb-false (length sizes) (suc x) (or_none (int_lt z (pos 0)) (ltb (length sizes) (suc x)) h.0));
      fresh = h.1;
      few = ltb-false MOST_TUPLES (cells (dims sizes scope) * slice_index sizes x) h.2;
    }

-- so many domain sizes
AreSizes : ℕ → List ℕ → Type 0
AreSizes n sizes = (length sizes ≡ n) × ((x : ℕ) → x < n → (0 < slice_index sizes x) × (slice_index sizes x ≤ MOST_VALUES))

sizes_kept : (n : ℕ) (s : At) (got : List ℕ × At) → sizes_at n s ≡ Ok got → AreSizes n got.0
unfolding sizes_at AreSizes
sizes_kept zero s got e = let is : [] ≡ got.0 = ap (λ (p : List ℕ × At). p.0) (ok_is ([], s) got e) in subst (λ sizes. AreSizes 0 sizes) is (refl, λ x lt. absurd (omega arith))
sizes_kept (suc n) s got e =
    let size = bind_ok (natural_at check_domain s) _ got e in
    let sizes = bind_ok (sizes_at n size.0.1) _ got size.2 in
    let is : size.0.0 ∷ sizes.0.0 ≡ got.0 = ap (λ (p : List ℕ × At). p.0) (ok_is (size.0.0 ∷ sizes.0.0, sizes.0.1) got sizes.2) in
    let one = read_at check_domain s size.0 size.1 in
    let range = domain_passes one.number one.passes in
    let kept = sizes_kept n size.0.1 sizes.0 sizes.1 in
    subst (λ sizes. AreSizes (suc n) sizes) is (ap suc kept.0, by_place size.0.0 sizes.0.0 (omega (arith, one.is, range.0), omega (arith, one.is, range.1)) kept.1)
  where
    by_place : (size : ℕ) (sizes : List ℕ) → (0 < size) × (size ≤ MOST_VALUES) → ((x : ℕ) → x < n → (0 < slice_index sizes x) × (slice_index sizes x ≤ MOST_VALUES))
        → (x : ℕ) → x < suc n → (0 < slice_index (size ∷ sizes) x) × (slice_index (size ∷ sizes) x ≤ MOST_VALUES)
    by_place size sizes range kept zero lt = range
    by_place size sizes range kept (suc x) lt = kept x (omega arith)

-- a scope of different variables, with few tuples
record IsScope (sizes scope : List ℕ) : Type 0 where
  pub variables : (place : ℕ) → place < length scope → slice_index scope place < length sizes
  pub different : (place other : ℕ) → place < other → other < length scope → slice_index scope place ≡ slice_index scope other → ⊥
  pub few : cells (dims sizes scope) ≤ MOST_TUPLES

cells-push : (ds : List ℕ) (d : ℕ) → cells (ds ++ d ∷ []) ≡ cells ds * d
cells-push [] d = omega arith
cells-push (e ∷ ds) d = ap (λ n. e * n) (cells-push ds d) ∙ sym (mul_assoc e (cells ds) d)

absent : (scope : List ℕ) (x place : ℕ) → list_any (λ y. y == x) scope ≡ false → place < length scope → slice_index scope place ≡ x → ⊥
absent scope x place fresh lt e =
    let there : list_any (λ y. y == x) scope ≡ true = list_any_at (λ y. y == x) scope place 0 lt (eq-eqb (slice_index scope place) x e) in
    let clash = sym there ∙ fresh in cc

one_more : (sizes scope : List ℕ) (x : ℕ) → IsScope sizes scope → FitsScope sizes scope x → IsScope sizes (scope ++ x ∷ [])
one_more sizes scope x is fits = record {
  variables = λ place lt. elim (cases_lt place (length scope)) [
    | inl before ↦ rw (get_or_append_left scope (x ∷ []) 0 place before) (is.variables place before)
    | inr behind ↦ let here : length scope ≡ place = omega (arith, length_push scope x) in rw (get_or_push scope x 0 place here) fits.in_range
  ];
  different = λ place other before lt. elim (cases_lt other (length scope)) [
    | inl both ↦ let one : place < length scope = omega arith in rw (get_or_append_left scope (x ∷ []) 0 place one, get_or_append_left scope (x ∷ []) 0 other both) (is.different place other before both)
    | inr last ↦ let here : length scope ≡ other = omega (arith, length_push scope x) in let one : place < length scope = omega arith in rw (get_or_append_left scope (x ∷ []) 0 place one, get_or_push scope x 0 other here) (absent scope x place fits.fresh one)
  ];
  few = rw (map_push (slice_index sizes) scope x, cells-push (dims sizes scope) (slice_index sizes x)) fits.few;
}

scope_kept : (sizes scope : List ℕ) (n : ℕ) (s : At) (got : List ℕ × At) → IsScope sizes scope → scope_from sizes scope n s ≡ Ok got → IsScope sizes got.0
unfolding scope_from
scope_kept sizes scope zero s got is e = subst (λ (p : List ℕ × At). IsScope sizes p.0) (ok_is (scope, s) got e) is
scope_kept sizes scope (suc n) s got is e =
    let x = bind_ok (natural_at (check_variable sizes scope) s) _ got e in
    let one = read_at (check_variable sizes scope) s x.0 x.1 in
    let fits = subst (λ x. FitsScope sizes scope x) one.is (variable_passes sizes scope one.number one.passes) in
    scope_kept sizes (scope ++ x.0.0 ∷ []) n x.0.1 got (one_more sizes scope x.0.0 is fits) x.2

-- a function of a scope and listings
function_kept : (sizes : List ℕ) (upper : ℕ) (scope : List ℕ) (default : ℕ) (listings : List (List ℕ × ℕ)) → IsScope sizes scope → IsFunction sizes upper (function_of sizes upper scope default listings)
function_kept sizes upper scope default listings is =
    let amount : ℕ → ℕ = λ c. min upper (last_listed (dims sizes scope) default listings c) in
    let n = cells (dims sizes scope) in
    record {
      variables = is.variables;
      different = is.different;
      few = is.few;
      default = omega arith;
      table = length-map-range_with_len amount 0 n;
      capped = λ c. capped_at (last_listed (dims sizes scope) default listings) n c (cases_lt c n);
    }
  where
    capped_at : (amount : ℕ → ℕ) (n c : ℕ) → (c < n) ⊎ (n ≤ c) → get_or (map (λ c. min upper (amount c)) (range_with_len 0 n)) c 0 ≤ upper
    capped_at amount n c (inl l) = omega (arith, get_or-map-range_with_len (λ c. min upper (amount c)) 0 n c c 0 l (omega arith))
    capped_at amount n c (inr l) = omega (arith, get_or_past (map (λ c. min upper (amount c)) (range_with_len 0 n)) c 0 (omega (arith, length-map-range_with_len (λ c. min upper (amount c)) 0 n)))

-- each function of some
AreKept : List ℕ → ℕ → List Function → Type 0
AreKept sizes upper fs = (f : ℕ) → f < length fs → IsFunction sizes upper (slice_index_or fs f no_function)

-- a function that has the table of a function of the same domain sizes
other_scope_kept : (sizes : List ℕ) (upper : ℕ) (f : Function) (scope : List ℕ) → IsFunction sizes upper f → IsScope sizes scope → dims sizes f.scope ≡ dims sizes scope → IsFunction sizes upper (record f { scope = scope })
other_scope_kept sizes upper f scope kept is same = record {
  variables = is.variables;
  different = is.different;
  few = is.few;
  default = kept.default;
  table = kept.table ∙ ap cells same;
  capped = kept.capped;
}

-- what the check of a shared table's number says
record Shares (sizes : List ℕ) (shared : List Function) (scope : List ℕ) (j : ℕ) : Type 0 where
  pub there : j ≤ length shared
  pub same : dims sizes (shared_table shared j).scope ≡ dims sizes scope

only_if : (can rest : Bool) (k l : Kind) → cond (true && not can) (Some k) (cond rest (Some l) None) ≡ None → can ≡ true
only_if true rest k l e = refl
only_if false rest k l e = absurd cc

count_passes : (sizes : List ℕ) (shared : List Function) (arity : ℤ) (scope : List ℕ) (n : ℕ) → check_count sizes shared arity scope (negsuc n) ≡ None → Shares sizes shared scope (suc n)
count_passes sizes shared arity scope n e =
    let same = pointwise nat_eq (dims sizes (shared_table shared (suc n)).scope) (dims sizes scope) in
    let can = only_if (can_share sizes shared arity scope (suc n)) (int_lt (pos MOST_CELLS) (negsuc n)) SharedTable TooMany e in
    let parts = and_parts (nat_le (suc n) (length shared)) same (and_parts (not (int_lt arity (pos 0))) (nat_le (suc n) (length shared) && same) can).1 in
    record { there = leb-true (suc n) (length shared) parts.0; same = (bytes_eq-Decides (dims sizes (shared_table shared (suc n)).scope) (dims sizes scope)).0 parts.1 }

-- a function that was read has the scope that was read
IsOver : List ℕ → ℕ → List ℕ → Function → Type 0
IsOver sizes upper scope f = IsFunction sizes upper f × (f.scope ≡ scope)

table_read : (sizes : List ℕ) (upper : ℕ) (shared : List Function) (arity : ℤ) (scope : List ℕ) (default : ℕ) (s : At) (got : Function × At) → AreKept sizes upper shared → IsScope sizes scope
    → table_at sizes upper shared arity scope default s ≡ Ok got → IsOver sizes upper scope got.0
unfolding table_at AreKept IsOver
table_read sizes upper shared arity scope default s got kept is e =
    let number = bind_ok (number_at s) _ got e in
    let count = bind_ok (unless_refused (check_count sizes shared arity scope number.0.0) s.next number.0.0) _ got number.2 in
    let passed = not_refused (check_count sizes shared arity scope number.0.0) s.next number.0.0 count.0 count.1 in
    by_sign count.0 number.0.1 (subst (λ z. check_count sizes shared arity scope z ≡ None) passed.1 passed.0) count.2
  where
    by_sign : (z : ℤ) (after : At) → check_count sizes shared arity scope z ≡ None
        → (if int_lt z (pos 0) then Ok (record (shared_table shared (unsigned_abs z)) { scope = scope }, after)
        else own_table sizes upper scope default (unsigned_abs z) after) ≡ Ok got
        → IsOver sizes upper scope got.0
    by_sign (negsuc n) after passes e =
        let shares = count_passes sizes shared arity scope n passes in
        let made : Function × At = (record (shared_table shared (suc n)) { scope = scope }, after) in
        subst (λ (p : Function × At). IsOver sizes upper scope p.0) {x = made} (ok_is made got e)
        (other_scope_kept sizes upper (shared_table shared (suc n)) scope (kept (suc n - 1) (omega (arith, shares.there))) is shares.same, refl)
    by_sign (pos n) after passes e =
        let listings = bind_ok (listings_at (dims sizes scope) n after) _ got (rw (le-ltb n 0 (omega arith)) at e) in
        let made : Function × At = (function_of sizes upper scope default listings.0.0, listings.0.1) in
        subst (λ (p : Function × At). IsOver sizes upper scope p.0) {x = made} (ok_is made got listings.2) (function_kept sizes upper scope default listings.0.0 is, refl)

-- the functions that have shared tables, behind one more
sharing_kept : (sizes : List ℕ) (upper : ℕ) (shared : List Function) (f : Function) (own : Bool) → AreKept sizes upper shared → IsFunction sizes upper f → AreKept sizes upper (if own then shared ++ f ∷ [] else shared)
unfolding AreKept
sharing_kept sizes upper shared f false kept is = kept
sharing_kept sizes upper shared f true kept is = λ j lt. elim (cases_lt j (length shared)) [
  | inl before ↦ rw (get_or_append_left shared (f ∷ []) no_function j before) (kept j before)
  | inr behind ↦ let here : length shared ≡ j = omega (arith, length_push shared f) in rw (get_or_push shared f no_function j here) is
]

record FunctionRead (sizes : List ℕ) (upper so_far : ℕ) (got : Function × List Function) : Type 0 where
  pub is : IsFunction sizes upper got.0
  pub shared : AreKept sizes upper got.1
  pub few : so_far + cells (dims sizes got.0.scope) ≤ MOST_CELLS

function_read : (sizes : List ℕ) (upper : ℕ) (shared : List Function) (so_far : ℕ) (s : At) (got : (Function × List Function) × At) → AreKept sizes upper shared → function_from sizes upper shared so_far s ≡ Ok got
    → FunctionRead sizes upper so_far got.0
unfolding function_from IsOver
function_read sizes upper shared so_far s got kept e =
    let arity = bind_ok (number_at s) _ got e in
    let scope = bind_ok (scope_from sizes [] (unsigned_abs arity.0.0) arity.0.1) _ got arity.2 in
    let default = bind_ok (natural_at (check_default (so_far + cells (dims sizes scope.0.0))) scope.0.1) _ got scope.2 in
    let f = bind_ok (table_at sizes upper shared arity.0.0 scope.0.0 default.0.0 default.0.1) _ got default.2 in
    let own = int_lt arity.0.0 (pos 0) in
    let empty : IsScope sizes [] = record { variables = λ place lt. absurd (omega arith); different = λ place other before lt. absurd (omega arith); few = omega arith } in
    let is = scope_kept sizes [] (unsigned_abs arity.0.0) arity.0.1 scope.0 empty scope.1 in
    let one = read_at (check_default (so_far + cells (dims sizes scope.0.0))) scope.0.1 default.0 default.1 in
    let few = default_passes (so_far + cells (dims sizes scope.0.0)) one.number one.passes in
    let table = table_read sizes upper shared arity.0.0 scope.0.0 default.0.0 default.0.1 f.0 kept is f.1 in
    let made : (Function × List Function) × At = ((f.0.0, if own then shared ++ f.0.0 ∷ [] else shared), f.0.1) in
    subst (λ (p : (Function × List Function) × At). FunctionRead sizes upper so_far p.0) {x = made} (ok_is made got f.2)
    (record { is = table.0; shared = sharing_kept sizes upper shared f.0.0 own kept table.0; few = rw table.1 few })

-- so many functions
record AreFunctions (sizes : List ℕ) (upper so_far n : ℕ) (fs : List Function) : Type 0 where
  pub many : length fs ≡ n
  pub each : (f : ℕ) → f < n → IsFunction sizes upper (slice_index_or fs f no_function)
  pub few : so_far + sum_by (λ f. cells (dims sizes f.scope)) fs ≤ MOST_CELLS

one_function_more : (sizes : List ℕ) (upper so_far n : ℕ) (first : Function) (others : List Function) → IsFunction sizes upper first
    → AreFunctions sizes upper (so_far + cells (dims sizes first.scope)) n others → AreFunctions sizes upper so_far (suc n) (first ∷ others)
one_function_more sizes upper so_far n first others is are = record { many = ap suc are.many; each = by_place; few = omega (arith, are.few, sum_by-cons (λ f. cells (dims sizes f.scope)) first others) }
  where
    by_place : (f : ℕ) → f < suc n → IsFunction sizes upper (slice_index_or (first ∷ others) f no_function)
    by_place zero lt = is
    by_place (suc f) lt = are.each f (omega arith)

functions_read : (sizes : List ℕ) (upper : ℕ) (shared : List Function) (so_far n : ℕ) (s : At) (got : List Function × At) → so_far ≤ MOST_CELLS → AreKept sizes upper shared → functions_from sizes upper shared so_far n s ≡ Ok got
    → AreFunctions sizes upper so_far n got.0
unfolding functions_from
functions_read sizes upper shared so_far zero s got low kept e =
    subst (λ (p : List Function × At). AreFunctions sizes upper so_far 0 p.0) (ok_is ([], s) got e) (record { many = refl; each = λ f lt. absurd (omega arith); few = omega arith })
functions_read sizes upper shared so_far (suc n) s got low kept e =
    let f = bind_ok (function_from sizes upper shared so_far s) _ got e in
    let fs = bind_ok (functions_from sizes upper f.0.0.1 (so_far + cells (dims sizes f.0.0.0.scope)) n f.0.1) _ got f.2 in
    let one = function_read sizes upper shared so_far s f.0 kept f.1 in
    let others = functions_read sizes upper f.0.0.1 (so_far + cells (dims sizes f.0.0.0.scope)) n f.0.1 fs.0 one.few one.shared fs.1 in
    subst (λ (p : List Function × At). AreFunctions sizes upper so_far (suc n) p.0) (ok_is (f.0.0.0 ∷ fs.0.0, fs.0.1) got fs.2) (one_function_more sizes upper so_far n f.0.0.0 fs.0.0 one.is others)

-- a name is a word
name_read : (ws : List (List ℕ)) (n : ℕ) (got : List ℕ × At) → FirstIsWord ws → first_word ws n ≡ Ok got → IsWord got.0
name_read [] n got is e = absurd cc
name_read (word ∷ rest) n got is e = subst (λ (p : List ℕ × At). IsWord p.0) (ok_is (word, record { words = rest; next = n + 1 }) got e) is.0

pub read_networks : ReadNetworks
unfolding network_at AreSizes AreKept
read_networks bytes P e =
    let start : At = record { words = words bytes; next = 1 } in
    let name = bind_ok (word_at start) _ P e in
    let variables = bind_ok (natural_at check_variables name.0.1) _ P name.2 in
    let widest = bind_ok (natural_at check_size variables.0.1) _ P variables.2 in
    let functions = bind_ok (natural_at check_functions widest.0.1) _ P widest.2 in
    let upper = bind_ok (natural_at check_cost functions.0.1) _ P functions.2 in
    let sizes = bind_ok (sizes_at variables.0.0 upper.0.1) _ P upper.2 in
    let fs = bind_ok (functions_from sizes.0.0 upper.0.0 [] 0 functions.0.0 sizes.0.1) _ P sizes.2 in
    let n = read_at check_variables name.0.1 variables.0 variables.1 in
    let many = variables_pass n.number n.passes in
    let count = read_at check_functions widest.0.1 functions.0 functions.1 in
    let top = read_at check_cost functions.0.1 upper.0 upper.1 in
    let domains = sizes_kept variables.0.0 upper.0.1 sizes.0 sizes.1 in
    let tables = functions_read sizes.0.0 upper.0.0 [] 0 functions.0.0 sizes.0.1 fs.0 (omega arith) (λ f lt. absurd (omega arith)) fs.1 in
    subst IsNetwork (ok_is (record { name = name.0.0; sizes = sizes.0.0; upper = upper.0.0; functions = fs.0.0 }) P fs.2) (record {
      name = name_read (words bytes) 1 name.0 (first_is_word bytes) name.1;
      some = omega (arith, many.0, n.is, domains.0);
      few = omega (arith, many.1, n.is, domains.0);
      sizes = λ x lt. domains.1 x (omega (arith, domains.0));
      upper = omega (arith, top.most);
      functions = λ f lt. tables.each f (omega (arith, tables.many));
      few_functions = omega (arith, functions_pass count.number count.passes, count.is, tables.many);
      few_cells = omega (arith, tables.few);
    })
