-- The functions that have shared tables, by their numbers, and a function that has one of these tables.
use Rattle.std.proofs.Common.{◌≡◌, ℕ, suc, ◌+◌, ◌-◌, ◌<◌, Bool, true, false, not, ◌&&◌, cond, List, [], ◌∷◌, ◌++◌, length, drop, Result, Ok, Err, refl, sym, ap, subst, ◌∙◌, arith}
use Rattle.std.specs.Prelude.{ℤ, pos, negsuc, Option, Some, None, int_lt, nat_eq, nat_le, unsigned_abs, slice_index, if◌then◌else◌}
use Rattle.std.specs.Cmp.Lexicographic.{pointwise}
use Rattle.std.proofs.lemmas.Bool.{le-ltb, leb-true, and_parts, eq-eqb, ne_eqb}
use Rattle.std.proofs.lemmas.List.{get_or_append_left, get_or_push, length_push, length-map, get_or-map, map_push}
use Rattle.std.proofs.lemmas.Slice.Eq.{bytes_eq-Decides}
use Rattle.cfn_model.specs.declared.limits.TheConstants.{MOST_CELLS}
use Rattle.cfn_model.specs.declared.reading.Kind.{Kind}
use Rattle.cfn_model.specs.declared.reading.Kind.TheVariants.{SharedTable, TooMany}
use Rattle.cfn_model.specs.declared.reading.Refusal.{Refusal}
use Rattle.cfn_model.specs.Network.{Function, Network, cells, dims, dims_at, function_of, function_at, no_function}
use Rattle.cfn_model.specs.Reading.{◌>>=◌, At, unless_refused, number_at, natural_at, shared_table, can_share, check_count, check_default, scope_from, listings_at, own_table, table_at, function_from}
use Rattle.cfn_net.specs.Building.{ListingLaw, all_cells, last, with_function}
use Rattle.cfn_wcsp.specs.declared.fault.ReadFault.{ReadFault}
use Rattle.cfn_wcsp.specs.declared.fault.ReadFault.TheVariants.{Refused, Memory}
use Rattle.cfn_wcsp.specs.Giving.{Fails}
use Rattle.cfn_wcsp.specs.Tables.{AreNumbers, count_at, function_onto, listings_into, table_onto, tables_of}
use Rattle.cfn_wcsp.proofs.Steps.{bind_ok, bind_err, ok_is}
use Rattle.cfn_wcsp.proofs.Cells.{at_place, size_at}
use Rattle.cfn_wcsp.proofs.Listing.{whole}

-- ---- the functions with some numbers, behind one function more

tables_with : (P : Network) (f : Function) (numbers : List ℕ) → AreNumbers P numbers → tables_of (with_function P f) numbers ≡ tables_of P numbers
tables_with P f [] are = refl
tables_with P f (n ∷ numbers) are = rw (get_or_append_left P.functions (f ∷ []) no_function n (are 0 (omega arith)), tables_with P f numbers (λ i lt. are (suc i) (omega (arith, lt)))) refl

pub tables_more : (P Q : Network) (f : Function) (numbers : List ℕ) → with_function P f ≡ Q → AreNumbers P numbers → tables_of Q numbers ≡ tables_of P numbers
tables_more P Q f numbers is are = subst (λ Q. tables_of Q numbers ≡ tables_of P numbers) is (tables_with P f numbers are)

pub tables_push : (P Q : Network) (f : Function) (numbers : List ℕ) (n : ℕ) → with_function P f ≡ Q → n + 1 ≡ length Q.functions → AreNumbers P numbers → tables_of Q (numbers ++ n ∷ []) ≡ tables_of P numbers ++ f ∷ []
tables_push P Q f numbers n is last are =
    let length_is : length Q.functions ≡ length P.functions + 1 = sym (ap (λ R. length R.functions) is) ∙ length_push P.functions f in
    let place : length P.functions ≡ n = omega (arith, last, length_is) in
    let here : function_at Q n ≡ f = subst (λ R. function_at R n ≡ f) is (get_or_push P.functions f no_function n place) in
    map_push (function_at Q) numbers n ∙ ap (λ fs. fs ++ function_at Q n ∷ []) (tables_more P Q f numbers is are) ∙ ap (λ g. tables_of P numbers ++ g ∷ []) here

-- ---- scopes with the same domain sizes, place by place

dims_from : (sizes variables : List ℕ) (i : ℕ) → i < length variables → drop i (dims sizes variables) ≡ slice_index sizes (slice_index variables i) ∷ drop (i + 1) (dims sizes variables)
dims_from sizes variables i lt = at_place (dims sizes variables) i (slice_index sizes (slice_index variables i)) (omega (arith, length-map variables (slice_index sizes), lt)) (size_at sizes variables i lt)

-- from a place on
abbrev pub same_from : List ℕ → List ℕ → List ℕ → ℕ → Bool
same_from sizes one other i = pointwise nat_eq (drop i (dims sizes one)) (drop i (dims sizes other))

pub same_on : (sizes one other : List ℕ) (i : ℕ) → i < length one → length one ≡ length other → slice_index sizes (slice_index one i) ≡ slice_index sizes (slice_index other i) → same_from sizes one other (i + 1) ≡ same_from sizes one other i
same_on sizes one other i lt long same =
    sym (rw (dims_from sizes one i lt, dims_from sizes other i (omega arith), eq-eqb (slice_index sizes (slice_index one i)) (slice_index sizes (slice_index other i)) same) refl)

pub same_end : (sizes one other : List ℕ) (i : ℕ) → i < length one → length one ≡ length other → (slice_index sizes (slice_index one i) ≡ slice_index sizes (slice_index other i) → ⊥) → same_from sizes one other i ≡ false
same_end sizes one other i lt long differ =
    rw (dims_from sizes one i lt, dims_from sizes other i (omega arith), ne_eqb (slice_index sizes (slice_index one i)) (slice_index sizes (slice_index other i)) differ) refl

-- ---- the number of listings, or of a shared table

-- what the check of a shared table's number says
pub record Shares (P : Network) (numbers scope : List ℕ) (count : ℤ) : Type 0 where
  pub some : 0 < unsigned_abs count
  pub there : unsigned_abs count - 1 < length numbers
  pub is : shared_table (tables_of P numbers) (unsigned_abs count) ≡ function_at P (slice_index numbers (unsigned_abs count - 1))
  pub same : dims P.sizes scope ≡ dims_at P (slice_index numbers (unsigned_abs count - 1))

-- the count that was read
pub record Counted (sizes : List ℕ) (shared : List Function) (arity : ℤ) (scope : List ℕ) (s : At) (count : ℤ) (after : At) : Type 0 where
  pub read : number_at s ≡ Ok (count, after)
  pub passes : check_count sizes shared arity scope count ≡ None

not_refused : {A : Type 0} (fault : Option Kind) (n : ℕ) (x y : A) → unless_refused fault n x ≡ Ok y → (fault ≡ None) × (x ≡ y)
not_refused None n x y e = (refl, ok_is x y e)
not_refused (Some kind) n x y e = absurd cc

pub counted : (sizes : List ℕ) (shared : List Function) (arity : ℤ) (scope : List ℕ) (s : At) (count : ℤ) (after : At) → count_at sizes shared arity scope s ≡ Ok (count, after) → Counted sizes shared arity scope s count after
counted sizes shared arity scope s count after h =
    let number = bind_ok (number_at s) _ (count, after) h in
    let passed = not_refused (check_count sizes shared arity scope number.0.0) s.next number.0 (count, after) number.2 in
    record {
      read = number.1 ∙ ap (λ (p : ℤ × At). Ok p) passed.1;
      passes = subst (λ (p : ℤ × At). check_count sizes shared arity scope p.0 ≡ None) passed.1 passed.0;
    }

only_if : (can rest : Bool) (k l : Kind) → cond (true && not can) (Some k) (cond rest (Some l) None) ≡ None → can ≡ true
only_if true rest k l e = refl
only_if false rest k l e = absurd cc

-- the shared table of a function
pub shares : (P : Network) (numbers : List ℕ) (arity : ℤ) (scope : List ℕ) (count : ℤ) → int_lt count (pos 0) ≡ true → check_count P.sizes (tables_of P numbers) arity scope count ≡ None → Shares P numbers scope count
shares P numbers arity scope (pos n) minus e = let h : false ≡ true = sym (le-ltb n 0 (omega arith)) ∙ minus in absurd cc
shares P numbers arity scope (negsuc n) minus e =
    let tables = tables_of P numbers in
    let same = pointwise nat_eq (dims P.sizes (shared_table tables (suc n)).scope) (dims P.sizes scope) in
    let can = only_if (can_share P.sizes tables arity scope (suc n)) (int_lt (pos MOST_CELLS) (negsuc n)) SharedTable TooMany e in
    let parts = and_parts (nat_le (suc n) (length tables)) same (and_parts (not (int_lt arity (pos 0))) (nat_le (suc n) (length tables) && same) can).1 in
    let there : suc n - 1 < length numbers = omega (arith, leb-true (suc n) (length tables) parts.0, length-map numbers (function_at P)) in
    let is : shared_table tables (suc n) ≡ function_at P (slice_index numbers (suc n - 1)) = get_or-map (function_at P) numbers (suc n - 1) 0 no_function there in
    record {
      some = omega arith;
      there = there;
      is = is;
      same = sym ((bytes_eq-Decides (dims P.sizes (shared_table tables (suc n)).scope) (dims P.sizes scope)).0 parts.1) ∙ ap (λ f. dims P.sizes f.scope) is;
    }

-- ---- the table of a function

-- a reading that was refused goes no further
refused_here : {A B C : Type 0} (fault : Option Kind) (n : ℕ) (x : A) (y : B) (rest : B → Result C Refusal) (r : Refusal) → unless_refused fault n x ≡ Err r → (unless_refused fault n y >>= rest) ≡ Err r
refused_here None n x y rest r h = absurd cc
refused_here (Some kind) n x y rest r h = cc

refused_first : {A B C : Type 0} (read : Result A Refusal) (fault : A → Option Kind) (n : ℕ) (part : A → B) (rest : A → B → Result C Refusal) (r : Refusal) → (read >>= λ x. unless_refused (fault x) n x) ≡ Err r
    → (read >>= λ x. unless_refused (fault x) n (part x) >>= rest x) ≡ Err r
refused_first (Ok x) fault n part rest r h = refused_here (fault x) n x (part x) (rest x) r h
refused_first (Err d) fault n part rest r h = cc

-- what follows the number of listings, or of a shared table
abbrev behind_count : Network → List Function → List ℕ → ℕ → ℤ × At → ℤ → Result (Function × At) Refusal
behind_count P shared scope default number count =
    if int_lt count (pos 0) then Ok (record (shared_table shared (unsigned_abs count)) { scope = scope }, number.1)
    else own_table P.sizes P.upper scope default (unsigned_abs count) number.1

pub no_table : (e : ReadFault) (P : Network) (shared : List Function) (arity : ℤ) (scope : List ℕ) (default : ℕ) (s : At) → Fails e (count_at P.sizes shared arity scope s) → Fails e (table_onto P shared arity scope default s)
unfolding table_at
no_table Memory P shared arity scope default s h = tt
no_table (Refused r) P shared arity scope default s h =
    let failed : table_at P.sizes P.upper shared arity scope default s ≡ Err r = refused_first (number_at s) (λ z. check_count P.sizes shared arity scope z.0) s.next (λ z. z.0) (behind_count P shared scope default) r h in
    ap (λ read. read >>= λ f. Ok (with_function P f.0, f.1)) failed

pub has_shared_table : (P : Network) (numbers : List ℕ) (arity : ℤ) (scope : List ℕ) (default : ℕ) (s : At) (count : ℤ) (after : At) → int_lt count (pos 0) ≡ true → count_at P.sizes (tables_of P numbers) arity scope s ≡ Ok (count, after)
    → table_onto P (tables_of P numbers) arity scope default s ≡ Ok (with_function P (record (function_at P (slice_index numbers (unsigned_abs count - 1))) { scope = scope }), after)
unfolding table_at
has_shared_table P numbers arity scope default s count after minus h =
    let c = counted P.sizes (tables_of P numbers) arity scope s count after h in
    let table = shares P numbers arity scope count minus c.passes in
    rw (c.read, c.passes, minus) (ap (λ f. Ok (with_function P (record f { scope = scope }), after)) table.is)

pub has_own_table : ListingLaw → (P : Network) (shared : List Function) (arity : ℤ) (scope : List ℕ) (default : ℕ) (s : At) (count : ℤ) (after : At) → int_lt count (pos 0) ≡ false → count_at P.sizes shared arity scope s ≡ Ok (count, after)
    → listings_into (with_function P (function_of P.sizes P.upper scope default [])) (dims P.sizes scope) (unsigned_abs count) after ≡ table_onto P shared arity scope default s
unfolding table_at
has_own_table law P shared arity scope default s count after plus h =
    let c = counted P.sizes shared arity scope s count after h in
    sym (rw (c.read, c.passes, plus) (whole law P scope default (listings_at (dims P.sizes scope) (unsigned_abs count) after)))

-- ---- a function whose arity and scope were read, and then its default cost and its table, or not

pub no_default : (e : ReadFault) (P : Network) (shared : List Function) (s s1 s2 : At) (arity : ℤ) (scope : List ℕ) (all : ℕ) → number_at s ≡ Ok (arity, s1) → scope_from P.sizes [] (unsigned_abs arity) s1 ≡ Ok (scope, s2)
    → all ≡ all_cells P + cells (dims P.sizes scope) → Fails e (natural_at (check_default all) s2) → Fails e (function_onto P shared s)
unfolding function_from
no_default Memory P shared s s1 s2 arity scope all h1 h2 is h3 = tt
no_default (Refused r) P shared s s1 s2 arity scope all h1 h2 is h3 =
    let h : natural_at (check_default (all_cells P + cells (dims P.sizes scope))) s2 ≡ Err r = ap (λ n. natural_at (check_default n) s2) (sym is) ∙ h3 in
    rw (h1, h2, h) refl

pub no_function_table : (e : ReadFault) (P : Network) (shared : List Function) (s s1 s2 s3 : At) (arity : ℤ) (scope : List ℕ) (all default : ℕ) → number_at s ≡ Ok (arity, s1) → scope_from P.sizes [] (unsigned_abs arity) s1 ≡ Ok (scope, s2)
    → all ≡ all_cells P + cells (dims P.sizes scope) → natural_at (check_default all) s2 ≡ Ok (default, s3) → Fails e (table_onto P shared arity scope default s3) → Fails e (function_onto P shared s)
unfolding function_from
no_function_table Memory P shared s s1 s2 s3 arity scope all default h1 h2 is h3 h4 = tt
no_function_table (Refused r) P shared s s1 s2 s3 arity scope all default h1 h2 is h3 h4 =
    let h : natural_at (check_default (all_cells P + cells (dims P.sizes scope))) s2 ≡ Ok (default, s3) = ap (λ n. natural_at (check_default n) s2) (sym is) ∙ h3 in
    let failed = bind_err (table_at P.sizes P.upper shared arity scope default s3) (λ f. (with_function P f.0, f.1)) r h4 in
    rw (h1, h2, h, failed) refl

-- the function that was read
pub record FunctionRead (P : Network) (shared : List Function) (arity : ℤ) (s : At) (Q : Network) (after : At) : Type 0 where
  pub function : Function
  pub is : with_function P function ≡ Q
  pub long : length Q.functions ≡ length P.functions + 1
  pub read : function_onto P shared s ≡ Ok ((Q, if int_lt arity (pos 0) then shared ++ function ∷ [] else shared), after)

pub function_read : (P : Network) (shared : List Function) (s s1 s2 s3 : At) (arity : ℤ) (scope : List ℕ) (all default : ℕ) (Q : Network) (after : At) → number_at s ≡ Ok (arity, s1) → scope_from P.sizes [] (unsigned_abs arity) s1 ≡ Ok (scope, s2)
    → all ≡ all_cells P + cells (dims P.sizes scope) → natural_at (check_default all) s2 ≡ Ok (default, s3) → table_onto P shared arity scope default s3 ≡ Ok (Q, after) → FunctionRead P shared arity s Q after
unfolding function_from
function_read P shared s s1 s2 s3 arity scope all default Q after h1 h2 is h3 h4 =
    let h : natural_at (check_default (all_cells P + cells (dims P.sizes scope))) s2 ≡ Ok (default, s3) = ap (λ n. natural_at (check_default n) s2) (sym is) ∙ h3 in
    let f = bind_ok (table_at P.sizes P.upper shared arity scope default s3) (λ f. Ok (with_function P f.0, f.1)) (Q, after) h4 in
    of_table f.0 h f.1 (ok_is (with_function P f.0.0, f.0.1) (Q, after) f.2)
  where
    of_table : (f : Function × At) → natural_at (check_default (all_cells P + cells (dims P.sizes scope))) s2 ≡ Ok (default, s3) → table_at P.sizes P.upper shared arity scope default s3 ≡ Ok f → ◌≡◌ {A = Network × At} (with_function P f.0, f.1) (Q, after) → FunctionRead P shared arity s Q after
    of_table f h t e = record {
      function = f.0;
      is = ap (λ (p : Network × At). p.0) e;
      long = sym (ap (λ (p : Network × At). length p.0.functions) e) ∙ length_push P.functions f.0;
      read = rw (h1, h2, h, t) (ap (λ (p : Network × At). Ok ((p.0, if int_lt arity (pos 0) then shared ++ f.0 ∷ [] else shared), p.1)) e);
    }

-- where its table does not become shared, and where it does
pub tables_kept : (P : Network) (numbers : List ℕ) (arity : ℤ) (s : At) (Q : Network) (after : At) → AreNumbers P numbers → FunctionRead P (tables_of P numbers) arity s Q after → int_lt arity (pos 0) ≡ false
    → function_onto P (tables_of P numbers) s ≡ Ok ((Q, tables_of Q numbers), after)
tables_kept P numbers arity s Q after are read plus =
    let T = tables_of P numbers in
    read.read ∙ ap (λ own. Ok ((Q, if own then T ++ read.function ∷ [] else T), after)) plus ∙ ap (λ ts. Ok ((Q, ts), after)) (sym (tables_more P Q read.function numbers read.is are))

pub tables_grown : (P : Network) (numbers : List ℕ) (arity : ℤ) (s : At) (Q : Network) (after : At) (pushed : List ℕ) (n : ℕ) → AreNumbers P numbers → FunctionRead P (tables_of P numbers) arity s Q after → int_lt arity (pos 0) ≡ true
    → pushed ≡ numbers ++ n ∷ [] → n + 1 ≡ length Q.functions → function_onto P (tables_of P numbers) s ≡ Ok ((Q, tables_of Q pushed), after)
tables_grown P numbers arity s Q after pushed n are read minus is last =
    let T = tables_of P numbers in
    let tables : tables_of Q pushed ≡ T ++ read.function ∷ [] = ap (tables_of Q) is ∙ tables_push P Q read.function numbers n read.is last are in
    read.read ∙ ap (λ own. Ok ((Q, if own then T ++ read.function ∷ [] else T), after)) minus ∙ ap (λ ts. Ok ((Q, ts), after)) (sym tables)
