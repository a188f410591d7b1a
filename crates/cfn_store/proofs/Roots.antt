-- Before any step all words are 0, and no tuple is cut.
use Rattle.std.proofs.Common.{◌≡◌, ℕ, zero, suc, ◌+◌, ◌<◌, List, [], length, map, get_or, replicate, reverse, refl, sym, ap, subst, ◌∙◌, arith}
use Rattle.std.proofs.lemmas.List.{get_or-map, length-replicate, length-map}
use Rattle.std.proofs.lemmas.Int.{ints}
use Rattle.std.specs.Prelude.{false, ℤ, pos, ◌+ℤ◌, slice_index}
use Rattle.cfn_model.specs.Network.{Function, Network, function_at, no_function, cells, dims, dims_at}
use Rattle.cfn_model.specs.Sums.{floor, unary}
use Rattle.cfn_rows.specs.Jagged.{row_at}
use Rattle.cfn_store.specs.declared.sums.Sums.{Sums}
use Rattle.cfn_store.specs.declared.cuts.Cuts.{Cuts}
use Rattle.cfn_scan.specs.Wrapped.{StandsFor}
use Rattle.cfn_scan.specs.Shifts.{shift, offset, width_of}
use Rattle.cfn_store.specs.Sums.{IsSums, given_word, lifted_word, shift_word}
use Rattle.cfn_store.specs.Cutting.{IsCuts}
use Rattle.cfn_scan.proofs.CallerLemmas.{itself}

-- a row of rows that are filled
filled_row : {T : Type 0} (v : T) (lengths : List ℕ) (r : ℕ) → r < length lengths → row_at (map (λ n. replicate n v) lengths) r ≡ replicate (slice_index lengths r) v
filled_row v lengths r l = get_or-map (λ n. replicate n v) lengths r 0 [] l

filled_length : {T : Type 0} (v : T) (lengths : List ℕ) (r : ℕ) → r < length lengths → length (row_at (map (λ n. replicate n v) lengths) r) ≡ slice_index lengths r
filled_length v lengths r l = ap length (filled_row v lengths r l) ∙ length-replicate (slice_index lengths r) v

-- what fills a list stands everywhere, where it stands past the end
same : {T : Type 0} (n i : ℕ) (v : T) → get_or (replicate n v) i v ≡ v
same zero zero v = refl
same zero (suc i) v = refl
same (suc n) zero v = refl
same (suc n) (suc i) v = same n i v

-- a zero word, also past the end
zero_word : (lengths : List ℕ) (r i : ℕ) → r < length lengths → slice_index (row_at (map (λ n. replicate n 0) lengths) r) i ≡ 0
zero_word lengths r i l = ap (λ row. slice_index row i) (filled_row 0 lengths r l) ∙ same (slice_index lengths r) i 0

by_function : (P : Network) (measure : Function → ℕ) (f : ℕ) → f < length P.functions → slice_index (map measure P.functions) f ≡ measure (function_at P f)
by_function P measure f l = get_or-map measure P.functions f no_function 0 l

zero_stands : (word : ℕ) (z : ℤ) → word ≡ 0 → z ≡ pos 0 → StandsFor word z
zero_stands word z e d = subst (λ w. StandsFor w z) (sym e) (subst (StandsFor 0) (sym d) (itself 0))

pub sums_at_root : (P : Network) (s : Sums) → s.floor ≡ floor P [] → s.lifted.items ≡ replicate (length P.sizes) 0 → s.given ≡ map (λ n. replicate n 0) P.sizes → s.shifts ≡ map (λ n. replicate n 0) (map (width_of P) P.functions) → IsSums P [] s
sums_at_root P s floors lifts givens shift_rows = record {
  shape = record {
    lifted = ap length lifts ∙ length-replicate (length P.sizes) 0;
    given = ap length givens ∙ length-map P.sizes (λ n. replicate n 0);
    given_row = λ x l. ap (λ rows. length (row_at rows x)) givens ∙ filled_length 0 P.sizes x l;
    shifts = ap length shift_rows ∙ length-map (map (width_of P) P.functions) (λ n. replicate n 0) ∙ length-map P.functions (width_of P);
    shifts_row = λ f l. ap (λ rows. length (row_at rows f)) shift_rows ∙ filled_length 0 (map (width_of P) P.functions) f (omega (arith, l, length-map P.functions (width_of P))) ∙ by_function P (width_of P) f l;
  };
  floor = floors;
  unary = λ x a value. (let l : lifted_word s x ≡ 0 = ap (λ ws. slice_index ws x) lifts ∙ same (length P.sizes) x 0 in
      zero_stands (given_word s x a) (unary P [] x a +ℤ pos (lifted_word s x)) (ap (λ rows. slice_index (row_at rows x) a) givens ∙ zero_word P.sizes x a value.variable) (omega (arith, ints, l)));
  shift = λ f i a place. zero_stands (shift_word P s f i a) (shift [] f i a) (ap (λ rows. slice_index (row_at rows f) (offset (dims_at P f) i + a)) shift_rows ∙ zero_word (map (width_of P) P.functions) f (offset (dims_at P f) i + a) (omega (arith, place.function, length-map P.functions (width_of P)))) refl;
}

pub cuts_at_root : (P : Network) (cuts : Cuts) → cuts.flags ≡ map (λ n. replicate n false) (map (λ f. cells (dims P.sizes f.scope)) P.functions) → cuts.fresh.items ≡ [] → IsCuts P [] cuts
cuts_at_root P cuts flags none = record {
  shape = record {
    functions = ap length flags ∙ length-map (map (λ f. cells (dims P.sizes f.scope)) P.functions) (λ n. replicate n false) ∙ length-map P.functions (λ f. cells (dims P.sizes f.scope));
    tuples = λ f l. ap (λ rows. length (row_at rows f)) flags ∙ filled_length false (map (λ f. cells (dims P.sizes f.scope)) P.functions) f (omega (arith, l, length-map P.functions (λ f. cells (dims P.sizes f.scope)))) ∙ by_function P (λ f. cells (dims P.sizes f.scope)) f l;
  };
  said = λ f c cell. (let l : f < length (map (λ f. cells (dims P.sizes f.scope)) P.functions) = omega (arith, cell.function, length-map P.functions (λ f. cells (dims P.sizes f.scope))) in
      ap (λ rows. get_or (row_at rows f) c false) flags ∙ ap (λ row. get_or row c false) (filled_row false (map (λ f. cells (dims P.sizes f.scope)) P.functions) f l) ∙ same (slice_index (map (λ f. cells (dims P.sizes f.scope)) P.functions) f) c false);
  fresh_ones = ap reverse none;
}
