-- A network of the generator has room for the functions that it gets.
use Rattle.std.proofs.Common.{◌≡◌, ℕ, zero, suc, ◌+◌, ◌*◌, ◌<◌, ◌≤◌, List, [], ◌∷◌, ◌++◌, length, get_or, sym, ap, ◌∙◌, append_assoc, arith, length-append}
use Rattle.std.specs.Prelude.{slice_index}
use Rattle.std.proofs.lemmas.List.{get_or-replicate, length-replicate, length_push}
use Rattle.std.proofs.lemmas.List.Sums.{sum_by-append}
use Rattle.std.proofs.lemmas.List.FromFn.{map-range_with_len_more}
use Rattle.cfn_model.specs.Network.{Function, Network, cells, dims}
use Rattle.cfn_net.specs.Building.{CanTake, with_function}
use Rattle.cfn_gen.specs.Generator.{after, drawn, pair, pairs, single, singles}
use Rattle.cfn_gen.specs.Building.{IsTrial, with_functions}
use Rattle.cfn_gen.proofs.Drawing.{after-add}

module _ (n : ℕ) (P : Network) (trial : IsTrial n P) where
  pub variables : length P.sizes ≡ n
  variables = ap length trial.sizes ∙ length-replicate n 3

  size_at : (x : ℕ) → x < n → get_or P.sizes x 0 ≡ 3
  size_at x l = ap (λ (ss : List ℕ). get_or ss x 0) trial.sizes ∙ get_or-replicate n x 3 0 l

  pub single_cells : (x : ℕ) → x < n → 3 ≡ cells (dims P.sizes (x ∷ []))
  single_cells x l = omega (arith, size_at x l)

  pub pair_cells : (x y : ℕ) → x < n → y < n → 9 ≡ cells (dims P.sizes (x ∷ y ∷ []))
  pair_cells x y l m = sym (ap (λ s. s * (get_or P.sizes y 0 * 1)) (size_at x l) ∙ ap (λ s. 3 * (s * 1)) (size_at y m))

  room : (scope : List ℕ) → ((place : ℕ) → place < length scope → slice_index scope place < length P.sizes) → ((place other : ℕ) → place < other → other < length scope → slice_index scope place ≡ slice_index scope other → ⊥) → cells (dims P.sizes scope) ≤ 9 → length P.functions < 600 → CanTake P scope
  room scope inside apart few l = record {
    scope = record { variables = inside; different = apart; few = omega arith };
    few_functions = omega arith;
    few_cells = omega (arith, trial.cells);
  }

  pub single_room : (x : ℕ) → x < n → length P.functions < 600 → CanTake P (x ∷ [])
  single_room x l few = room (x ∷ []) inside apart (omega (arith, single_cells x l)) few
    where
      inside : (place : ℕ) → place < 1 → slice_index (x ∷ []) place < length P.sizes
      inside zero m = omega (arith, variables, l)
      inside (suc place) m = absurd (omega arith)

      apart : (place other : ℕ) → place < other → other < 1 → slice_index (x ∷ []) place ≡ slice_index (x ∷ []) other → ⊥
      apart place other m k e = absurd (omega arith)

  pub pair_room : (x y : ℕ) → x < y → y < n → length P.functions < 600 → CanTake P (x ∷ y ∷ [])
  pair_room x y less l few = room (x ∷ y ∷ []) inside apart (omega (arith, pair_cells x y (omega arith) l)) few
    where
      inside : (place : ℕ) → place < 2 → slice_index (x ∷ y ∷ []) place < length P.sizes
      inside zero m = omega (arith, variables, l, less)
      inside (suc zero) m = omega (arith, variables, l)
      inside (suc (suc place)) m = absurd (omega arith)

      apart : (place other : ℕ) → place < other → other < 2 → slice_index (x ∷ y ∷ []) place ≡ slice_index (x ∷ y ∷ []) other → ⊥
      apart zero zero m k e = absurd (omega arith)
      apart zero (suc zero) m k e = absurd (omega (arith, less, e))
      apart zero (suc (suc other)) m k e = absurd (omega arith)
      apart (suc place) zero m k e = absurd (omega arith)
      apart (suc place) (suc zero) m k e = absurd (omega arith)
      apart (suc place) (suc (suc other)) m k e = absurd (omega arith)

  pub still_trial : (f : Function) → cells (dims P.sizes f.scope) ≤ 9 → IsTrial n (with_function P f)
  still_trial f few = record {
    sizes = trial.sizes;
    upper = trial.upper;
    cells = omega (arith, sum_by-append (λ g. cells (dims P.sizes g.scope)) P.functions (f ∷ []), length_push P.functions f, trial.cells);
  }

-- one more function of a group
pub more_singles : (P Q R : Network) (s x t : ℕ) → Q ≡ with_functions P (singles s x) → t ≡ after s (3 * x) → R ≡ with_function Q (record { scope = x ∷ []; default = 0; entries = drawn t 3 }) → R ≡ with_functions P (singles s (x + 1))
more_singles P Q R s x t built at added =
    added
    ∙ ap (λ u. with_function Q (record { scope = x ∷ []; default = 0; entries = drawn u 3 })) at
    ∙ ap (λ N. with_function N (single s x)) built
    ∙ ap (λ fs. record P { functions = fs }) (append_assoc P.functions (singles s x) (single s x ∷ []) ∙ ap (λ fs. P.functions ++ fs) (sym (map-range_with_len_more (single s) 0 x x (omega arith))))

pub more_pairs : (P Q R : Network) (s apart x t : ℕ) → Q ≡ with_functions P (pairs s apart x) → t ≡ after s (9 * x) → R ≡ with_function Q (record { scope = x ∷ (x + apart) ∷ []; default = 0; entries = drawn t 9 }) → R ≡ with_functions P (pairs s apart (x + 1))
more_pairs P Q R s apart x t built at added =
    added
    ∙ ap (λ u. with_function Q (record { scope = x ∷ (x + apart) ∷ []; default = 0; entries = drawn u 9 })) at
    ∙ ap (λ N. with_function N (pair s apart x)) built
    ∙ ap (λ fs. record P { functions = fs }) (append_assoc P.functions (pairs s apart x) (pair s apart x ∷ []) ∙ ap (λ fs. P.functions ++ fs) (sym (map-range_with_len_more (pair s apart) 0 x x (omega arith))))

pub more_draws : (s x t u k : ℕ) → t ≡ after s (k * x) → u ≡ after t k → u ≡ after s (k * (x + 1))
more_draws s x t u k at went = let e : k * x + k ≡ k * (x + 1) = grind arith in went ∙ ap (λ v. after v k) at ∙ after-add s (k * x) k ∙ ap (after s) e

pub functions_so_far : (P Q : Network) (fs : List Function) (n : ℕ) → Q ≡ with_functions P fs → length fs ≡ n → length Q.functions ≡ length P.functions + n
functions_so_far P Q fs n built e = ap (λ N. length N.functions) built ∙ length-append P.functions fs ∙ ap (λ k. length P.functions + k) e
