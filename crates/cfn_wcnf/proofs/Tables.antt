-- The scope, the tuple and the cells of a clause's function.
use Rattle.std.proofs.Common.{◌≡◌, ℕ, zero, suc, ◌*◌, ◌^◌, ◌+◌, ◌<◌, ◌≤◌, false, cond, List, [], ◌∷◌, length, refl, sym, ap, ◌∙◌, subst, arith}
use Rattle.std.specs.Prelude.{slice_index}
use Rattle.std.proofs.Math.Nat.{pow-succ'}
use Rattle.std.proofs.Math.Pow.{pow_mono}
use Rattle.std.proofs.lemmas.List.{get_or-replicate, length-replicate}
use Rattle.cfn_model.specs.declared.limits.TheConstants.{MOST_CELLS, MOST_FUNCTIONS}
use Rattle.cfn_model.specs.Network.{Fits, Network, cells, dims}
use Rattle.cfn_net.specs.Building.{IsScope, CanTake, all_cells}
use Rattle.cfn_wcnf.specs.declared.clause.Polarity.{Polarity}
use Rattle.cfn_wcnf.specs.declared.clause.Polarity.TheVariants.{Positive, Negative, Both}
use Rattle.cfn_wcnf.specs.declared.clause.Occurrence.{Occurrence}
use Rattle.cfn_wcnf.specs.Clauses.{binary, clause_cells, is_tautology, refuting, refuting_tuple, variables_in}
use Rattle.cfn_wcnf.specs.Partial.{Increases, Keeps}

-- what is kept by equal numbers and lists
pub same_keeps : (n m : ℕ) (os ws : List Occurrence) → n ≡ m → os ≡ ws → Keeps n os → Keeps m ws
same_keeps n m os ws same are keeps = subst (λ k. Keeps k ws) same (subst (λ us. Keeps n us) are keeps)

pub dims_binary : (n low : ℕ) (os : List Occurrence) → Increases n low os → dims (binary n) (variables_in os) ≡ binary (length os)
dims_binary n low [] are = refl
dims_binary n low (o ∷ os) are = ap (λ d. d ∷ dims (binary n) (variables_in os)) (get_or-replicate n o.variable 2 0 are.1) ∙ ap (λ ds. 2 ∷ ds) (dims_binary n (suc o.variable) os are.2)

pub cells_binary : (k : ℕ) → cells (binary k) ≡ 2 ^ k
cells_binary zero = refl
cells_binary (suc k) = ap (λ n. 2 * n) (cells_binary k) ∙ sym (pow-succ' 2 k)

below_two : (p : Polarity) → refuting p < 2
below_two Positive = omega arith
below_two Negative = omega arith
below_two Both = omega arith

fits_binary : (os : List Occurrence) → Fits (binary (length os)) (refuting_tuple os)
fits_binary [] = tt
fits_binary (o ∷ os) = (below_two o.polarity, fits_binary os)

pub fits_tuple : (n : ℕ) (os : List Occurrence) → Increases n 0 os → Fits (dims (binary n) (variables_in os)) (refuting_tuple os)
fits_tuple n os are = subst (λ ds. Fits ds (refuting_tuple os)) (sym (dims_binary n 0 os are)) (fits_binary os)

at_least : (n low : ℕ) (os : List Occurrence) (place : ℕ) → Increases n low os → place < length (variables_in os) → (low ≤ slice_index (variables_in os) place) × (slice_index (variables_in os) place < n)
at_least n low [] place are lt = absurd (omega arith)
at_least n low (o ∷ os) zero are lt = (are.0, are.1)
at_least n low (o ∷ os) (suc place) are lt =
    let h = at_least n (suc o.variable) os place are.2 (omega arith) in (omega (arith, h.0, are.0), h.1)

different : (n low : ℕ) (os : List Occurrence) (place other : ℕ) → Increases n low os → place < other → other < length (variables_in os)
    → slice_index (variables_in os) place ≡ slice_index (variables_in os) other → ⊥
different n low [] place other are before lt e = absurd (omega arith)
different n low (o ∷ os) place zero are before lt e = absurd (omega arith)
different n low (o ∷ os) zero (suc other) are before lt e = let h = at_least n (suc o.variable) os other are.2 (omega arith) in absurd (omega (arith, h.0, e))
different n low (o ∷ os) (suc place) (suc other) are before lt e = different n (suc o.variable) os place other are.2 (omega arith) (omega arith) e

pub is_scope : (n : ℕ) (os : List Occurrence) → Keeps n os → IsScope (binary n) (variables_in os)
is_scope n os keeps = record {
  variables = λ place lt. omega (arith, (at_least n 0 os place keeps.increases lt).1, length-replicate {A = ℕ} n 2);
  different = λ place other before lt. different n 0 os place other keeps.increases before lt;
  few = omega (arith, ap cells (dims_binary n 0 os keeps.increases), cells_binary (length os), pow_mono keeps.few);
}

pub cells_of : (n : ℕ) (os : List Occurrence) → Keeps n os → is_tautology os ≡ false → cells (dims (binary n) (variables_in os)) ≡ clause_cells os
cells_of n os keeps e = ap cells (dims_binary n 0 os keeps.increases) ∙ cells_binary (length os) ∙ sym (ap (λ b. cond b 1 (2 ^ length os)) e)

pub can_take : (P : Network) (n : ℕ) (os : List Occurrence) (scope : List ℕ) → Keeps n os → P.sizes ≡ binary n → scope ≡ variables_in os → is_tautology os ≡ false
    → length P.functions < MOST_FUNCTIONS → all_cells P + clause_cells os ≤ MOST_CELLS → CanTake P scope
can_take P n os scope keeps sizes is e room few = record {
  scope = rw (sizes, is) (is_scope n os keeps);
  few_functions = room;
  few_cells = omega (arith, few, ap (λ s. cells (dims s scope)) sizes, ap (λ s. cells (dims (binary n) s)) is, cells_of n os keeps e);
}
