-- A variable that passes the checks of a scope is in range, new and not too many; stamped, it is in the scope.
use Rattle.std.proofs.Common.{◌≡◌, ℕ, suc, ◌*◌, ◌≤◌, ◌<◌, Bool, true, false, ◌||◌, cond, List, [], ◌∷◌, ◌++◌, length, Some, None, refl, sym, ap, ◌∙◌, arith, inl, inr, ltb, pos}
use Rattle.std.specs.Prelude.{slice_index, slice_set, int_lt, ◌==◌}
use Rattle.std.specs.List.{list_any}
use Rattle.std.proofs.lemmas.Bool.{cases_lt, cases_eq, ltb-false, eq-eqb, ne_eqb}
use Rattle.std.proofs.lemmas.List.{get_or_append_left, get_or_push, length_push, length-set, get_or-set_same, get_or-set_other}
use Rattle.std.proofs.lemmas.List.Folds.{list_any-append, list_any_at}
use Rattle.cfn_model.specs.declared.limits.TheConstants.{MOST_TUPLES}
use Rattle.cfn_model.specs.declared.reading.Kind.{Kind}
use Rattle.cfn_model.specs.declared.reading.Kind.TheVariants.{VariableOutOfRange, RepeatedVariable, TableTooWide}
use Rattle.cfn_model.specs.Network.{cells, dims}
use Rattle.cfn_model.specs.Reading.{check_variable}
use Rattle.cfn_net.specs.Building.{IsScope}
use Rattle.cfn_wcsp.specs.Scopes.{Keeps}
use Rattle.cfn_wcsp.proofs.Cells.{cells-more}

none_failed : (a b c d : Bool) (k l m : Kind) → cond (a || b) (Some k) (cond c (Some l) (cond d (Some m) None)) ≡ None → (b ≡ false) × (c ≡ false) × (d ≡ false)
none_failed true b c d k l m e = absurd cc
none_failed false true c d k l m e = absurd cc
none_failed false false true d k l m e = absurd cc
none_failed false false false true k l m e = absurd cc
none_failed false false false false k l m e = (refl, refl, refl)

-- what the checks of a variable say
pub record Passes (sizes scope : List ℕ) (x : ℕ) : Type 0 where
  pub in_range : x < length sizes
  pub fresh : list_any (λ y. y == x) scope ≡ false
  pub few : cells (dims sizes scope) * slice_index sizes x ≤ MOST_TUPLES

pub passes : (sizes scope : List ℕ) (x : ℕ) → check_variable sizes scope (pos x) ≡ None → Passes sizes scope x
passes sizes scope x e =
    let h = none_failed (int_lt (pos x) (pos 0)) (int_lt (pos (length sizes)) (pos (suc x))) (list_any (λ y. y == x) scope) (ltb MOST_TUPLES (cells (dims sizes scope) * slice_index sizes x)) VariableOutOfRange RepeatedVariable TableTooWide e in
    record { in_range = omega (arith, ltb-false (length sizes) (suc x) h.0); fresh = h.1; few = ltb-false MOST_TUPLES (cells (dims sizes scope) * slice_index sizes x) h.2 }

absent : (scope : List ℕ) (x place : ℕ) → list_any (λ y. y == x) scope ≡ false → place < length scope → slice_index scope place ≡ x → ⊥
absent scope x place fresh lt e =
    let there : list_any (λ y. y == x) scope ≡ true = list_any_at (λ y. y == x) scope place 0 lt (eq-eqb (slice_index scope place) x e) in
    let clash = sym there ∙ fresh in cc

longer : (sizes scope : List ℕ) (x : ℕ) → IsScope sizes scope → Passes sizes scope x → IsScope sizes (scope ++ x ∷ [])
longer sizes scope x is passes = record {
  variables = λ place lt. elim (cases_lt place (length scope)) [
    | inl before ↦ rw (get_or_append_left scope (x ∷ []) 0 place before) (is.variables place before)
    | inr behind ↦ let here : length scope ≡ place = omega (arith, length_push scope x) in rw (get_or_push scope x 0 place here) passes.in_range
  ];
  different = λ place other before lt. elim (cases_lt other (length scope)) [
    | inl both ↦ let one : place < length scope = omega arith in rw (get_or_append_left scope (x ∷ []) 0 place one, get_or_append_left scope (x ∷ []) 0 other both) (is.different place other before both)
    | inr last ↦ let here : length scope ≡ other = omega (arith, length_push scope x) in let one : place < length scope = omega arith in rw (get_or_append_left scope (x ∷ []) 0 place one, get_or_push scope x 0 other here) (absent scope x place passes.fresh one)
  ];
  few = rw (cells-more sizes scope x) passes.few;
}

or_false : (b : Bool) → (b || false) ≡ b
or_false true = refl
or_false false = refl

or_true : (b : Bool) → (b || true) ≡ true
or_true true = refl
or_true false = refl

pub stamped : (sizes stamps : List ℕ) (number : ℕ) (scope : List ℕ) (so_far x : ℕ) → Keeps sizes stamps number scope so_far → check_variable sizes scope (pos x) ≡ None
    → Keeps sizes (slice_set stamps x number) number (scope ++ x ∷ []) (so_far * slice_index sizes x)
stamped sizes stamps number scope so_far x keeps e =
    let p = passes sizes scope x e in
    let there : x < length stamps = omega (arith, p.in_range, keeps.each) in
    record {
      domains = keeps.domains;
      each = length-set stamps x number ∙ keeps.each;
      counted = keeps.counted;
      earlier = λ y. elim (cases_eq y x) [
        | inl same ↦ rw (same, get_or-set_same stamps x number 0 there) (omega arith)
        | inr other ↦ rw (get_or-set_other stamps x y number 0 other) (keeps.earlier y)
      ];
      stamped = λ y. list_any-append (λ v. v == y) scope (x ∷ []) ∙ elim (cases_eq y x) [
        | inl same ↦ rw (same, get_or-set_same stamps x number 0 there, eq-eqb x x refl, eq-eqb number number refl) (or_true (list_any (λ v. v == x) scope))
        | inr other ↦ rw (get_or-set_other stamps x y number 0 other, ne_eqb x y (λ e. other (sym e))) (or_false (list_any (λ v. v == y) scope) ∙ keeps.stamped y)
      ];
      scope = longer sizes scope x keeps.scope p;
      cells = ap (λ n. n * slice_index sizes x) keeps.cells ∙ sym (cells-more sizes scope x);
    }
