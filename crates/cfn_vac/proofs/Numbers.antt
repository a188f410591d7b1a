-- One number of a table is written, and every other left.
use Rattle.std.proofs.Common.{◌≡◌, ℕ, ◌+◌, ◌<◌, ◌≤◌, List, [], length, set, refl, sym, ap, ◌∙◌, subst, inl, inr, arith, get_or-set_same, get_or-set_other}
use Rattle.std.proofs.lemmas.List.{length-set}
use Rattle.std.proofs.lemmas.Bool.{cases_eq}
use Rattle.std.specs.Prelude.{slice_index, slice_set}
use Rattle.cfn_rows.specs.Jagged.{row_at}
use Rattle.cfn_model.specs.Network.{Network}
use Rattle.cfn_model.specs.Steps.{IsValue}
use Rattle.cfn_vac.specs.Tables.{HasShape, item, IsFilled}

abbrev pub written : List (List ℕ) → ℕ → ℕ → ℕ → List (List ℕ)
written rows x a number = slice_set rows x (slice_set (row_at rows x) a number)

pub written_here : (rows : List (List ℕ)) (x a number : ℕ) → x < length rows → a < length (row_at rows x) → item (written rows x a number) x a ≡ number
written_here rows x a number l m = ap (λ row. slice_index row a) (get_or-set_same rows x (set (row_at rows x) a number) [] l) ∙ get_or-set_same (row_at rows x) a number 0 m

pub written_there : (rows : List (List ℕ)) (x a number y b : ℕ) → x < length rows → (x ≡ y → a ≡ b → ⊥) → item (written rows x a number) y b ≡ item rows y b
written_there rows x a number y b l apart = elim (cases_eq x y) [
  | inl here ↦ (let e = ap (λ n. item (written rows x a number) n b) (sym here) ∙ ap (λ row. slice_index row b) (get_or-set_same rows x (set (row_at rows x) a number) [] l) in
      e ∙ get_or-set_other (row_at rows x) a b number 0 (λ d. apart here (sym d)) ∙ ap (λ n. item rows n b) here)
  | inr other ↦ ap (λ row. slice_index row b) (get_or-set_other rows x y (set (row_at rows x) a number) [] (λ d. other (sym d)))
]

row_length : (rows : List (List ℕ)) (x a number y : ℕ) → x < length rows → length (row_at (written rows x a number) y) ≡ length (row_at rows y)
row_length rows x a number y l = elim (cases_eq x y) [
  | inl here ↦ ap (λ n. length (row_at (written rows x a number) n)) (sym here) ∙ ap length (get_or-set_same rows x (set (row_at rows x) a number) [] l) ∙ length-set (row_at rows x) a number ∙ ap (λ n. length (row_at rows n)) here
  | inr other ↦ ap length (get_or-set_other rows x y (set (row_at rows x) a number) [] (λ d. other (sym d)))
]

pub written_shape : (P : Network) (rows : List (List ℕ)) (x a number : ℕ) → HasShape P rows → x < length P.sizes → HasShape P (written rows x a number)
written_shape P rows x a number shape l =
    let n = shape.variables in
    record {
      variables = length-set rows x (set (row_at rows x) a number) ∙ n;
      values = λ y m. row_length rows x a number y (omega (arith, l, n)) ∙ shape.values y m;
    }

pub within : (P : Network) (rows : List (List ℕ)) (x a : ℕ) → HasShape P rows → IsValue P x a → (x < length rows) × (a < length (row_at rows x))
within P rows x a shape value =
    let n = shape.variables in let m = shape.values x value.variable in let v = value.variable in let w = value.value in
    (omega (arith, n, v), omega (arith, m, w))

-- where filling is: the first n values of x have the number
pub record IsFilling (P : Network) (x number n : ℕ) (old new : List (List ℕ)) : Type 0 where
  pub shape : HasShape P new
  pub here : (a : ℕ) → a < n → IsValue P x a → item new x a ≡ number
  pub others : (y a : ℕ) → IsValue P y a → (y ≡ x → n ≤ a) → item new y a ≡ item old y a

pub filling_none : (P : Network) (x number : ℕ) (rows : List (List ℕ)) → HasShape P rows → IsFilling P x number 0 rows rows
filling_none P x number rows shape = record { shape = shape; here = λ a l. absurd (omega (arith, l)); others = λ y a value apart. refl }

pub filling_more : (P : Network) (x number n : ℕ) (old now : List (List ℕ)) → IsFilling P x number n old now → IsValue P x n → IsFilling P x number (n + 1) old (written now x n number)
filling_more P x number n old now f value =
    let at = within P now x n f.shape value in
    record {
      shape = written_shape P now x n number f.shape value.variable;
      here = λ a l v. elim (cases_eq n a) [
        | inl e ↦ subst (λ b. item (written now x n number) x b ≡ number) e (written_here now x n number at.0 at.1)
        | inr e ↦ written_there now x n number x a at.0 (λ same other. e other) ∙ f.here a (omega (arith, l, e)) v
      ];
      others = λ y a v apart.
          written_there now x n number y a at.0 (λ same other. (let h = apart (sym same) in omega (arith, h, other)))
          ∙ f.others y a v (λ same. (let h = apart same in omega (arith, h)));
    }

pub filled : (P : Network) (x number n : ℕ) (old now : List (List ℕ)) → IsFilling P x number n old now → slice_index P.sizes x ≤ n → IsFilled P x number old now
filled P x number n old now f all = record {
  shape = f.shape;
  here = λ a v. (let l = v.value in f.here a (omega (arith, l, all)) v);
  others = λ y a v apart. f.others y a v (λ same. absurd (apart same));
}
