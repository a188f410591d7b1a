-- New sets.
use Rattle.std.proofs.Common.{◌≡◌, ◌≢◌, ℕ, ◌+◌, ◌<◌, true, List, [], ◌∷◌, length, get_or, set, map, replicate, refl, sym, ap, ◌∙◌, subst, inl, inr, arith}
use Rattle.std.proofs.lemmas.Bool.{cases_eq}
use Rattle.std.proofs.lemmas.Bool.Decides.{nat_tests}
use Rattle.std.proofs.lemmas.List.{get_or-set_same, get_or-set_other, length-map, length-replicate}
use Rattle.std.specs.Prelude.{◌⊎◌, nat_lt}
use Rattle.cfn_rows.specs.Jagged.{row_at}
use Rattle.cfn_rows.specs.Tables.{IsTrail}
use Rattle.cfn_rows.proofs.Tracing.{size_at}

pub sizes_of_filled : (sizes : List ℕ) → map length (map (λ n. replicate {A = ℕ} n 0) sizes) ≡ sizes
sizes_of_filled [] = refl
sizes_of_filled (n ∷ sizes) = ap (λ m. m ∷ map length (map (λ n. replicate {A = ℕ} n 0) sizes)) (length-replicate n 0) ∙ ap (λ l. n ∷ l) (sizes_of_filled sizes)

-- each value at its own place, up to a row
abbrev pub UpTo : List (List ℕ) → ℕ → Type 0
UpTo rows x = (y a : ℕ) → y < x → a < length (row_at rows y) → get_or (row_at rows y) a 0 ≡ a

pub one_row_more : (rows : List (List ℕ)) (x : ℕ) (row : List ℕ) → x < length rows → ((a : ℕ) → a < length row → get_or row a 0 ≡ a) → UpTo rows x → UpTo (set rows x row) (x + 1)
one_row_more rows x row there own up = λ y a below inside. by y a below inside (cases_eq y x)
  where
    by : (y a : ℕ) → y < x + 1 → a < length (row_at (set rows x row) y) → (y ≡ x) ⊎ (y ≢ x) → get_or (row_at (set rows x row) y) a 0 ≡ a
    by y a below inside (inl same) =
        let is : row_at (set rows x row) y ≡ row = ap (row_at (set rows x row)) same ∙ get_or-set_same rows x row [] there in
        ap (λ r. get_or r a 0) is ∙ own a (subst (λ r. a < length r) is inside)
    by y a below inside (inr other) =
        let is : row_at (set rows x row) y ≡ row_at rows y = get_or-set_other rows x y row [] other in
        ap (λ r. get_or r a 0) is ∙ up y a (omega (arith, below, other)) (subst (λ r. a < length r) is inside)

-- with no event all is live
pub made : (values places : List (List ℕ)) (sizes : List ℕ) → map length values ≡ sizes → map length places ≡ sizes → UpTo values (length values) → UpTo places (length places) → IsTrail values places sizes [] []
made values places sizes of_values of_places own_value own_place = record {
  rows = rows;
  orders = λ x l. record {
    same = size x;
    value = λ i m. (let m' : i < length (row_at values x) = omega (arith, m, size x) in let is = own_value x i (omega (arith, l, rows)) m' in (omega (arith, is, m), ap (λ a. get_or (row_at places x) a 0) is ∙ own_place x i l m));
    place = λ a m. (let is = own_place x a l m in (omega (arith, is, m), ap (λ i. get_or (row_at values x) i 0) is ∙ own_value x a (omega (arith, l, rows)) (omega (arith, m, size x))));
  };
  counted = sym (ap length of_places) ∙ length-map places length;
  within = λ x l. (let e = count x in omega (arith, e));
  traced = λ x a l m. sym (low (get_or (row_at places x) a 0) (get_or sizes x 0) (let e = count x in let is = own_place x a l m in omega (arith, e, is, m)));
}
  where
    rows : length values ≡ length places
    rows = sym (length-map values length) ∙ ap length (of_values ∙ sym of_places) ∙ length-map places length

    size : (x : ℕ) → length (row_at values x) ≡ length (row_at places x)
    size x = sym (size_at values x) ∙ ap (λ l. get_or l x 0) (of_values ∙ sym of_places) ∙ size_at places x

    count : (x : ℕ) → get_or sizes x 0 ≡ length (row_at places x)
    count x = ap (λ l. get_or l x 0) (sym of_places) ∙ size_at places x

    low : (a b : ℕ) → a < b → nat_lt a b ≡ true
    low a b l = grind (arith, nat_tests)
