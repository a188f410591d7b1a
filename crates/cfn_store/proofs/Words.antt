-- One word of rows written, and every other left.
use Rattle.std.proofs.Common.{◌≡◌, ℕ, ◌+◌, ◌-◌, ◌%◌, ◌<◌, ◌^◌, List, [], length, set, sym, ap, subst, ◌∙◌, inl, inr, arith, get_or-set_same, get_or-set_other}
use Rattle.std.proofs.lemmas.List.{length-set}
use Rattle.std.proofs.lemmas.Bool.{cases_eq}
use Rattle.std.proofs.lemmas.Int.{ints}
use Rattle.std.specs.Prelude.{ℤ, pos, neg_ℤ, ◌+ℤ◌, slice_index}
use Rattle.cfn_rows.specs.Jagged.{row_at}
use Rattle.cfn_scan.specs.Wrapped.{StandsFor}
use Rattle.cfn_store.specs.Sums.{has_word, has_more, has_less}
use Rattle.cfn_scan.proofs.CallerLemmas.{plus_stands, less_stands}

pub word_here : (rows : List (List ℕ)) (r i w : ℕ) → r < length rows → i < length (row_at rows r) → slice_index (row_at (has_word rows r i w) r) i ≡ w
word_here rows r i w l m = ap (λ row. slice_index row i) (get_or-set_same rows r (set (row_at rows r) i w) [] l) ∙ get_or-set_same (row_at rows r) i w 0 m

pub word_there : (rows : List (List ℕ)) (r i w q j : ℕ) → r < length rows → (r ≡ q → i ≡ j → ⊥) → slice_index (row_at (has_word rows r i w) q) j ≡ slice_index (row_at rows q) j
word_there rows r i w q j l apart = elim (cases_eq r q) [
  | inl here ↦ (let e = ap (λ n. slice_index (row_at (has_word rows r i w) n) j) (sym here) ∙ ap (λ row. slice_index row j) (get_or-set_same rows r (set (row_at rows r) i w) [] l) in
      e ∙ get_or-set_other (row_at rows r) i j w 0 (λ d. apart here (sym d)) ∙ ap (λ n. slice_index (row_at rows n) j) here)
  | inr other ↦ ap (λ row. slice_index row j) (get_or-set_other rows r q (set (row_at rows r) i w) [] (λ d. other (sym d)))
]

pub rows_length : (rows : List (List ℕ)) (r i w : ℕ) → length (has_word rows r i w) ≡ length rows
rows_length rows r i w = length-set rows r (set (row_at rows r) i w)

pub row_length : (rows : List (List ℕ)) (r i w q : ℕ) → r < length rows → length (row_at (has_word rows r i w) q) ≡ length (row_at rows q)
row_length rows r i w q l = elim (cases_eq r q) [
  | inl here ↦ ap (λ n. length (row_at (has_word rows r i w) n)) (sym here) ∙ ap length (get_or-set_same rows r (set (row_at rows r) i w) [] l) ∙ length-set (row_at rows r) i w ∙ ap (λ n. length (row_at rows n)) here
  | inr other ↦ ap length (get_or-set_other rows r q (set (row_at rows r) i w) [] (λ d. other (sym d)))
]

-- a word that is written stands for more, or for less, and another for what it stood for
pub more_here : (rows : List (List ℕ)) (r i m : ℕ) (z : ℤ) → r < length rows → i < length (row_at rows r) → StandsFor (slice_index (row_at rows r) i) z → StandsFor (slice_index (row_at (has_more rows r i m) r) i) (pos m +ℤ z)
more_here rows r i m z l k s =
    let swap : (z +ℤ pos m) ≡ (pos m +ℤ z) = omega (arith, ints) in
    subst (λ w. StandsFor w (pos m +ℤ z)) (sym (word_here rows r i ((slice_index (row_at rows r) i + m) % 2 ^ 64) l k)) (subst (StandsFor ((slice_index (row_at rows r) i + m) % 2 ^ 64)) swap (plus_stands (slice_index (row_at rows r) i) m z s))

pub less_here : (rows : List (List ℕ)) (r i m : ℕ) (z : ℤ) → r < length rows → i < length (row_at rows r) → m < 2 ^ 64 → StandsFor (slice_index (row_at rows r) i) z → StandsFor (slice_index (row_at (has_less rows r i m) r) i) (neg_ℤ (pos m) +ℤ z)
less_here rows r i m z l k small s =
    let swap : (z +ℤ neg_ℤ (pos m)) ≡ (neg_ℤ (pos m) +ℤ z) = omega (arith, ints) in
    subst (λ w. StandsFor w (neg_ℤ (pos m) +ℤ z)) (sym (word_here rows r i ((slice_index (row_at rows r) i + (2 ^ 64 - m)) % 2 ^ 64) l k)) (subst (StandsFor ((slice_index (row_at rows r) i + (2 ^ 64 - m)) % 2 ^ 64)) swap (less_stands (slice_index (row_at rows r) i) m z small s))

pub word_stays : (rows : List (List ℕ)) (r i w q j : ℕ) (z : ℤ) → r < length rows → (r ≡ q → i ≡ j → ⊥) → StandsFor (slice_index (row_at rows q) j) z → StandsFor (slice_index (row_at (has_word rows r i w) q) j) (pos 0 +ℤ z)
word_stays rows r i w q j z l apart s =
    let same : z ≡ (pos 0 +ℤ z) = omega (arith, ints) in
    subst (λ v. StandsFor v (pos 0 +ℤ z)) (sym (word_there rows r i w q j l apart)) (subst (StandsFor (slice_index (row_at rows q) j)) same s)
