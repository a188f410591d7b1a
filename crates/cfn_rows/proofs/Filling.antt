-- Rows of one value.
use Rattle.std.proofs.Common.{◌≡◌, ℕ, zero, suc, ◌+◌, ◌-◌, ◌≤◌, List, [], ◌∷◌, ◌++◌, length, take, drop, get_or, map, replicate, refl, sym, ap, ◌∙◌, subst, arith}
use Rattle.std.proofs.lemmas.List.Sums.{sum_by-cons}
use Rattle.std.specs.List.{sum_by, slice_range}
use Rattle.cfn_rows.specs.Jagged.{ends_from, rows_from, rows_of, Rises, IsCut}

abbrev pub sum : List ℕ → ℕ
sum lengths = sum_by (λ n. n) lengths

pub sum_behind : (n : ℕ) (lengths : List ℕ) → sum (lengths ++ n ∷ []) ≡ sum lengths + n
sum_behind n [] = sum_by-cons (λ n. n) n [] ∙ omega arith
sum_behind n (m ∷ lengths) = let a = sum_by-cons (λ n. n) m (lengths ++ n ∷ []) in let b = sum_by-cons (λ n. n) m lengths in let h = sum_behind n lengths in omega (arith, a, b, h)

-- one more row
pub ends_behind : (from n : ℕ) (lengths : List ℕ) → ends_from from (lengths ++ n ∷ []) ≡ ends_from from lengths ++ (from + sum lengths + n) ∷ []
ends_behind from n [] = ap (λ m. m ∷ []) (omega arith)
ends_behind from n (m ∷ lengths) =
    ap (λ l. (from + m) ∷ l) (ends_behind (from + m) n lengths ∙ ap (λ k. ends_from (from + m) lengths ++ k ∷ []) (same (sum lengths) (sum (m ∷ lengths)) (sum_by-cons (λ n. n) m lengths)))
  where
    same : (s t : ℕ) → t ≡ m + s → from + m + s + n ≡ from + t + n
    same s t e = omega (arith, e)

-- the last end is the sum of the lengths
pub last_end : (from : ℕ) (lengths : List ℕ) → get_or (from ∷ ends_from from lengths) (length lengths) 0 ≡ from + sum lengths
last_end from [] = omega arith
last_end from (n ∷ lengths) = let h = last_end (from + n) lengths in let e = sum_by-cons (λ n. n) n lengths in h ∙ omega (arith, e)

pub ends_length : (from : ℕ) (lengths : List ℕ) → length (ends_from from lengths) ≡ length lengths
ends_length from [] = refl
ends_length from (n ∷ lengths) = ap suc (ends_length (from + n) lengths)

pub ends_rise : (from : ℕ) (lengths : List ℕ) (size : ℕ) → from + sum lengths ≤ size → Rises from (ends_from from lengths) size
ends_rise from [] size h = omega (arith, h)
ends_rise from (n ∷ lengths) size h = let e = sum_by-cons (λ n. n) n lengths in (omega arith, ends_rise (from + n) lengths size (omega (arith, e, h)))

module _ {T : Type 0} (value : T) where
  take_same : (n m : ℕ) → n ≤ m → take n (replicate m value) ≡ replicate n value
  take_same zero m h = refl
  take_same (suc n) zero h = absurd (omega (arith, h))
  take_same (suc n) (suc m) h = ap (λ l. value ∷ l) (take_same n m (omega (arith, h)))

  drop_same : (n m : ℕ) → drop n (replicate m value) ≡ replicate (m - n) value
  drop_same zero m = ap (λ k. replicate k value) (all m)
    where
      all : (m : ℕ) → m ≡ m - 0
      all m = omega arith
  drop_same (suc n) zero = ap (λ k. replicate k value) (none n)
    where
      none : (n : ℕ) → 0 ≡ 0 - suc n
      none n = omega arith
  drop_same (suc n) (suc m) = drop_same n m ∙ ap (λ k. replicate k value) (less m n)
    where
      less : (m n : ℕ) → m - n ≡ suc m - suc n
      less m n = omega arith

  part_same : (size from n : ℕ) → from + n ≤ size → slice_range (replicate size value) from (from + n) ≡ replicate n value
  part_same size from n h =
      ap (take ((from + n) - from)) (drop_same from size)
      ∙ take_same ((from + n) - from) (size - from) (omega (arith, h))
      ∙ ap (λ k. replicate k value) (back from n)
    where
      back : (from n : ℕ) → (from + n) - from ≡ n
      back from n = omega arith

  pub filled_from : (size from : ℕ) (lengths : List ℕ) → from + sum lengths ≤ size → rows_from (replicate size value) from (ends_from from lengths) ≡ map (λ n. replicate n value) lengths
  filled_from size from [] h = refl
  filled_from size from (n ∷ lengths) h =
      let e = sum_by-cons (λ n. n) n lengths in
      ap (λ l. l ∷ rows_from (replicate size value) (from + n) (ends_from (from + n) lengths)) (part_same size from n (omega (arith, e, h)))
      ∙ ap (λ l. replicate n value ∷ l) (filled_from size (from + n) lengths (omega (arith, e, h)))

-- what a vector that was empty is resized to
pub resized : {T : Type 0} (value : T) (items empty : List T) (size none : ℕ) → empty ≡ [] → none ≡ 0 → items ≡ take size empty ++ replicate (size - none) value → items ≡ replicate size value
resized value items empty size none e n is =
    is ∙ ap (λ l. take size l ++ replicate (size - none) value) e ∙ ap (λ l. l ++ replicate (size - none) value) (nothing size) ∙ ap (λ k. replicate k value) (all size none n)
  where
    nothing : {T : Type 0} (size : ℕ) → ◌≡◌ {A = List T} (take size []) []
    nothing zero = refl
    nothing (suc size) = refl

    all : (size none : ℕ) → none ≡ 0 → size - none ≡ size
    all size none n = omega (arith, n)

-- rows of these lengths, in a list that is as long as they are together
pub filled_is : {T : Type 0} (value : T) (items : List T) (starts lengths : List ℕ) (size : ℕ) → starts ≡ 0 ∷ ends_from 0 lengths → size ≡ get_or starts (length lengths) 0 → items ≡ replicate size value → rows_of items starts ≡ map (λ n. replicate n value) lengths
filled_is value items starts lengths size at all are =
    let total : size ≡ 0 + sum lengths = all ∙ ap (λ l. get_or l (length lengths) 0) at ∙ last_end 0 lengths in
    ap (rows_of items) at ∙ ap (λ l. rows_from l 0 (ends_from 0 lengths)) are ∙ filled_from value size 0 lengths (omega (arith, total))

pub filled_cut : (starts lengths : List ℕ) (size : ℕ) → starts ≡ 0 ∷ ends_from 0 lengths → size ≡ get_or starts (length lengths) 0 → IsCut starts size
filled_cut starts lengths size at all =
    let total : size ≡ 0 + sum lengths = all ∙ ap (λ l. get_or l (length lengths) 0) at ∙ last_end 0 lengths in
    subst (λ l. IsCut l size) (sym at) (ends_rise 0 lengths size (omega (arith, total)))
