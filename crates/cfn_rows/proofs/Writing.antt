-- What rows are where items are written over a part of their list.
use Rattle.std.proofs.Common.{◌≡◌, ℕ, zero, suc, ◌+◌, ◌-◌, ◌<◌, ◌≤◌, List, [], ◌∷◌, ◌++◌, length, take, drop, get_or, set, refl, sym, ap, ◌∙◌, arith}
use Rattle.std.proofs.Math.Seq.{drop-nil, drop-append-add, take-append_seam, take-length, drop-length}
use Rattle.std.proofs.lemmas.List.{get_or_read, drop-take, take-append-le, drop-append-le, length-append, length-take-le, length-drop}
use Rattle.std.specs.List.{slice_range}
use Rattle.cfn_rows.specs.Jagged.{row_at, rows_from, rows_of, Rises, IsCut, written, with_row}
use Rattle.cfn_rows.proofs.Cutting.{length_from, rises_to, lies_from}

module _ {T : Type 0} where
  -- items written over others, from the first on
  abbrev over : List T → List T → List T
  over items below = items ++ drop (length items) below

  over_drop : (j : ℕ) (w s : List T) → drop j (over w s) ≡ over (drop j w) (drop j s)
  over_drop zero w s = refl
  over_drop (suc j) [] s = refl
  over_drop (suc j) (x ∷ w) [] = ap (λ l. drop j (w ++ l)) (sym (drop-nil (length w))) ∙ over_drop j w [] ∙ ap (over (drop j w)) (drop-nil j)
  over_drop (suc j) (x ∷ w) (y ∷ s) = over_drop j w s

  take_take : (n m : ℕ) (s : List T) → n ≤ m → take n (take m s) ≡ take n s
  take_take zero m s h = refl
  take_take (suc n) zero s h = absurd (omega (arith, h))
  take_take (suc n) (suc m) [] h = refl
  take_take (suc n) (suc m) (x ∷ s) h = ap (λ l. x ∷ l) (take_take n m s (omega (arith, h)))

  over_take : (m : ℕ) (w s : List T) → take m (over w (take m s)) ≡ take m (over w s)
  over_take zero w s = refl
  over_take (suc m) [] s = take_take (suc m) (suc m) s (omega arith)
  over_take (suc m) (x ∷ w) [] = refl
  over_take (suc m) (x ∷ w) (y ∷ s) = ap (λ l. x ∷ l) (over_take m w s)

  drop_drop : (i j : ℕ) (s : List T) → drop j (drop i s) ≡ drop (i + j) s
  drop_drop zero j s = ap (λ n. drop n s) (nothing j)
    where
      nothing : (j : ℕ) → j ≡ 0 + j
      nothing j = omega arith
  drop_drop (suc i) j [] = drop-nil j ∙ sym (drop-nil (suc i + j))
  drop_drop (suc i) j (x ∷ s) = drop_drop i j s ∙ ap (λ n. drop n (x ∷ s)) (sucs i j)
    where
      sucs : (i j : ℕ) → suc (i + j) ≡ suc i + j
      sucs i j = omega arith

  -- a part of a front, and of what has more behind it
  part_front : (n p q : ℕ) (s : List T) → p ≤ q → q ≤ n → slice_range (take n s) p q ≡ slice_range s p q
  part_front n p q s h k =
      ap (λ m. take (q - p) (drop p (take m s))) (back p n (omega (arith, h, k)))
      ∙ ap (take (q - p)) (drop-take p (n - p) s)
      ∙ take_take (q - p) (n - p) (drop p s) (omega (arith, h, k))
    where
      back : (p n : ℕ) → p ≤ n → n ≡ p + (n - p)
      back p n h = omega (arith, h)

  part_before : (s t : List T) (p q : ℕ) → p ≤ q → q ≤ length s → slice_range (s ++ t) p q ≡ slice_range s p q
  part_before s t p q h k =
      ap (take (q - p)) (drop-append-le p s t (omega (arith, h, k)))
      ∙ take-append-le (q - p) (drop p s) t (let e = length-drop p s in omega (arith, e, h, k))

  length_part : (s : List T) (p q : ℕ) → p ≤ q → q ≤ length s → length (slice_range s p q) ≡ q - p
  length_part s p q h k = length-take-le (q - p) (drop p s) (let e = length-drop p s in omega (arith, e, h, k))

  module _ (items w behind : List T) (a : ℕ) (there : a ≤ length items) where
    -- the list, with items written from place a on, and cut to its length
    abbrev after : List T
    after = take (length items) ((take a items ++ over w (drop a items)) ++ behind)

    long : length items ≤ length (take a items ++ over w (drop a items))
    long =
        let e = length-append (take a items) (over w (drop a items)) in
        let f = length-append w (drop (length w) (drop a items)) in
        let g = length-take-le a items there in
        let h = length-drop (length w) (drop a items) in
        let k = length-drop a items in
        omega (arith, e, f, g, h, k)

    part_after : (p q : ℕ) → p ≤ q → q ≤ length items → slice_range after p q ≡ slice_range (take a items ++ over w (drop a items)) p q
    part_after p q h k =
        part_front (length items) p q ((take a items ++ over w (drop a items)) ++ behind) h k
        ∙ part_before (take a items ++ over w (drop a items)) behind p q h (omega (arith, k, long))

    -- a part before the place is as it was
    part_same : (p q : ℕ) → p ≤ q → q ≤ a → slice_range after p q ≡ slice_range items p q
    part_same p q h k =
        part_after p q h (omega (arith, k, there))
        ∙ part_before (take a items) (over w (drop a items)) p q h (let e = length-take-le a items there in omega (arith, k, e))
        ∙ part_front a p q items h k

    -- a part behind it has the items that come to lie there
    part_over : (p q j : ℕ) → p ≡ a + j → p ≤ q → q ≤ length items → slice_range after p q ≡ take (length (slice_range items p q)) (over (drop j w) (slice_range items p q))
    part_over p q j at h k =
        part_after p q h k
        ∙ ap (take (q - p)) (shifted ∙ over_drop j w (drop a items) ∙ ap (over (drop j w)) (drop_drop a j items ∙ ap (λ n. drop n items) (sym at)))
        ∙ sym (over_take (q - p) (drop j w) (drop p items))
        ∙ ap (λ n. take n (over (drop j w) (slice_range items p q))) (sym (length_part items p q h k))
      where
        shifted : drop p (take a items ++ over w (drop a items)) ≡ drop j (over w (drop a items))
        shifted = ap (λ n. drop n (take a items ++ over w (drop a items))) (at ∙ ap (λ n. n + j) (sym (length-take-le a items there))) ∙ drop-append-add (take a items) (over w (drop a items)) j

    rows_over : (p : ℕ) (ends : List ℕ) (j : ℕ) → p ≡ a + j → Rises p ends (length items) → rows_from after p ends ≡ written (rows_from items p ends) (drop j w)
    rows_over p [] j at rises = refl
    rows_over p (q ∷ ends) j at rises =
        let k = rises_to q ends (length items) rises.1 in
        let next : q ≡ a + (j + (q - p)) = omega (arith, at, rises.0) in
        let here = part_over p q j at rises.0 k in
        let less = drop_drop j (q - p) w ∙ ap (λ n. drop (j + n) w) (sym refl) in
        ap (λ l. l ∷ rows_from after q ends) here
        ∙ ap (λ l. take (length (slice_range items p q)) (over (drop j w) (slice_range items p q)) ∷ l)
        (rows_over q ends (j + (q - p)) next rises.1 ∙ ap (written (rows_from items q ends)) (sym less ∙ ap (λ n. drop n (drop j w)) (sym (length_part items p q rises.0 k))))

    rows_with : (p : ℕ) (ends : List ℕ) (r : ℕ) → r < length ends → Rises p ends (length items) → a ≡ get_or (p ∷ ends) r 0 → rows_from after p ends ≡ with_row (rows_from items p ends) r w
    rows_with p [] r in_range rises at = absurd (omega (arith, in_range))
    rows_with p (q ∷ ends) zero in_range rises at = rows_over p (q ∷ ends) 0 (omega (arith, at)) rises
    rows_with p (q ∷ ends) (suc r) in_range rises at =
        let l : r < length ends = omega (arith, in_range) in
        let up = rise_at q ends r l rises.1 in
        let below : q ≤ a = omega (arith, at, up) in
        ap (λ l. l ∷ rows_from after q ends) (part_same p q rises.0 below)
        ∙ ap (λ l. slice_range items p q ∷ l) (rows_with q ends r l rises.1 at)
      where
        rise_at : (q : ℕ) (ends : List ℕ) (r : ℕ) → r < length ends → Rises q ends (length items) → q ≤ get_or (q ∷ ends) r 0
        rise_at q ends zero l rises = omega arith
        rise_at q [] (suc r) l rises = absurd (omega (arith, l))
        rise_at q (e ∷ ends) (suc r) l rises = let h = rise_at e ends r (omega (arith, l)) rises.1 in omega (arith, h, rises.0)

  -- the list cut into its rows
  pub rows_after : (items w : List T) (starts : List ℕ) (size a r : ℕ) → IsCut starts (length items) → r < length (rows_of items starts) → a ≡ get_or starts r a → size ≡ length items → rows_of (take size ((take a items ++ over w (drop a items)) ++ drop (length (take a items ++ over w (drop a items))) items)) starts ≡ with_row (rows_of items starts) r w
  rows_after items w [] size a r cut in_range at all = absurd cut
  rows_after items w (from ∷ ends) size a r cut in_range at all =
      let e = length_from items from ends in
      let l : r < length ends = omega (arith, e, in_range) in
      let here : a ≡ get_or (from ∷ ends) r 0 = get_or_read (from ∷ ends) r a (omega (arith, l)) at 0 in
      let h = lies_from from ends (length items) r cut l in
      let there : a ≤ length items = omega (arith, here, h) in
      ap (λ n. rows_from (take n ((take a items ++ over w (drop a items)) ++ drop (length (take a items ++ over w (drop a items))) items)) from ends) all
      ∙ rows_with items w (drop (length (take a items ++ over w (drop a items))) items) a there from ends r l cut here

  -- as many items as the row has are the new row
  written_none : (rows : List (List T)) → written rows [] ≡ rows
  written_none [] = refl
  written_none (row ∷ rows) = ap (λ l. l ∷ written rows (drop (length row) [])) (take-length row) ∙ ap (λ l. row ∷ l) (ap (written rows) (drop-nil (length row)) ∙ written_none rows)

  pub with_is_set : (rows : List (List T)) (r : ℕ) (w : List T) → length w ≡ length (row_at rows r) → with_row rows r w ≡ set rows r w
  with_is_set [] r w e = refl
  with_is_set (row ∷ rows) zero w e =
      ap (λ l. l ∷ written rows (drop (length row) w)) (ap (λ n. take n (over w row)) (sym e) ∙ take-append_seam w (drop (length w) row))
      ∙ ap (λ l. w ∷ l) (ap (λ n. written rows (drop n w)) (sym e) ∙ ap (written rows) (drop-length w) ∙ written_none rows)
  with_is_set (row ∷ rows) (suc r) w e = ap (λ l. row ∷ l) (with_is_set rows r w e)
