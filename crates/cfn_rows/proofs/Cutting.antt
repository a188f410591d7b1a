-- Where rows lie in their list, and what stays of them where one is written.
use Rattle.std.proofs.Common.{◌≡◌, ℕ, zero, suc, ◌+◌, ◌<◌, ◌≤◌, List, [], ◌∷◌, length, get_or, refl, sym, ap, subst, arith}
use Rattle.std.proofs.lemmas.List.{get_or_read}
use Rattle.std.specs.List.{slice_range}
use Rattle.cfn_rows.specs.Jagged.{row_at, rows_from, rows_of, Rises, IsCut}

pub length_from : {T : Type 0} (items : List T) (from : ℕ) (ends : List ℕ) → length (rows_from items from ends) ≡ length ends
length_from items from [] = refl
length_from items from (end ∷ ends) = ap suc (length_from items end ends)

pub length_of : {T : Type 0} (items : List T) (starts : List ℕ) (size : ℕ) → IsCut starts size → length starts ≡ length (rows_of items starts) + 1
length_of items [] size cut = absurd cut
length_of items (from ∷ ends) size cut = let e = length_from items from ends in omega (arith, e)

pub rises_to : (from : ℕ) (ends : List ℕ) (size : ℕ) → Rises from ends size → from ≤ size
rises_to from [] size rises = rises
rises_to from (end ∷ ends) size rises = let e = rises_to end ends size rises.1 in omega (arith, e)

-- row r begins and ends at places of the list, the row's start at most its end
pub record Lies (starts : List ℕ) (size r : ℕ) : Type 0 where
  pub there : r + 1 < length starts
  pub rises : get_or starts r 0 ≤ get_or starts (r + 1) 0
  pub within : get_or starts (r + 1) 0 ≤ size

pub lies_from : (from : ℕ) (ends : List ℕ) (size r : ℕ) → Rises from ends size → r < length ends → (get_or (from ∷ ends) r 0 ≤ get_or ends r 0) × (get_or ends r 0 ≤ size)
lies_from from [] size r rises there = absurd (omega (arith, there))
lies_from from (end ∷ ends) size zero rises there = (rises.0, rises_to end ends size rises.1)
lies_from from (end ∷ ends) size (suc r) rises there = lies_from end ends size r rises.1 (omega (arith, there))

pub lies : {T : Type 0} (items : List T) (starts : List ℕ) (size r : ℕ) → IsCut starts size → r < length (rows_of items starts) → Lies starts size r
lies items [] size r cut there = absurd cut
lies items (from ∷ ends) size r cut there =
    let e = length_from items from ends in
    let l : r < length ends = omega (arith, e, there) in
    let h = lies_from from ends size r cut l in
    record {
      there = omega (arith, l);
      rises = subst (λ (n : ℕ). get_or (from ∷ ends) r 0 ≤ get_or (from ∷ ends) n 0) (suc_is r) h.0;
      within = subst (λ (n : ℕ). get_or (from ∷ ends) n 0 ≤ size) (suc_is r) h.1;
    }
  where
    suc_is : (r : ℕ) → suc r ≡ r + 1
    suc_is r = omega arith

-- what a row is
row_from : {T : Type 0} (items : List T) (from : ℕ) (ends : List ℕ) (r : ℕ) → r < length ends → row_at (rows_from items from ends) r ≡ slice_range items (get_or (from ∷ ends) r 0) (get_or ends r 0)
row_from items from [] r there = absurd (omega (arith, there))
row_from items from (end ∷ ends) zero there = refl
row_from items from (end ∷ ends) (suc r) there = row_from items end ends r (omega (arith, there))

pub row_is : {T : Type 0} (items : List T) (starts : List ℕ) (size r : ℕ) → IsCut starts size → r < length (rows_of items starts) → slice_range items (get_or starts r 0) (get_or starts (r + 1) 0) ≡ row_at (rows_of items starts) r
row_is items [] size r cut there = absurd cut
row_is items (from ∷ ends) size r cut there =
    let e = length_from items from ends in
    subst (λ (n : ℕ). slice_range items (get_or (from ∷ ends) r 0) (get_or (from ∷ ends) n 0) ≡ row_at (rows_from items from ends) r) (suc_is r) (sym (row_from items from ends r (omega (arith, e, there))))
  where
    suc_is : (r : ℕ) → suc r ≡ r + 1
    suc_is r = omega arith

-- what is read of a row's start and end
pub record Found {T : Type 0} (items : List T) (starts : List ℕ) (r from to : ℕ) : Type 0 where
  pub rises : from ≤ to
  pub within : to ≤ length items
  pub is : slice_range items from to ≡ row_at (rows_of items starts) r

pub found : {T : Type 0} (items : List T) (starts : List ℕ) (r from to : ℕ) → IsCut starts (length items) → r < length (rows_of items starts) → from ≡ get_or starts r from → to ≡ get_or starts (r + 1) to → Found items starts r from to
found items starts r from to cut there a b =
    let h = lies items starts (length items) r cut there in
    let l : r < length starts = omega (arith, h) in
    let e : from ≡ get_or starts r 0 = get_or_read starts r from l a 0 in
    let f : to ≡ get_or starts (r + 1) 0 = get_or_read starts (r + 1) to h.there b 0 in
    record {
      rises = omega (arith, h, e, f);
      within = omega (arith, h, f);
      is = rw (e, f) (row_is items starts (length items) r cut there);
    }
