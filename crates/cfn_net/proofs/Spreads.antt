-- Tables of which the entries that differ from a default are listed.
use Rattle.std.proofs.Common.{◌≡◌, ◌≢◌, ℕ, suc, zero, ◌+◌, ◌<◌, ◌≤◌, ◌⊎◌, inl, inr, Bool, true, false, List, [], ◌∷◌, ◌++◌, length, get_or, set, take, Result, Ok, Err, MatchResult, refl, sym, ap, subst, ◌∙◌, arith}
use Rattle.std.specs.Prelude.{if◌then◌else◌, ◌==◌}
use Rattle.std.specs.List.Sorted.{IsSearchInRange, IsBinarySearchResult, IsNonDecreasingBy}
use Rattle.std.specs.Ordering.{nat_cmp, ordering_index}
use Rattle.std.proofs.lemmas.Bool.{cases_lt, cases_eq}
use Rattle.std.proofs.lemmas.Bool.Decides.{nat_tests}
use Rattle.std.proofs.lemmas.Cmp.{ranked}
use Rattle.std.proofs.lemmas.List.{ext_get_or, get_or_at, get_or_default, length_push, take_more}
use Rattle.std.proofs.lemmas.List.Sorted.{IsNonDecreasingBy-from_default}
use Rattle.std.proofs.lemmas.List.FromFn.{length-map-range_with_len, get_or-map-range_with_len}
use Rattle.cfn_net.specs.Listed.{AreListings, differing, listed_at, listed_cell, spread}
use Rattle.cfn_net.proofs.Listings.{map-range_with_len-set, if_same, if_other}

-- a cell that is listed at no place has the default
pub listed_at-absent : (default : ℕ) (listings : List (ℕ × ℕ)) (cell : ℕ) → ((i : ℕ) → i < length listings → listed_cell listings i ≢ cell) → listed_at default listings cell ≡ default
listed_at-absent default [] cell away = refl
listed_at-absent default (x ∷ listings) cell away =
    if_other x.0 cell x.1 (listed_at default listings cell) (λ e. away 0 (omega arith) (sym e)) ∙ listed_at-absent default listings cell (λ i l. away (suc i) (omega (arith, l)))

-- a cell has the entry of the first place where it is listed
pub listed_at-found : (default : ℕ) (listings : List (ℕ × ℕ)) (cell i : ℕ) → i < length listings → listed_cell listings i ≡ cell → ((j : ℕ) → j < i → listed_cell listings j ≢ cell) → listed_at default listings cell ≡ (get_or listings i (0, 0)).1
listed_at-found default [] cell i l e away = absurd (omega arith)
listed_at-found default (x ∷ listings) cell zero l e away =
    ap (λ n. if x.0 == n then x.1 else listed_at default listings cell) (sym e) ∙ if_same x.0 x.1 (listed_at default listings cell)
listed_at-found default (x ∷ listings) cell (suc i) l e away =
    if_other x.0 cell x.1 (listed_at default listings cell) (λ d. away 0 (omega arith) (sym d)) ∙ listed_at-found default listings cell i (omega (arith, l)) e (λ j m. away (suc j) (omega (arith, m)))

-- one more listing says nothing of the other cells
pub listed_at-push_other : (default : ℕ) (listings : List (ℕ × ℕ)) (x : ℕ × ℕ) (cell : ℕ) → cell ≢ x.0 → listed_at default (listings ++ x ∷ []) cell ≡ listed_at default listings cell
listed_at-push_other default [] x cell ne = if_other x.0 cell x.1 default ne
listed_at-push_other default (y ∷ listings) x cell ne =
    ap (λ n. if y.0 == cell then y.1 else n) (listed_at-push_other default listings x cell ne)

-- and gives its cell its entry, where that was not listed
pub listed_at-push_same : (default : ℕ) (listings : List (ℕ × ℕ)) (x : ℕ × ℕ) → ((i : ℕ) → i < length listings → listed_cell listings i ≢ x.0) → listed_at default (listings ++ x ∷ []) x.0 ≡ x.1
listed_at-push_same default [] x away = if_same x.0 x.1 default
listed_at-push_same default (y ∷ listings) x away =
    if_other y.0 x.0 y.1 (listed_at default (listings ++ x ∷ []) x.0) (λ e. away 0 (omega arith) (sym e)) ∙ listed_at-push_same default listings x (λ i l. away (suc i) (omega (arith, l)))

pub length-spread : (cells default : ℕ) (listings : List (ℕ × ℕ)) → length (spread cells default listings) ≡ cells
length-spread cells default listings = length-map-range_with_len (listed_at default listings) 0 cells

pub get_or-spread : (cells default : ℕ) (listings : List (ℕ × ℕ)) (cell : ℕ) → cell < cells → get_or (spread cells default listings) cell 0 ≡ listed_at default listings cell
get_or-spread cells default listings cell l = get_or-map-range_with_len (listed_at default listings) 0 cells cell cell 0 l (omega arith)

-- the first entries are listed, as far as they differ from the default
pub record Lists (default : ℕ) (entries : List ℕ) (i : ℕ) (listings : List (ℕ × ℕ)) : Type 0 where
  pub are : AreListings i listings
  pub same : (cell : ℕ) → cell < i → listed_at default listings cell ≡ get_or entries cell 0

pub Lists-start : (default : ℕ) (entries : List ℕ) → Lists default entries 0 []
Lists-start default entries = record {
  are = record { rising = λ i j l m. absurd (omega (arith, m)); within = λ i l. absurd (omega (arith, l)) };
  same = λ cell l. absurd (omega (arith, l));
}

below_listed : (i : ℕ) (listings : List (ℕ × ℕ)) → AreListings i listings → (j : ℕ) → j < length listings → listed_cell listings j ≢ i
below_listed i listings are j l e = omega (arith, are.within j l, e)

-- an entry that is the default needs no listing
pub Lists-skip : (default : ℕ) (entries : List ℕ) (i : ℕ) (listings : List (ℕ × ℕ)) → Lists default entries i listings → get_or entries i 0 ≡ default → Lists default entries (i + 1) listings
Lists-skip default entries i listings s e = record {
  are = record { rising = s.are.rising; within = λ j l. omega (arith, s.are.within j l) };
  same = λ cell l. each cell (omega (arith, l)) (cases_eq cell i);
}
  where
    each : (cell : ℕ) → cell ≤ i → (cell ≡ i) ⊎ (cell ≢ i) → listed_at default listings cell ≡ get_or entries cell 0
    each cell l (inl same) =
        subst (λ n. listed_at default listings n ≡ get_or entries n 0) (sym same) (listed_at-absent default listings i (below_listed i listings s.are) ∙ sym e)
    each cell l (inr other) = s.same cell (omega arith)

listed_cell-push_below : (listings : List (ℕ × ℕ)) (x : ℕ × ℕ) (j : ℕ) → j < length listings → listed_cell (listings ++ x ∷ []) j ≡ listed_cell listings j
listed_cell-push_below [] x j l = absurd (omega arith)
listed_cell-push_below (y ∷ listings) x zero l = refl
listed_cell-push_below (y ∷ listings) x (suc j) l = listed_cell-push_below listings x j (omega (arith, l))

listed_cell-push_at : (listings : List (ℕ × ℕ)) (x : ℕ × ℕ) (j : ℕ) → length listings ≡ j → listed_cell (listings ++ x ∷ []) j ≡ x.0
listed_cell-push_at listings x j e = ap (λ (p : ℕ × ℕ). p.0) (get_or_at listings x [] (0, 0) j e)

AreListings-push : (i v : ℕ) (listings : List (ℕ × ℕ)) → AreListings i listings → AreListings (i + 1) (listings ++ (i, v) ∷ [])
AreListings-push i v listings are = record {
  rising = λ j k l m. rising j k l (omega (arith, m, length_push listings (i, v))) (cases_lt k (length listings));
  within = λ j m. within j (omega (arith, m, length_push listings (i, v))) (cases_lt j (length listings));
}
  where
    rising : (j k : ℕ) → j < k → k ≤ length listings → (k < length listings) ⊎ (length listings ≤ k) → listed_cell (listings ++ (i, v) ∷ []) j < listed_cell (listings ++ (i, v) ∷ []) k
    rising j k l m (inl b) =
        omega (arith, listed_cell-push_below listings (i, v) j (omega arith), listed_cell-push_below listings (i, v) k b, are.rising j k l b)
    rising j k l m (inr b) =
        omega (arith, listed_cell-push_below listings (i, v) j (omega arith), listed_cell-push_at listings (i, v) k (omega arith), are.within j (omega arith))

    within : (j : ℕ) → j ≤ length listings → (j < length listings) ⊎ (length listings ≤ j) → listed_cell (listings ++ (i, v) ∷ []) j < i + 1
    within j m (inl b) = omega (arith, listed_cell-push_below listings (i, v) j b, are.within j b)
    within j m (inr b) = omega (arith, listed_cell-push_at listings (i, v) j (omega arith))

-- an entry that differs is listed
pub Lists-more : (default : ℕ) (entries : List ℕ) (i : ℕ) (listings : List (ℕ × ℕ)) → Lists default entries i listings → Lists default entries (i + 1) (listings ++ (i, get_or entries i 0) ∷ [])
Lists-more default entries i listings s = record {
  are = AreListings-push i (get_or entries i 0) listings s.are;
  same = λ cell l. each cell (omega (arith, l)) (cases_eq cell i);
}
  where
    each : (cell : ℕ) → cell ≤ i → (cell ≡ i) ⊎ (cell ≢ i) → listed_at default (listings ++ (i, get_or entries i 0) ∷ []) cell ≡ get_or entries cell 0
    each cell l (inl same) =
        subst (λ n. listed_at default (listings ++ (i, get_or entries i 0) ∷ []) n ≡ get_or entries n 0) (sym same) (listed_at-push_same default listings (i, get_or entries i 0) (below_listed i listings s.are))
    each cell l (inr other) =
        listed_at-push_other default listings (i, get_or entries i 0) cell other ∙ s.same cell (omega arith)

pub Lists-end : (default : ℕ) (entries : List ℕ) (i : ℕ) (listings : List (ℕ × ℕ)) → Lists default entries i listings → length entries ≡ i → spread (length entries) default listings ≡ entries
Lists-end default entries i listings s e =
    let n = length-spread (length entries) default listings in
    ext_get_or 0 _ _ (omega arith) (λ cell l. let m : cell < length entries = omega arith in get_or-spread (length entries) default listings cell m ∙ s.same cell (omega arith))

pub AreListings-all : (entries : List ℕ) (i default : ℕ) (listings : List (ℕ × ℕ)) → Lists default entries i listings → length entries ≡ i → AreListings (length entries) listings
AreListings-all entries i default listings s e = subst (λ n. AreListings n listings) (sym e) s.are

-- what a binary search for a cell's listing finds
pub searched : (cells default : ℕ) (listings : List (ℕ × ℕ)) → AreListings cells listings → (cell : ℕ) → cell < cells → (r : Result ℕ ℕ) → IsSearchInRange r (length listings) → IsBinarySearchResult (λ listing. nat_cmp listing.0 cell) listings r → MatchResult r (λ i. (get_or listings i (0, 0)).1 ≡ get_or (spread cells default listings) cell 0) (λ _. default ≡ get_or (spread cells default listings) cell 0)
searched cells default listings are cell l (Ok i) in_range equal =
    let at : listed_cell listings i ≡ cell = ranked _ cell _ (sym (equal (0, 0))) in
    sym (get_or-spread cells default listings cell l ∙ listed_at-found default listings cell i in_range at (λ j m e. omega (arith, are.rising j i m in_range, at, e)))
searched cells default listings are cell l (Err i) in_range parted =
    let rise : IsNonDecreasingBy (λ listing. ordering_index (nat_cmp listing.0 cell)) listings = comparisons_rise in
    sym (get_or-spread cells default listings cell l ∙ listed_at-absent default listings cell (λ j m. apart rise j m (cases_lt j i)))
  where
    comparisons_rise : IsNonDecreasingBy (λ listing. ordering_index (nat_cmp listing.0 cell)) listings
    comparisons_rise = IsNonDecreasingBy-from_default (λ listing. ordering_index (nat_cmp listing.0 cell)) listings (0, 0) (λ i j le in_range.
        let keys_rise : listed_cell listings i ≤ listed_cell listings j = grind (arith, are.rising i j, λ (same : i ≡ j). ap (listed_cell listings) same) in
        grind (arith, nat_tests))

    apart : IsNonDecreasingBy (λ listing. ordering_index (nat_cmp listing.0 cell)) listings → (j : ℕ) → j < length listings → (j < i) ⊎ (i ≤ j) → listed_cell listings j ≢ cell
    apart rise j m (inl b) e =
        let less : listed_cell listings j < cell = ranked _ cell _ (sym ((parted rise).0 j (0, 0) (omega arith) b)) in
        omega arith
    apart rise j m (inr b) e =
        let more : cell < listed_cell listings j = ranked _ cell _ (sym ((parted rise).1 j (0, 0) b m)) in
        omega arith

-- the same in a slice of the listings, at a cell of the table
pub entry_found : (cells default : ℕ) (listings slice : List (ℕ × ℕ)) (entries : List ℕ) (cell i : ℕ) (x : ℕ × ℕ) → AreListings cells listings → spread cells default listings ≡ entries → slice ≡ listings → cell < length entries → i < length slice → IsBinarySearchResult (λ listing. nat_cmp listing.0 cell) slice (Ok i) → x ≡ get_or listings i x → x.1 ≡ get_or entries cell 0
entry_found cells default listings slice entries cell i x are view same l in_range equal is =
    let m : cell < cells = omega (arith, l, ap length view, length-spread cells default listings) in
    let n : i < length listings = subst (λ (ls : List (ℕ × ℕ)). i < length ls) same in_range in
    let found = searched cells default listings are cell m (Ok i) n (subst (λ (ls : List (ℕ × ℕ)). IsBinarySearchResult (λ listing. nat_cmp listing.0 cell) ls (Ok i)) same equal) in
    ap (λ (p : ℕ × ℕ). p.1) (is ∙ get_or_default listings i x (0, 0) n) ∙ found ∙ ap (λ (es : List ℕ). get_or es cell 0) view

pub entry_absent : (cells default : ℕ) (listings slice : List (ℕ × ℕ)) (entries : List ℕ) (cell i : ℕ) → AreListings cells listings → spread cells default listings ≡ entries → slice ≡ listings → cell < length entries → i ≤ length slice → IsBinarySearchResult (λ listing. nat_cmp listing.0 cell) slice (Err i) → default ≡ get_or entries cell 0
entry_absent cells default listings slice entries cell i are view same l in_range parted =
    let m : cell < cells = omega (arith, l, ap length view, length-spread cells default listings) in
    let n : i ≤ length listings = subst (λ (ls : List (ℕ × ℕ)). i ≤ length ls) same in_range in
    searched cells default listings are cell m (Err i) n (subst (λ (ls : List (ℕ × ℕ)). IsBinarySearchResult (λ listing. nat_cmp listing.0 cell) ls (Err i)) same parted) ∙ ap (λ (es : List ℕ). get_or es cell 0) view

-- a table is written a listing at a time
pub spread-start : (default : ℕ) (entries : List ℕ) → ((i : ℕ) → i < length entries → get_or entries i 0 ≡ default) → entries ≡ spread (length entries) default []
spread-start default entries filled =
    let n = length-spread (length entries) default [] in
    ext_get_or 0 _ _ (omega arith) (λ i l. filled i l ∙ sym (get_or-spread (length entries) default [] i l))

pub spread-more : (cells default : ℕ) (listings : List (ℕ × ℕ)) (i : ℕ) → AreListings cells listings → i < length listings → set (spread cells default (take i listings)) (listed_cell listings i) (get_or listings i (0, 0)).1 ≡ spread cells default (take (i + 1) listings)
spread-more cells default listings i are l =
    let x = get_or listings i (0, 0) in
    let before = listed_at default (take i listings) in
    let after = listed_at default (take i listings ++ x ∷ []) in
    map-range_with_len-set before after cells x.0 x.1 (λ _. listed_at-push_same default (take i listings) x other) (λ c ne. listed_at-push_other default (take i listings) x c ne) ∙ ap (spread cells default) (sym (take_more listings i (0, 0) l))
  where
    listed_cell-take : (ls : List (ℕ × ℕ)) (n j : ℕ) → j < n → listed_cell (take n ls) j ≡ listed_cell ls j
    listed_cell-take [] zero j l = refl
    listed_cell-take [] (suc n) j l = refl
    listed_cell-take (y ∷ ls) zero j l = absurd (omega arith)
    listed_cell-take (y ∷ ls) (suc n) zero l = refl
    listed_cell-take (y ∷ ls) (suc n) (suc j) l = listed_cell-take ls n j (omega (arith, l))

    length-take_le : (ls : List (ℕ × ℕ)) (n : ℕ) → length (take n ls) ≤ n
    length-take_le [] zero = omega arith
    length-take_le [] (suc n) = omega arith
    length-take_le (y ∷ ls) zero = omega arith
    length-take_le (y ∷ ls) (suc n) = omega (arith, length-take_le ls n)

    other : (j : ℕ) → j < length (take i listings) → listed_cell (take i listings) j ≢ listed_cell listings i
    other j m e =
        let b : j < i = omega (arith, m, length-take_le listings i) in
        omega (arith, listed_cell-take listings i j b, are.rising j i b l, e)

-- the cell that is written is one of the table
pub spread-within : (cells : ℕ) (listings slice : List (ℕ × ℕ)) (entries : List ℕ) (i default : ℕ) → AreListings cells listings → slice ≡ listings → i < length slice → entries ≡ spread cells default (take i slice) → listed_cell slice i < length entries
spread-within cells listings slice entries i default are same l is =
    let at = subst (λ (ls : List (ℕ × ℕ)). (j : ℕ) → j < length ls → listed_cell ls j < cells) (sym same) are.within in
    omega (arith, at i l, ap length is, length-spread cells default (take i slice))

pub spread-next : (cells : ℕ) (listings slice : List (ℕ × ℕ)) (entries : List ℕ) (i default : ℕ) → AreListings cells listings → slice ≡ listings → i < length slice → entries ≡ spread cells default (take i slice) → set entries (listed_cell slice i) (get_or slice i (0, 0)).1 ≡ spread cells default (take (i + 1) slice)
spread-next cells listings slice entries i default are same l is =
    let here = subst (λ (ls : List (ℕ × ℕ)). AreListings cells ls) (sym same) are in
    ap (λ (es : List ℕ). set es (listed_cell slice i) (get_or slice i (0, 0)).1) is ∙ spread-more cells default slice i here l

-- the count of entries that differ
pub differing-most : (default : ℕ) (entries : List ℕ) → differing default entries ≤ length entries
differing-most default [] = omega arith
differing-most default (x ∷ entries) = step (x == default) (differing-most default entries)
  where
    step : (b : Bool) → differing default entries ≤ length entries → (if b then 0 else 1) + differing default entries ≤ suc (length entries)
    step true h = omega arith
    step false h = omega arith
