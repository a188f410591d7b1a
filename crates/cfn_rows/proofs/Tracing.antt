-- What an event does to the order of its variable, and to what is known of earlier events.
use Rattle.std.proofs.Common.{◌≡◌, ◌≢◌, ℕ, zero, suc, ◌<◌, ◌≤◌, Bool, true, false, not, ◌&&◌, List, [], ◌∷◌, ◌++◌, length, get_or, set, map, reverse, refl, sym, ap, ◌∙◌, subst, inl, inr, eq-eqb, ne_eqb, arith}
use Rattle.std.proofs.Math.ListN.{length-set}
use Rattle.std.proofs.lemmas.Bool.{cases_eq}
use Rattle.std.proofs.lemmas.List.{get_or-set_same, get_or-set_other, reverse-append}
use Rattle.std.proofs.Math.Seq.{map-set_same}
use Rattle.std.specs.Prelude.{◌⊎◌, ◌==◌, nat_lt}
use Rattle.cfn_rows.specs.Jagged.{row_at}
use Rattle.cfn_model.specs.declared.step.Event.{Event}
use Rattle.cfn_model.specs.Sums.{is_live, removes}
use Rattle.cfn_rows.specs.declared.undo.Undo.{Undo}
use Rattle.cfn_rows.specs.Order.{AreInverse, Narrows}
use Rattle.cfn_rows.specs.Tables.{place_of, Says, IsUndo, Traced, IsTrail}

-- a variable's size is the length of its row
pub size_at : (rows : List (List ℕ)) (x : ℕ) → get_or (map length rows) x 0 ≡ length (row_at rows x)
size_at [] x = refl
size_at (row ∷ rows) zero = refl
size_at (row ∷ rows) (suc x) = size_at rows x

pub sizes_kept : (rows : List (List ℕ)) (x : ℕ) (row : List ℕ) → length row ≡ length (row_at rows x) → map length (set rows x row) ≡ map length rows
sizes_kept rows x row same = map-set_same length rows x row [] same

pub says_now : (places : List (List ℕ)) (counts : List ℕ) (undos : List Undo) (history : List Event) → Traced places counts undos history → Says places counts history
says_now places counts [] [] traced = traced
says_now places counts [] (event ∷ history) traced = absurd traced
says_now places counts (undo ∷ undos) [] traced = absurd traced
says_now places counts (undo ∷ undos) (event ∷ history) traced = traced.0

set_back : (counts : List ℕ) (x n : ℕ) → set (set counts x n) x (get_or counts x 0) ≡ counts
set_back [] x n = refl
set_back (c ∷ counts) zero n = refl
set_back (c ∷ counts) (suc x) n = ap (λ l. c ∷ l) (set_back counts x n)

module _ (places : List (List ℕ)) (x : ℕ) (row : List ℕ) (there : x < length places) where
  same_row : row_at (set places x row) x ≡ row
  same_row = get_or-set_same places x row [] there

  other_row : (y : ℕ) → y ≢ x → row_at (set places x row) y ≡ row_at places y
  other_row y other = get_or-set_other places x y row [] other

  module _ (count : ℕ) (size : length row ≡ length (row_at places x)) (above : (a n : ℕ) → a < length (row_at places x) → count ≤ n → nat_lt (get_or row a 0) n ≡ nat_lt (place_of places x a) n) where
    size_of : (y : ℕ) → length (row_at (set places x row) y) ≡ length (row_at places y)
    size_of y = elim (cases_eq y x) [
      | inl same ↦ ap (λ z. length (row_at (set places x row) z)) same ∙ ap length same_row ∙ size ∙ ap (λ z. length (row_at places z)) (sym same)
      | inr other ↦ ap length (other_row y other)
    ]

    -- for numbers from the count on the places say what they said
    lies_as_before : (y a n : ℕ) → a < length (row_at places y) → (y ≡ x → count ≤ n) → nat_lt (place_of (set places x row) y a) n ≡ nat_lt (place_of places y a) n
    lies_as_before y a n l least = elim (cases_eq y x) [
      | inl same ↦
          ap (λ z. nat_lt (place_of (set places x row) z a) n) same
          ∙ ap (λ r. nat_lt (get_or r a 0) n) same_row
          ∙ above a n (subst (λ z. a < length (row_at places z)) same l) (least same)
          ∙ ap (λ z. nat_lt (place_of places z a) n) (sym same)
      | inr other ↦ ap (λ r. nat_lt (get_or r a 0) n) (other_row y other)
    ]

    says_as_before : (counts : List ℕ) (history : List Event) → count ≤ get_or counts x 0 → Says places counts history → Says (set places x row) counts history
    says_as_before counts history least says = λ y a vars vals.
        let l : a < length (row_at places y) = subst (λ n. a < n) (size_of y) vals in
        says y a (omega (arith, vars, length-set places x row)) l ∙ sym (lies_as_before y a (get_or counts y 0) l (λ same. subst (λ z. count ≤ get_or counts z 0) (sym same) least))

    undo_as_before : (counts : List ℕ) (undo : Undo) → IsUndo places counts undo → IsUndo (set places x row) counts undo
    undo_as_before counts undo is = record {
      variable = omega (arith, is.variable, length-set places x row);
      fewer = is.fewer;
      within = omega (arith, is.within, size_of undo.variable);
    }

    traced_as_before : (counts : List ℕ) (undos : List Undo) (history : List Event) → length counts ≡ length places → count ≤ get_or counts x 0 → Traced places counts undos history → Traced (set places x row) counts undos history
    traced_as_before counts [] [] all least traced = says_as_before counts [] least traced
    traced_as_before counts [] (event ∷ history) all least traced = absurd traced
    traced_as_before counts (undo ∷ undos) [] all least traced = absurd traced
    traced_as_before counts (undo ∷ undos) (event ∷ history) all least traced = (
      says_as_before counts (event ∷ history) least traced.0,
      undo_as_before counts undo traced.1,
      traced_as_before (set counts undo.variable undo.count) undos history (length-set counts undo.variable undo.count ∙ all) (more (cases_eq x undo.variable)) traced.2,
    )
      where
        more : (x ≡ undo.variable) ⊎ (x ≢ undo.variable) → count ≤ get_or (set counts undo.variable undo.count) x 0
        more (inl same) =
            let now : get_or (set counts undo.variable undo.count) x 0 ≡ undo.count = ap (λ z. get_or (set counts undo.variable undo.count) z 0) same ∙ get_or-set_same counts undo.variable undo.count 0 (omega (arith, all, traced.1.variable)) in
            let was : get_or counts x 0 ≡ get_or counts undo.variable 0 = ap (λ z. get_or counts z 0) same in
            omega (arith, now, was, least, traced.1.fewer)
        more (inr other) = let now = get_or-set_other counts undo.variable x undo.count 0 other in omega (arith, now, least)

-- the newest stands first
pub newest_first : (trail : List Undo) (undo : Undo) (after : List Undo) → after ≡ trail ++ undo ∷ [] → reverse after ≡ undo ∷ reverse trail
newest_first trail undo after is = ap reverse is ∙ reverse-append trail (undo ∷ [])

-- one more event
pub recorded : (values places : List (List ℕ)) (counts : List ℕ) (undos : List Undo) (history : List Event) (x left : ℕ) (order row : List ℕ) (event : Event) (test : ℕ → Bool)
    → IsTrail values places counts undos history → x < length places → AreInverse order row → Narrows (row_at places x) row (get_or counts x 0) left test → ((y a : ℕ) → removes event y a ≡ ((x == y) && not (test a)))
    → IsTrail (set values x order) (set places x row) (set counts x left) (record { variable = x; count = get_or counts x 0 } ∷ undos) (event ∷ history)
recorded values places counts undos history x left order row event test is there inverse narrows takes = record {
  rows = length-set values x order ∙ is.rows ∙ sym (length-set places x row);
  orders = λ y l. order_of y (omega (arith, l, length-set places x row)) (cases_eq y x);
  counted = length-set counts x left ∙ is.counted ∙ sym (length-set places x row);
  within = λ y l. within_of y (omega (arith, l, length-set places x row)) (cases_eq y x);
  traced = (
    λ y a vars vals. says y a (omega (arith, vars, length-set places x row)) (subst (λ n. a < n) (size_of places x row there count narrows.size narrows.above y) vals) (cases_eq y x),
    record {
      variable = omega (arith, there, length-set places x row);
      fewer = let now = left_now in omega (arith, now, narrows.fewer);
      within = let size = size_of places x row there count narrows.size narrows.above x in let most = is.within x there in omega (arith, size, most);
    },
    subst (λ (l : List ℕ). Traced (set places x row) l undos history) (sym (set_back counts x left)) (traced_as_before places x row there count narrows.size narrows.above counts undos history is.counted (omega arith) is.traced),
  );
}
  where
    count : ℕ
    count = get_or counts x 0

    left_now : get_or (set counts x left) x 0 ≡ left
    left_now = get_or-set_same counts x left 0 (omega (arith, is.counted, there))

    order_of : (y : ℕ) → y < length places → (y ≡ x) ⊎ (y ≢ x) → AreInverse (row_at (set values x order) y) (row_at (set places x row) y)
    order_of y l (inl same) = subst (λ (z : ℕ). AreInverse (row_at (set values x order) z) (row_at (set places x row) z)) (sym same) (rw (same_row places x row there, get_or-set_same values x order [] (omega (arith, is.rows, there))) inverse)
    order_of y l (inr other) = rw (other_row places x row there y other, get_or-set_other values x y order [] other) (is.orders y l)

    within_of : (y : ℕ) → y < length places → (y ≡ x) ⊎ (y ≢ x) → get_or (set counts x left) y 0 ≤ length (row_at (set places x row) y)
    within_of y l (inl same) =
        let size = size_of places x row there count narrows.size narrows.above x in
        let most = is.within x there in
        let now = left_now in
        subst (λ (z : ℕ). get_or (set counts x left) z 0 ≤ length (row_at (set places x row) z)) (sym same) (omega (arith, size, most, now, narrows.fewer))
    within_of y l (inr other) =
        let size = size_of places x row there count narrows.size narrows.above y in
        let most = is.within y l in
        let now = get_or-set_other counts x y left 0 other in
        omega (arith, size, most, now)

    both : (stay live : Bool) → (not (true && not stay) && live) ≡ (live && stay)
    both true true = refl
    both true false = refl
    both false true = refl
    both false false = refl

    says : (y a : ℕ) → y < length places → a < length (row_at places y) → (y ≡ x) ⊎ (y ≢ x) → is_live (event ∷ history) y a ≡ nat_lt (place_of (set places x row) y a) (get_or (set counts x left) y 0)
    says y a vars vals (inl same) =
        ap (λ b. not b && is_live history y a) (takes y a ∙ ap (λ b. b && not (test a)) (eq-eqb x y (sym same)))
        ∙ both (test a) (is_live history y a)
        ∙ ap (λ b. b && test a) (says_now places counts undos history is.traced y a vars vals ∙ ap (λ z. nat_lt (place_of places z a) (get_or counts z 0)) same)
        ∙ sym (narrows.kept a (subst (λ z. a < length (row_at places z)) same vals))
        ∙ ap (λ r. nat_lt (get_or r a 0) left) (sym (same_row places x row there))
        ∙ ap (nat_lt (place_of (set places x row) x a)) (sym left_now)
        ∙ ap (λ z. nat_lt (place_of (set places x row) z a) (get_or (set counts x left) z 0)) (sym same)
    says y a vars vals (inr other) =
        ap (λ b. not b && is_live history y a) (takes y a ∙ ap (λ b. b && not (test a)) (ne_eqb x y (λ e. other (sym e))))
        ∙ says_now places counts undos history is.traced y a vars vals
        ∙ ap (λ r. nat_lt (get_or r a 0) (get_or counts y 0)) (sym (other_row places x row there y other))
        ∙ ap (nat_lt (place_of (set places x row) y a)) (sym (get_or-set_other counts x y left 0 other))
