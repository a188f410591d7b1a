-- Flags in rows.
use Rattle.std.proofs.Common.{◌≡◌, ℕ, suc, zero, ◌+◌, ◌<◌, ◌≤◌, Bool, true, false, List, [], ◌∷◌, length, replicate, refl, sym, ap, ◌∙◌, subst, inl, inr, arith}
use Rattle.std.proofs.lemmas.Bool.{cases_eq, cases_lt}
use Rattle.std.specs.Prelude.{map, slice_index, slice_index_or, slice_set}
use Rattle.cfn_model.specs.Network.{Function, Network, no_function, scope_at, dims_at}
use Rattle.cfn_model.specs.Steps.{IsPlace}
use Rattle.cfn_net.proofs.CallerLemmas.{length-dims}
use Rattle.cfn_rows.specs.Jagged.{row_at}
use Rattle.cfn_scan.specs.Shifts.{offset, width_of}
use Rattle.cfn_derivation.specs.Banned.{Banning, flag_at, bans_of, HasFlags, NoneBanned, IsBannedBy}
use Rattle.cfn_scan.proofs.CallerLemmas.{offset_below, offset_apart}

pub slot_below : (s : Banning) (f i a : ℕ) → HasFlags s → IsPlace s.network f i a → offset (dims_at s.network f) i + a < length (row_at s.by f)
slot_below s f i a has place =
    let l = length-dims s.network.sizes (scope_at s.network f) in
    let below = offset_below (dims_at s.network f) i a (let h = place.place in omega (arith, h, l)) place.value in
    let all = has.places f place.function in
    let e = ap (offset (dims_at s.network f)) l in
    omega (arith, below, all, e)

pub read_same : {A : Type 0} (xs : List A) (i : ℕ) (d e : A) → i < length xs → slice_index_or xs i d ≡ slice_index_or xs i e
read_same [] i d e h = absurd (omega (arith, h))
read_same (x ∷ xs) zero d e h = refl
read_same (x ∷ xs) (suc i) d e h = read_same xs i d e (omega (arith, h))

-- one flag is set
set_here : {A : Type 0} (xs : List A) (i : ℕ) (x d : A) → i < length xs → slice_index_or (slice_set xs i x) i d ≡ x
set_here [] i x d h = absurd (omega (arith, h))
set_here (y ∷ xs) zero x d h = refl
set_here (y ∷ xs) (suc i) x d h = set_here xs i x d (omega (arith, h))

set_other : {A : Type 0} (xs : List A) (i j : ℕ) (x d : A) → (j ≡ i → ⊥) → slice_index_or (slice_set xs i x) j d ≡ slice_index_or xs j d
set_other [] i j x d other = refl
set_other (y ∷ xs) zero zero x d other = absurd (other refl)
set_other (y ∷ xs) zero (suc j) x d other = refl
set_other (y ∷ xs) (suc i) zero x d other = refl
set_other (y ∷ xs) (suc i) (suc j) x d other = set_other xs i j x d (λ e. other (ap suc e))

pub flag_here : (rows : List (List Bool)) (r i : ℕ) (b : Bool) → r < length rows → i < length (row_at rows r) → flag_at (slice_set rows r (slice_set (row_at rows r) i b)) r i ≡ b
flag_here rows r i b h k = ap (λ row. slice_index_or row i false) (set_here rows r (slice_set (row_at rows r) i b) [] h) ∙ set_here (row_at rows r) i b false k

pub flag_other : (rows : List (List Bool)) (r i g k : ℕ) (b : Bool) → r < length rows → ((g ≡ r) × (k ≡ i) → ⊥) → flag_at (slice_set rows r (slice_set (row_at rows r) i b)) g k ≡ flag_at rows g k
flag_other rows r i g k b h other = elim (cases_eq g r) [
  | inl e ↦
      (let here : row_at (slice_set rows r (slice_set (row_at rows r) i b)) g ≡ slice_set (row_at rows g) i b =
      ap (row_at (slice_set rows r (slice_set (row_at rows r) i b))) e ∙ set_here rows r (slice_set (row_at rows r) i b) [] h ∙ ap (λ n. slice_set (row_at rows n) i b) (sym e) in
      ap (λ row. slice_index_or row k false) here ∙ set_other (row_at rows g) i k b false (λ f. other (e, f)))
  | inr d ↦ ap (λ row. slice_index_or row k false) (set_other rows r g (slice_set (row_at rows r) i b) [] d)
]

pub banned_by : (s : Banning) (f i a slot : ℕ) (rows : List (List Bool)) → HasFlags s → IsPlace s.network f i a → slot ≡ offset (dims_at s.network f) i + a → rows ≡ slice_set s.by f (slice_set (row_at s.by f) slot true)
    → IsBannedBy s.network (bans_of s) (bans_of (record { network = s.network; own = s.own; by = rows })) f i a
banned_by s f i a slot rows has place at e = record {
  banned = subst (λ k. flag_at rows f k ≡ true) at (subst (λ r. flag_at r f slot ≡ true) (sym e) (flag_here s.by f slot true there below));
  own = λ y b. refl;
  by = λ g j b other apart. ap (λ r. flag_at r g (offset (dims_at s.network g) j + b)) e
      ∙ flag_other s.by f slot g (offset (dims_at s.network g) j + b) true there (λ same. apart (both g j b other same));
}
  where
    there : f < length s.by
    there = let h = place.function in let k = has.functions in omega (arith, h, k)

    below : slot < length (row_at s.by f)
    below = subst (λ k. k < length (row_at s.by f)) (sym at) (slot_below s f i a has place)

    within : (g j b : ℕ) → IsPlace s.network g j b → j < length (dims_at s.network g)
    within g j b other = let h = other.place in let l = length-dims s.network.sizes (scope_at s.network g) in omega (arith, h, l)

    both : (g j b : ℕ) → IsPlace s.network g j b → (g ≡ f) × (offset (dims_at s.network g) j + b ≡ slot) → (g ≡ f) × (j ≡ i) × (b ≡ a)
    both g j b other (same, k) =
        let here = subst (λ h. IsPlace s.network h j b) same other in
        let e : offset (dims_at s.network f) j + b ≡ offset (dims_at s.network f) i + a = sym (ap (λ h. offset (dims_at s.network h) j + b) same) ∙ k ∙ at in
        let apart = offset_apart (dims_at s.network f) j i b a (within f j b here) (within f i a place) here.value place.value e in
        (same, apart.0, apart.1)

-- rows of flags that are down
row_of : (lengths : List ℕ) (r : ℕ) → row_at (map (λ n. replicate n false) lengths) r ≡ replicate (slice_index lengths r) false
row_of [] r = refl
row_of (n ∷ lengths) zero = refl
row_of (n ∷ lengths) (suc r) = row_of lengths r

replicate_down : (n i : ℕ) → slice_index_or (replicate n false) i false ≡ false
replicate_down zero i = refl
replicate_down (suc n) zero = refl
replicate_down (suc n) (suc i) = replicate_down n i

replicate_length : (n : ℕ) → length (replicate n false) ≡ n
replicate_length zero = refl
replicate_length (suc n) = ap suc (replicate_length n)

map_length : {A B : Type 0} (g : A → B) (xs : List A) → length (map g xs) ≡ length xs
map_length g [] = refl
map_length g (x ∷ xs) = ap suc (map_length g xs)

map_at : (g : Function → ℕ) (fs : List Function) (f : ℕ) → f < length fs → slice_index (map g fs) f ≡ g (slice_index_or fs f no_function)
map_at g [] f h = absurd (omega (arith, h))
map_at g (x ∷ fs) zero h = refl
map_at g (x ∷ fs) (suc f) h = map_at g fs f (omega (arith, h))

pub filled_has : (P : Network) (own by : List (List Bool)) (widths : List ℕ) → own ≡ map (λ n. replicate n false) P.sizes → widths ≡ map (width_of P) P.functions → by ≡ map (λ n. replicate n false) widths → HasFlags (record { network = P; own = own; by = by })
filled_has P own by widths e w f = record {
  variables = ap length e ∙ map_length (λ n. replicate n false) P.sizes;
  values = λ x h. ap (λ rows. length (row_at rows x)) e ∙ ap length (row_of P.sizes x) ∙ replicate_length (slice_index P.sizes x);
  functions = ap length f ∙ map_length (λ n. replicate n false) widths ∙ ap length w ∙ map_length (width_of P) P.functions;
  places = λ g h. ap (λ rows. length (row_at rows g)) f ∙ ap length (row_of widths g) ∙ replicate_length (slice_index widths g) ∙ ap (λ l. slice_index l g) w ∙ map_at (width_of P) P.functions g h;
}

pub filled_none : (P : Network) (own by : List (List Bool)) (widths : List ℕ) → own ≡ map (λ n. replicate n false) P.sizes → by ≡ map (λ n. replicate n false) widths → NoneBanned P (bans_of (record { network = P; own = own; by = by }))
filled_none P own by widths e f = record {
  own = λ x a value. ap (λ rows. flag_at rows x a) e ∙ ap (λ row. slice_index_or row a false) (row_of P.sizes x) ∙ replicate_down (slice_index P.sizes x) a;
  by = λ g i a place. ap (λ rows. flag_at rows g (offset (dims_at P g) i + a)) f ∙ ap (λ row. slice_index_or row (offset (dims_at P g) i + a) false) (row_of widths g) ∙ replicate_down (slice_index widths g) (offset (dims_at P g) i + a);
}

-- a row more is taken down
row_set_here : (rows : List (List Bool)) (r : ℕ) (row : List Bool) → r < length rows → row_at (slice_set rows r row) r ≡ row
row_set_here rows r row h = set_here rows r row [] h

row_set_other : (rows : List (List Bool)) (r g : ℕ) (row : List Bool) → (g ≡ r → ⊥) → row_at (slice_set rows r row) g ≡ row_at rows g
row_set_other rows r g row other = set_other rows r g row [] other

pub shape_set : (rows : List (List Bool)) (r g : ℕ) (row : List Bool) → r < length rows → length row ≡ length (row_at rows r) → length (row_at (slice_set rows r row) g) ≡ length (row_at rows g)
shape_set rows r g row h same = elim (cases_eq g r) [
  | inl e ↦ ap (λ k. length (row_at (slice_set rows r row) k)) e ∙ ap length (row_set_here rows r row h) ∙ same ∙ ap (λ k. length (row_at rows k)) (sym e)
  | inr d ↦ ap length (row_set_other rows r g row d)
]

pub down_set : (rows : List (List Bool)) (r : ℕ) (row : List Bool) → r < length rows → ((i : ℕ) → slice_index_or row i false ≡ false) → ((g i : ℕ) → g < r → flag_at rows g i ≡ false) → (g i : ℕ) → g < r + 1 → flag_at (slice_set rows r row) g i ≡ false
down_set rows r row h down before g i less = elim (cases_eq g r) [
  | inl e ↦ ap (λ k. flag_at (slice_set rows r row) k i) e ∙ ap (λ l. slice_index_or l i false) (row_set_here rows r row h) ∙ down i
  | inr d ↦ ap (λ l. slice_index_or l i false) (row_set_other rows r g row d) ∙ before g i (omega (arith, less, d))
]

pub length_set : {A : Type 0} (xs : List A) (i : ℕ) (x : A) → length (slice_set xs i x) ≡ length xs
length_set [] i x = refl
length_set (y ∷ xs) zero x = refl
length_set (y ∷ xs) (suc i) x = ap suc (length_set xs i x)

past_end : {A : Type 0} (xs : List A) (i : ℕ) (d : A) → length xs ≤ i → slice_index_or xs i d ≡ d
past_end [] i d h = refl
past_end (x ∷ xs) zero d h = absurd (omega (arith, h))
past_end (x ∷ xs) (suc i) d h = past_end xs i d (omega (arith, h))

pub all_down : (rows : List (List Bool)) (n : ℕ) → length rows ≤ n → ((g i : ℕ) → g < n → flag_at rows g i ≡ false) → (g i : ℕ) → flag_at rows g i ≡ false
all_down rows n all down g i = elim (cases_lt g n) [
  | inl less ↦ down g i less
  | inr more ↦ ap (λ row. slice_index_or row i false) (past_end rows g [] (omega (arith, all, more)))
]

pub row_more : (row new : List Bool) (n : ℕ) → new ≡ slice_set row n false → ((i : ℕ) → i < n → slice_index_or row i false ≡ false) → n < length row → (i : ℕ) → i < n + 1 → slice_index_or new i false ≡ false
row_more row new n e down there i h = ap (λ r. slice_index_or r i false) e ∙ elim (cases_eq i n) [
  | inl same ↦ ap (λ k. slice_index_or (slice_set row n false) k false) same ∙ set_here row n false false there
  | inr d ↦ set_other row n i false false d ∙ down i (omega (arith, h, d))
]

pub row_down : (row : List Bool) (n : ℕ) → length row ≤ n → ((i : ℕ) → i < n → slice_index_or row i false ≡ false) → (i : ℕ) → slice_index_or row i false ≡ false
row_down row n all down i = elim (cases_lt i n) [
  | inl less ↦ down i less
  | inr more ↦ past_end row i false (omega (arith, all, more))
]
