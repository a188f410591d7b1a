-- Lemmas on tuples that fit, their numbers, and how many there are.
use Rattle.std.proofs.Common.{◌≡◌, ℕ, zero, suc, ◌+◌, ◌*◌, ◌<◌, ◌≤◌, List, [], ◌∷◌, length, get_or, drop, map, replicate, min, refl, sym, ap, ◌∙◌, subst, arith}
use Rattle.std.proofs.lemmas.List.{drop_more, drop_all, length-drop, length-map, get_or-map}
use Rattle.std.specs.List.{range_with_len}
use Rattle.cfn_model.specs.Network.{Function, function_of, Fits, cells, cell_from, cell, dims, restrict}

-- what fits has a value for each size
pub Fits-length : (sizes values : List ℕ) → Fits sizes values → length values ≡ length sizes
Fits-length [] [] h = refl
Fits-length [] (v ∷ vs) h = absurd h
Fits-length (s ∷ ss) [] h = absurd h
Fits-length (s ∷ ss) (v ∷ vs) h = ap suc (Fits-length ss vs h.1)

-- each value that fits is below its size
pub Fits-at : (sizes values : List ℕ) (i : ℕ) → Fits sizes values → i < length sizes → get_or values i 0 < get_or sizes i 0
Fits-at [] values i h l = absurd (omega arith)
Fits-at (s ∷ ss) [] i h l = absurd h
Fits-at (s ∷ ss) (v ∷ vs) zero h l = h.0
Fits-at (s ∷ ss) (v ∷ vs) (suc i) h l = Fits-at ss vs i h.1 (omega arith)

-- values of which each is below its size fit
pub Fits-from_each : (sizes values : List ℕ) → length values ≡ length sizes → ((i : ℕ) → i < length sizes → get_or values i 0 < get_or sizes i 0) → Fits sizes values
Fits-from_each [] [] e h = tt
Fits-from_each [] (v ∷ vs) e h = absurd (omega arith)
Fits-from_each (s ∷ ss) [] e h = absurd (omega arith)
Fits-from_each (s ∷ ss) (v ∷ vs) e h = (h 0 (omega arith), Fits-from_each ss vs (omega arith) (λ i l. h (suc i) (omega arith)))

-- a product of two numbers that are not 0
pub mul-pos : (a b : ℕ) → 0 < a → 0 < b → 0 < a * b
mul-pos a b h k = grind arith

pub cells-pos : (sizes values : List ℕ) → Fits sizes values → 0 < cells sizes
cells-pos [] values h = omega arith
cells-pos (s ∷ ss) [] h = absurd h
cells-pos (s ∷ ss) (v ∷ vs) h = mul-pos s (cells ss) (let l : v < s = h.0 in omega arith) (cells-pos ss vs h.1)

-- what an assignment that fits gives a scope fits too
pub Fits-restrict : (sizes values scope : List ℕ) → Fits sizes values → ((place : ℕ) → place < length scope → get_or scope place 0 < length sizes) → Fits (dims sizes scope) (restrict scope values)
Fits-restrict sizes values [] h k = tt
Fits-restrict sizes values (x ∷ scope) h k = (Fits-at sizes values x h (k 0 (omega arith)), Fits-restrict sizes values scope h (λ i l. k (suc i) (omega arith)))

-- a walk over sizes and values has come to a place, with a number so far
pub record Along (sizes values : List ℕ) (i so_far : ℕ) : Type 0 where
  pub fits : Fits (drop i sizes) (drop i values)
  pub number : cell_from so_far (drop i sizes) (drop i values) ≡ cell sizes values
  pub room : (so_far + 1) * cells (drop i sizes) ≤ cells sizes

pub Along-start : (sizes values : List ℕ) → Fits sizes values → Along sizes values 0 0
Along-start sizes values h = record { fits = h; number = refl; room = omega arith }

pub Along-below : (sizes values : List ℕ) (i n : ℕ) → Along sizes values i n → n < cells sizes
Along-below sizes values i n a =
    let one : 0 < cells (drop i sizes) = cells-pos (drop i sizes) (drop i values) a.fits in
    let room = a.room in
    grind arith

pub room_more : (n s v rest total : ℕ) → v < s → (n + 1) * (s * rest) ≤ total → (n * s + v + 1) * rest ≤ total
room_more n s v rest total l h = grind arith

pub Along-more : (sizes values : List ℕ) (i n : ℕ) → i < length sizes → Along sizes values i n → Along sizes values (i + 1) (n * get_or sizes i 0 + get_or values i 0)
Along-more sizes values i n l a =
    let same : length (drop i values) ≡ length (drop i sizes) = Fits-length (drop i sizes) (drop i values) a.fits in
    let m : i < length values = omega (arith, length-drop i sizes, length-drop i values) in
    let e = drop_more sizes i 0 l in
    let d = drop_more values i 0 m in
    let fits : Fits (get_or sizes i 0 ∷ drop (i + 1) sizes) (get_or values i 0 ∷ drop (i + 1) values) = subst (λ ss. Fits ss (get_or values i 0 ∷ drop (i + 1) values)) e (subst (λ vs. Fits (drop i sizes) vs) d a.fits) in
    let number : cell_from n (get_or sizes i 0 ∷ drop (i + 1) sizes) (get_or values i 0 ∷ drop (i + 1) values) ≡ cell sizes values = subst (λ ss. cell_from n ss (get_or values i 0 ∷ drop (i + 1) values) ≡ cell sizes values) e (subst (λ vs. cell_from n (drop i sizes) vs ≡ cell sizes values) d a.number) in
    let room : (n + 1) * cells (get_or sizes i 0 ∷ drop (i + 1) sizes) ≤ cells sizes = subst (λ ss. (n + 1) * cells ss ≤ cells sizes) e a.room in
    record {
      fits = fits.1;
      number = number;
      room = room_more n (get_or sizes i 0) (get_or values i 0) (cells (drop (i + 1) sizes)) (cells sizes) fits.0 room;
    }

pub Along-end : (sizes values : List ℕ) (i n : ℕ) → length sizes ≤ i → Along sizes values i n → n ≡ cell sizes values
Along-end sizes values i n l a =
    let number : cell_from n [] (drop i values) ≡ cell sizes values = subst (λ ss. cell_from n ss (drop i values) ≡ cell sizes values) (drop_all i sizes l) a.number in
    number

-- the size of a scope's variable at a place
pub get_or-dims : (sizes scope : List ℕ) (i : ℕ) → i < length scope → get_or (dims sizes scope) i 0 ≡ get_or sizes (get_or scope i 0) 0
get_or-dims sizes scope i l = get_or-map (λ x. get_or sizes x 0) scope i 0 0 l

-- what an assignment gives a scope's variable at a place
pub get_or-restrict : (scope values : List ℕ) (i : ℕ) → i < length scope → get_or (restrict scope values) i 0 ≡ get_or values (get_or scope i 0) 0
get_or-restrict scope values i l = get_or-map (λ x. get_or values x 0) scope i 0 0 l

pub length-dims : (sizes scope : List ℕ) → length (dims sizes scope) ≡ length scope
length-dims sizes scope = length-map scope (λ x. get_or sizes x 0)

-- no domain is empty
abbrev pub Inhabited : List ℕ → Type 0
Inhabited sizes = (i : ℕ) → i < length sizes → 0 < get_or sizes i 0

pub Inhabited-dims : (sizes scope : List ℕ) → Inhabited sizes → ((place : ℕ) → place < length scope → get_or scope place 0 < length sizes) → Inhabited (dims sizes scope)
Inhabited-dims sizes scope pos k i l =
    let m : i < length scope = omega (arith, length-dims sizes scope) in
    subst (λ n. 0 < n) (sym (get_or-dims sizes scope i m)) (pos (get_or scope i 0) (k i m))

pub cells-drop-pos : (sizes : List ℕ) (i : ℕ) → Inhabited sizes → 0 < cells (drop i sizes)
cells-drop-pos [] zero pos = omega arith
cells-drop-pos [] (suc i) pos = omega arith
cells-drop-pos (s ∷ ss) zero pos = mul-pos s (cells ss) (pos 0 (omega arith)) (cells-drop-pos ss zero (λ i l. pos (suc i) (omega arith)))
cells-drop-pos (s ∷ ss) (suc i) pos = cells-drop-pos ss i (λ i l. pos (suc i) (omega arith))

pub cells-drop_more : (sizes : List ℕ) (i : ℕ) → i < length sizes → cells (drop i sizes) ≡ get_or sizes i 0 * cells (drop (i + 1) sizes)
cells-drop_more sizes i l = ap cells (drop_more sizes i 0 l)

-- a product along a scope, at its next variable
pub product_more : (sizes scope : List ℕ) (i n : ℕ) → i < length scope → n * cells (drop i (dims sizes scope)) ≡ cells (dims sizes scope) → (n * get_or sizes (get_or scope i 0) 0) * cells (drop (i + 1) (dims sizes scope)) ≡ cells (dims sizes scope)
product_more sizes scope i n l e =
    let m : i < length (dims sizes scope) = omega (arith, length-dims sizes scope) in
    let d = cells-drop_more (dims sizes scope) i m in
    let g = get_or-dims sizes scope i l in
    regroup n (get_or sizes (get_or scope i 0) 0) (get_or (dims sizes scope) i 0) (cells (drop i (dims sizes scope))) (cells (drop (i + 1) (dims sizes scope))) (cells (dims sizes scope)) g d e
  where
    regroup : (n s s' here rest total : ℕ) → s' ≡ s → here ≡ s' * rest → n * here ≡ total → n * s * rest ≡ total
    regroup n s s' here rest total g d e = grind arith

pub product_below : (n rest total : ℕ) → 0 < rest → n * rest ≡ total → n ≤ total
product_below n rest total l e = grind arith

-- one step of a walk over a scope and a tuple: the tuple goes on, the number stays in range, and the walk comes to the
-- next place
pub record Turn (sizes scope tuple : List ℕ) (i n : ℕ) : Type 0 where
  pub tuple_in : i < length tuple
  pub below : n < cells (dims sizes scope)
  pub next : Along (dims sizes scope) tuple (i + 1) n

pub turn : (sizes scope tuple items : List ℕ) (i n : ℕ) → items ≡ scope → i < length items → Along (dims sizes scope) tuple i n → Turn sizes scope tuple i (n * get_or sizes (get_or items i 0) 0 + get_or tuple i 0)
turn sizes scope tuple items i n same l a =
    let P : List ℕ → Type 0 = λ ys. Turn sizes scope tuple i (n * get_or sizes (get_or ys i 0) 0 + get_or tuple i 0) in
    let m : i < length scope = subst (λ (ys : List ℕ). i < length ys) same l in
    subst P (sym same) (at_scope sizes scope tuple i n m a)
  where
    at_scope : (sizes scope tuple : List ℕ) (i n : ℕ) → i < length scope → Along (dims sizes scope) tuple i n → Turn sizes scope tuple i (n * get_or sizes (get_or scope i 0) 0 + get_or tuple i 0)
    at_scope sizes scope tuple i n l a =
        let m : i < length (dims sizes scope) = omega (arith, length-dims sizes scope) in
        let P : ℕ → Type 0 = λ s. Turn sizes scope tuple i (n * s + get_or tuple i 0) in
        let next = Along-more (dims sizes scope) tuple i n m a in
        let same : length (drop i tuple) ≡ length (drop i (dims sizes scope)) = Fits-length (drop i (dims sizes scope)) (drop i tuple) a.fits in
        subst P (get_or-dims sizes scope i l) (record {
          tuple_in = omega (arith, length-drop i (dims sizes scope), length-drop i tuple);
          below = Along-below (dims sizes scope) tuple (i + 1) _ next;
          next = next;
        })

-- the same walk, where the tuple is what an assignment gives the scope
pub turn_of_values : (sizes scope values items : List ℕ) (i n : ℕ) → items ≡ scope → i < length items → Along (dims sizes scope) (restrict scope values) i n → Turn sizes scope (restrict scope values) i (n * get_or sizes (get_or items i 0) 0 + get_or values (get_or items i 0) 0)
turn_of_values sizes scope values items i n same l a =
    let m : i < length scope = subst (λ (ys : List ℕ). i < length ys) same l in
    let P : ℕ → Type 0 = λ v. Turn sizes scope (restrict scope values) i (n * get_or sizes (get_or items i 0) 0 + v) in
    subst P (get_or-restrict scope values i m ∙ ap (λ (ys : List ℕ). get_or values (get_or ys i 0) 0) (sym same)) (turn sizes scope (restrict scope values) items i n same l a)

-- the entries of a constant function
pub replicate-map : (n from x : ℕ) → replicate n x ≡ map (λ c. x) (range_with_len from n)
replicate-map zero from x = refl
replicate-map (suc n) from x = ap (λ ys. x ∷ ys) (replicate-map n (from + 1) x)

-- a function whose entries are all its default has no listings
pub function_of-constant : (sizes : List ℕ) (upper : ℕ) (scope : List ℕ) (default : ℕ) (items : List ℕ) (d n : ℕ) (entries : List ℕ) → items ≡ scope → d ≡ min upper default → n ≡ cells (dims sizes scope) → entries ≡ replicate n d → ◌≡◌ {A = Function} (record { scope = items; default = d; entries = entries }) (function_of sizes upper scope default [])
function_of-constant sizes upper scope default items d n entries same is_default is_cells are =
    let filled = replicate-map (cells (dims sizes scope)) 0 (min upper default) in
    cc
