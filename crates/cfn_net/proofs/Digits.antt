-- The tuple that a cell's number stands for, and its value at a place.
use Rattle.std.proofs.Common.{◌≡◌, ℕ, zero, suc, ◌+◌, ◌-◌, ◌*◌, ◌/◌, ◌%◌, ◌<◌, ◌≤◌, List, [], ◌∷◌, length, get_or, take, drop, sym, ap, ◌∙◌, arith, add-one}
use Rattle.std.proofs.Math.Nat.{mul-add-div_right, mul-add-mod_self_right, mod-eq_of_lt}
use Rattle.std.proofs.lemmas.List.{take_rest, drop-map}
use Rattle.std.proofs.lemmas.Nat.{div-mul-add, div_below, mod_below, div-add-mod'}
use Rattle.cfn_model.specs.Network.{Fits, cells, cell_from, cell, dims}
use Rattle.cfn_net.proofs.Cells.{Inhabited, cells-pos, cells-drop-pos, get_or-dims, length-dims}

-- a number that a walk begins with stands above the tuple's own number
pub cell_from-add : (a : ℕ) (sizes values : List ℕ) → Fits sizes values → cell_from a sizes values ≡ a * cells sizes + cell_from 0 sizes values
cell_from-add a [] [] h = omega arith
cell_from-add a [] (v ∷ vs) h = absurd h
cell_from-add a (s ∷ ss) [] h = absurd h
cell_from-add a (s ∷ ss) (v ∷ vs) h =
    carry a s v (cells ss) (cell_from (a * s + v) ss vs) (cell_from (0 * s + v) ss vs) (cell_from 0 ss vs) (cell_from-add (a * s + v) ss vs h.1) (cell_from-add (0 * s + v) ss vs h.1)
  where
    carry : (a s v rest here there tail : ℕ) → here ≡ (a * s + v) * rest + tail → there ≡ (0 * s + v) * rest + tail → here ≡ a * (s * rest) + there
    carry a s v rest here there tail e d = grind arith

-- the first value stands above the number of the rest
pub cell-cons : (s v : ℕ) (ss vs : List ℕ) → Fits ss vs → cell (s ∷ ss) (v ∷ vs) ≡ v * cells ss + cell ss vs
cell-cons s v ss vs h =
    let e : 0 * s + v ≡ v = omega arith in
    ap (λ n. cell_from n ss vs) e ∙ cell_from-add v ss vs h

pub cell-below : (sizes values : List ℕ) → Fits sizes values → cell sizes values < cells sizes
cell-below [] [] h = omega arith
cell-below [] (v ∷ vs) h = absurd h
cell-below (s ∷ ss) [] h = absurd h
cell-below (s ∷ ss) (v ∷ vs) h =
    under s v (cells ss) (cell ss vs) (cell (s ∷ ss) (v ∷ vs)) h.0 (cell-below ss vs h.1) (cell-cons s v ss vs h.1)
  where
    under : (s v rest tail here : ℕ) → v < s → tail < rest → here ≡ v * rest + tail → here < s * rest
    under s v rest tail here l m e = grind arith

-- the cells are a multiple of the size at a place times the cells behind it
pub cells-factor : (sizes : List ℕ) (p : ℕ) → p < length sizes → (m : ℕ) × (cells sizes ≡ m * (get_or sizes p 0 * cells (drop (suc p) sizes)))
cells-factor [] p l = absurd (omega arith)
cells-factor (s ∷ ss) zero l = (1, omega arith)
cells-factor (s ∷ ss) (suc p) l =
    let r = cells-factor ss p (omega arith) in
    (s * r.0, scale s r.0 (get_or ss p 0 * cells (drop (suc p) ss)) (cells ss) r.1)
  where
    scale : (s m unit total : ℕ) → total ≡ m * unit → s * total ≡ s * m * unit
    scale s m unit total e = grind arith

-- what stands above a place is no part of its digit
pub digit_shift : (v m s k r total : ℕ) → 0 < k → total ≡ m * (s * k) → ((v * total + r) / k) % s ≡ (r / k) % s
digit_shift v m s k r total l e =
    let g : v * total + r ≡ (v * m * s) * k + r = grind arith in
    ap (λ n. (n / k) % s) g ∙ ap (λ n. n % s) (mul-add-div_right l (v * m * s) r) ∙ mul-add-mod_self_right (v * m) s (r / k)

-- the value of a tuple at a place, from the tuple's number
pub digit_at : (sizes values : List ℕ) (p : ℕ) → Fits sizes values → p < length sizes → (cell sizes values / cells (drop (suc p) sizes)) % get_or sizes p 0 ≡ get_or values p 0
digit_at [] values p h l = absurd (omega arith)
digit_at (s ∷ ss) [] p h l = absurd h
digit_at (s ∷ ss) (v ∷ vs) zero h l =
    ap (λ n. (n / cells ss) % s) (cell-cons s v ss vs h.1) ∙ ap (λ n. n % s) (div-mul-add v (cells ss) (cell ss vs) (cell-below ss vs h.1)) ∙ mod-eq_of_lt h.0
digit_at (s ∷ ss) (v ∷ vs) (suc p) h l =
    let m : p < length ss = omega arith in
    let f = cells-factor ss p m in
    let k = cells (drop (suc p) ss) in
    let pos : 0 < k = factor_pos f.0 (get_or ss p 0) k (cells ss) (cells-pos ss vs h.1) f.1 in
    ap (λ n. (n / k) % get_or ss p 0) (cell-cons s v ss vs h.1) ∙ digit_shift v f.0 (get_or ss p 0) k (cell ss vs) (cells ss) pos f.1 ∙ digit_at ss vs p h.1 m
  where
    factor_pos : (m s k total : ℕ) → 0 < total → total ≡ m * (s * k) → 0 < k
    factor_pos m s zero total l e = absurd (omega arith)
    factor_pos m s (suc k) total l e = omega arith

-- the tuple with a number
pub tuple_of : List ℕ → ℕ → List ℕ
tuple_of [] c = []
tuple_of (s ∷ ss) c = c / cells ss ∷ tuple_of ss (c % cells ss)

-- a tuple that fits and has a number
pub record Numbered (sizes : List ℕ) (c : ℕ) (values : List ℕ) : Type 0 where
  pub fits : Fits sizes values
  pub number : cell sizes values ≡ c

pub tuple_of-numbered : (sizes : List ℕ) (c : ℕ) → c < cells sizes → Numbered sizes c (tuple_of sizes c)
unfolding tuple_of
tuple_of-numbered [] c l = record { fits = tt; number = omega arith }
tuple_of-numbered (s ∷ ss) c l =
    let pos : 0 < cells ss = rest_pos s (cells ss) c l in
    let rest = tuple_of-numbered ss (c % cells ss) (mod_below c (cells ss) pos) in
    record {
      fits = (div_below c (cells ss) s pos l, rest.fits);
      number = cell-cons s (c / cells ss) ss (tuple_of ss (c % cells ss)) rest.fits ∙ ap (λ n. c / cells ss * cells ss + n) rest.number ∙ div-add-mod' c (cells ss);
    }
  where
    rest_pos : (s rest c : ℕ) → c < s * rest → 0 < rest
    rest_pos s zero c l = absurd (omega arith)
    rest_pos s (suc rest) c l = omega arith

-- the cells behind a place, from the part of the scope behind it
pub cells-behind : (sizes scope items : List ℕ) (p : ℕ) → items ≡ scope → cells (dims sizes (take (length items - (p + 1)) (drop (p + 1) items))) ≡ cells (drop (suc p) (dims sizes scope))
cells-behind sizes scope items p same =
    ap (λ (ys : List ℕ). cells (dims sizes ys)) (take_rest items (p + 1)) ∙ ap (λ (ys : List ℕ). cells (dims sizes (drop (p + 1) ys))) same ∙ ap cells (sym (drop-map (λ x. get_or sizes x 0) (p + 1) scope)) ∙ ap (λ n. cells (drop n (dims sizes scope))) (add-one p)

-- no more cells lie behind a place than there are
pub cells-behind-le : (sizes : List ℕ) (p : ℕ) → p < length sizes → Inhabited sizes → cells (drop (suc p) sizes) ≤ cells sizes
cells-behind-le sizes p l pos =
    let f = cells-factor sizes p l in
    within f.0 (get_or sizes p 0) (cells (drop (suc p) sizes)) (cells sizes) (cells-drop-pos sizes zero pos) f.1
  where
    within : (m s k total : ℕ) → 0 < total → total ≡ m * (s * k) → k ≤ total
    within zero s k total l e = absurd (omega arith)
    within (suc m) zero k total l e = absurd (omega arith)
    within (suc m) (suc s) k total l e = omega arith

-- the digit that the code computes
pub digit_is : (sizes scope items tuple : List ℕ) (p number stride : ℕ) → items ≡ scope → Fits (dims sizes scope) tuple → cell (dims sizes scope) tuple ≡ number → p < length scope → stride ≡ cells (drop (suc p) (dims sizes scope)) → (number / stride) % get_or sizes (get_or items p 0) 0 ≡ get_or tuple p 0
digit_is sizes scope items tuple p number stride same fits is l step =
    let m : p < length (dims sizes scope) = omega (arith, length-dims sizes scope) in
    let size : get_or sizes (get_or items p 0) 0 ≡ get_or (dims sizes scope) p 0 = ap (λ (ys : List ℕ). get_or sizes (get_or ys p 0) 0) same ∙ sym (get_or-dims sizes scope p l) in
    let digit = digit_at (dims sizes scope) tuple p fits m in
    cc
