-- The cells of tuples, place by place.
use Rattle.std.proofs.Common.{◌≡◌, ℕ, suc, ◌+◌, ◌*◌, ◌≤◌, ◌<◌, List, [], ◌∷◌, ◌++◌, length, get_or, drop, Result, Ok, Err, refl, sym, ap, ◌∙◌, arith}
use Rattle.std.specs.Prelude.{slice_index}
use Rattle.std.proofs.lemmas.List.{map_push, drop_more, drop_all, get_or-drop, get_or-map, length-drop, length-map}
use Rattle.std.proofs.Math.Nat.{mul_assoc, mul-le-mul_right, mul-le-mul_left}
use Rattle.cfn_model.specs.declared.limits.TheConstants.{MOST_TUPLES}
use Rattle.cfn_model.specs.declared.reading.Refusal.{Refusal}
use Rattle.cfn_model.specs.Network.{cells, cell_from, dims}
use Rattle.cfn_model.specs.Reading.{◌>>=◌, At, natural_at, tuple_at, check_value}
use Rattle.cfn_wcsp.specs.declared.fault.ReadFault.{ReadFault}
use Rattle.cfn_wcsp.specs.declared.fault.ReadFault.TheVariants.{Refused, Memory}
use Rattle.cfn_wcsp.specs.Giving.{Fails}
use Rattle.cfn_net.specs.Building.{AreSizes, IsScope}

pub cells-push : (ds : List ℕ) (d : ℕ) → cells (ds ++ d ∷ []) ≡ cells ds * d
cells-push [] d = omega arith
cells-push (e ∷ ds) d = ap (λ n. e * n) (cells-push ds d) ∙ sym (mul_assoc e (cells ds) d)

-- a scope with one more variable
pub cells-more : (sizes scope : List ℕ) (x : ℕ) → cells (dims sizes (scope ++ x ∷ [])) ≡ cells (dims sizes scope) * slice_index sizes x
cells-more sizes scope x = ap cells (map_push (slice_index sizes) scope x) ∙ cells-push (dims sizes scope) (slice_index sizes x)

-- the cell of what is still read of a tuple, behind the number that the values before it make
abbrev pub cells_from : ℕ → List ℕ → Result (List ℕ × At) Refusal → Result (ℕ × At) Refusal
cells_from c ds read = read >>= λ t. Ok (cell_from c ds t.0, t.1)

regroup : (c size v : ℕ) (rest : List ℕ) (read : Result (List ℕ × At) Refusal) → cells_from c (size ∷ rest) (read >>= λ t. Ok (v ∷ t.0, t.1)) ≡ cells_from (c * size + v) rest read
regroup c size v rest (Ok t) = refl
regroup c size v rest (Err e) = refl

one : (c size v : ℕ) (rest : List ℕ) (s after : At) → natural_at (check_value size) s ≡ Ok (v, after)
    → cells_from c (size ∷ rest) (tuple_at (size ∷ rest) s) ≡ cells_from (c * size + v) rest (tuple_at rest after)
unfolding tuple_at
one c size v rest s after h = rw h (regroup c size v rest (tuple_at rest after))

none : (c size : ℕ) (rest : List ℕ) (s : At) (r : Refusal) → natural_at (check_value size) s ≡ Err r → cells_from c (size ∷ rest) (tuple_at (size ∷ rest) s) ≡ Err r
unfolding tuple_at
none c size rest s r h = rw h refl

-- what a place has
pub at_place : (ds : List ℕ) (i size : ℕ) → i < length ds → size ≡ get_or ds i 0 → drop i ds ≡ size ∷ drop (i + 1) ds
at_place ds i size lt is = drop_more ds i 0 lt ∙ ap (λ n. n ∷ drop (i + 1) ds) (sym is)

pub go_on : (c : ℕ) (ds : List ℕ) (i size v : ℕ) (s after : At) (total : Result (ℕ × At) Refusal) → i < length ds → size ≡ get_or ds i 0 → natural_at (check_value size) s ≡ Ok (v, after)
    → cells_from c (drop i ds) (tuple_at (drop i ds) s) ≡ total → cells_from (c * size + v) (drop (i + 1) ds) (tuple_at (drop (i + 1) ds) after) ≡ total
go_on c ds i size v s after total lt is h so_far =
    sym (ap (λ xs. cells_from c xs (tuple_at xs s)) (at_place ds i size lt is) ∙ one c size v (drop (i + 1) ds) s after h) ∙ so_far

pub end : (e : ReadFault) (c : ℕ) (ds : List ℕ) (i size : ℕ) (s : At) (total : Result (ℕ × At) Refusal) → i < length ds → size ≡ get_or ds i 0 → Fails e (natural_at (check_value size) s)
    → cells_from c (drop i ds) (tuple_at (drop i ds) s) ≡ total → Fails e total
end Memory c ds i size s total lt is h so_far = tt
end (Refused r) c ds i size s total lt is h so_far =
    sym so_far ∙ ap (λ xs. cells_from c xs (tuple_at xs s)) (at_place ds i size lt is) ∙ none c size (drop (i + 1) ds) s r h

pub done : (c : ℕ) (ds : List ℕ) (i : ℕ) (s : At) (total : Result (ℕ × At) Refusal) → length ds ≤ i → cells_from c (drop i ds) (tuple_at (drop i ds) s) ≡ total → total ≡ Ok (c, s)
unfolding tuple_at
done c ds i s total le so_far = sym so_far ∙ ap (λ xs. cells_from c xs (tuple_at xs s)) (drop_all i ds le)

-- the cells that begin with the values so far are among all cells
pub within : (c : ℕ) (ds : List ℕ) (i size v : ℕ) → i < length ds → size ≡ get_or ds i 0 → v < size → (c + 1) * cells (drop i ds) ≤ cells ds
    → (c * size + v + 1) * cells (drop (i + 1) ds) ≤ cells ds
within c ds i size v lt is below so_far =
    let rest = cells (drop (i + 1) ds) in
    let here : cells (drop i ds) ≡ size * rest = ap cells (at_place ds i size lt is) in
    let fewer : c * size + v + 1 ≤ (c + 1) * size = omega arith in
    let more = mul-le-mul_right rest fewer in
    omega (arith, more, mul_assoc (c + 1) size rest, ap (λ n. (c + 1) * n) here, so_far)

some_cells : (ds : List ℕ) → ((k : ℕ) → k < length ds → 0 < get_or ds k 0) → 0 < cells ds
some_cells [] each = omega arith
some_cells (d ∷ ds) each =
    let first : 1 ≤ d = omega (arith, each 0 (omega arith)) in
    let others : 1 ≤ cells ds = omega (arith, some_cells ds (λ k lt. each (suc k) (omega arith))) in
    let product : d * 1 ≤ d * cells ds = mul-le-mul_left d others in
    omega (arith, product, first)

-- no domain of a scope is empty
pub some_left : (sizes variables : List ℕ) (i : ℕ) → AreSizes sizes → IsScope sizes variables → 0 < cells (drop i (dims sizes variables))
some_left sizes variables i are is =
    some_cells (drop i (dims sizes variables)) (λ k lt.
    let place : i + k < length variables = omega (arith, lt, length-drop i (dims sizes variables), length-map variables (slice_index sizes)) in
    rw (get_or-drop, get_or-map (slice_index sizes) variables (i + k) 0 0 place) (are.each (slice_index variables (i + k)) (is.variables (i + k) place)).0)

-- the domain size at a place
pub size_at : (sizes variables : List ℕ) (i : ℕ) → i < length variables → slice_index sizes (slice_index variables i) ≡ get_or (dims sizes variables) i 0
size_at sizes variables i lt = sym (get_or-map (slice_index sizes) variables i 0 0 lt)

pub below_all : (sizes variables : List ℕ) (c i v : ℕ) → AreSizes sizes → IsScope sizes variables → i < length variables → v < slice_index sizes (slice_index variables i)
    → (c + 1) * cells (drop i (dims sizes variables)) ≤ cells (dims sizes variables) → c * slice_index sizes (slice_index variables i) + v < MOST_TUPLES
below_all sizes variables c i v are is lt below so_far =
    let size = slice_index sizes (slice_index variables i) in
    let ds = dims sizes variables in
    let place : i < length ds = omega (arith, length-map variables (slice_index sizes)) in
    let room = within c ds i size v place (size_at sizes variables i lt) below so_far in
    let some : 1 ≤ cells (drop (i + 1) ds) = omega (arith, some_left sizes variables (i + 1) are is) in
    let product : (c * size + v + 1) * 1 ≤ (c * size + v + 1) * cells (drop (i + 1) ds) = mul-le-mul_left (c * size + v + 1) some in
    omega (arith, product, room, is.few)
