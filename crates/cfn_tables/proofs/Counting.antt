-- Slots of places.
use Rattle.std.proofs.Common.{◌≡◌, ℕ, zero, suc, ◌+◌, ◌*◌, ◌<◌, ◌≤◌, List, [], ◌∷◌, length, get_or, take, drop, ap, arith}
use Rattle.std.proofs.lemmas.List.{drop_more}
use Rattle.cfn_tables.specs.Slots.{slots}

-- the slots before a place and at it
pub slots-take_more : (sizes : List ℕ) (p : ℕ) → p < length sizes → slots (take (suc p) sizes) ≡ slots (take p sizes) + get_or sizes p 0
slots-take_more [] p l = absurd (omega arith)
slots-take_more (s ∷ ss) zero l = omega arith
slots-take_more (s ∷ ss) (suc p) l = let r = slots-take_more ss p (omega arith) in omega (arith, r)

slots-take-le : (sizes : List ℕ) (p : ℕ) → slots (take p sizes) ≤ slots sizes
slots-take-le [] zero = omega arith
slots-take-le [] (suc p) = omega arith
slots-take-le (s ∷ ss) zero = omega arith
slots-take-le (s ∷ ss) (suc p) = let r = slots-take-le ss p in omega (arith, r)

pub slot_below : (sizes : List ℕ) (i a : ℕ) → i < length sizes → a < get_or sizes i 0 → slots (take i sizes) + a < slots sizes
slot_below sizes i a l m = let e = slots-take_more sizes i l in let r = slots-take-le sizes (suc i) in omega (arith, e, r, m)

pub slots-drop_more : (sizes : List ℕ) (p : ℕ) → p < length sizes → slots (drop p sizes) ≡ get_or sizes p 0 + slots (drop (p + 1) sizes)
slots-drop_more sizes p l = ap slots (drop_more sizes p 0 l)

pub slots_few : (sizes : List ℕ) (m : ℕ) → ((i : ℕ) → i < length sizes → get_or sizes i 0 ≤ m) → slots sizes ≤ m * length sizes
slots_few [] m h = omega arith
slots_few (s ∷ ss) m h = let r = slots_few ss m (λ i l. h (suc i) (omega arith)) in let k = h 0 (omega arith) in grind (arith, r, k)
