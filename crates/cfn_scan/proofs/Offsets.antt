-- Where the values of a function's places stand in its row.
use Rattle.std.proofs.Common.{◌≡◌, ℕ, suc, zero, ◌+◌, ◌<◌, ◌≤◌, List, [], ◌∷◌, length, refl, ap, subst, arith}
use Rattle.std.specs.Prelude.{slice_index}
use Rattle.cfn_scan.specs.Shifts.{offset}

pub offset_below : (dims : List ℕ) (i a : ℕ) → i < length dims → a < slice_index dims i → offset dims i + a < offset dims (length dims)
offset_below [] i a l m = absurd (omega (arith, l))
offset_below (size ∷ dims) zero a l m = omega (arith, m)
offset_below (size ∷ dims) (suc i) a l m = (let r = offset_below dims i a (omega (arith, l)) m in omega (arith, r))

pub offset_apart : (dims : List ℕ) (i j a b : ℕ) → i < length dims → j < length dims → a < slice_index dims i → b < slice_index dims j → offset dims i + a ≡ offset dims j + b → (i ≡ j) × (a ≡ b)
offset_apart [] i j a b l m s t e = absurd (omega (arith, l))
offset_apart (size ∷ dims) zero zero a b l m s t e = (refl, omega (arith, e))
offset_apart (size ∷ dims) zero (suc j) a b l m s t e = absurd (omega (arith, s, e))
offset_apart (size ∷ dims) (suc i) zero a b l m s t e = absurd (omega (arith, t, e))
offset_apart (size ∷ dims) (suc i) (suc j) a b l m s t e =
    let r = offset_apart dims i j a b (omega (arith, l)) (omega (arith, m)) s t (omega (arith, e)) in
    (ap suc r.0, r.1)

go : (dims : List ℕ) (i : ℕ) → i < length dims → offset dims (suc i) ≡ offset dims i + slice_index dims i
go [] i l = absurd (omega (arith, l))
go (size ∷ dims) zero l = omega arith
go (size ∷ dims) (suc i) l = (let r = go dims i (omega (arith, l)) in omega (arith, r))

-- the next place begins behind the values of one
pub offset_next : (dims : List ℕ) (i : ℕ) → i < length dims → offset dims (i + 1) ≡ offset dims i + slice_index dims i
offset_next dims i l = (let e : suc i ≡ i + 1 = omega arith in subst (λ n. offset dims n ≡ offset dims i + slice_index dims i) e (go dims i l))

pub offset_least : (dims : List ℕ) (i j : ℕ) → i ≤ j → j ≤ length dims → offset dims i ≤ offset dims j
offset_least dims zero j l m = omega arith
offset_least dims (suc i) zero l m = absurd (omega (arith, l))
offset_least [] (suc i) (suc j) l m = omega arith
offset_least (size ∷ dims) (suc i) (suc j) l m = (let r = offset_least dims i j (omega (arith, l)) (omega (arith, m)) in omega (arith, r))
