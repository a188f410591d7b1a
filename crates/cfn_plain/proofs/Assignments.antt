-- Lemmas on assignments and tuples that are made a value at a time.
use Rattle.std.proofs.Common.{◌≡◌, ℕ, zero, suc, ◌+◌, ◌<◌, ◌≤◌, List, [], ◌∷◌, length, get_or, set, take, replicate, sym, ap, ◌∙◌, arith}
use Rattle.std.proofs.lemmas.List.{take-take, take-set, take_all, take_more_same, length-set, length-replicate, get_or-replicate, get_or-set_same}
use Rattle.cfn_model.specs.Network.{Fits}
use Rattle.cfn_net.proofs.CallerLemmas.{Fits-length, Fits-from_each}

-- the assignment of zeros fits where no domain is empty
pub Fits-zeros : (sizes : List ℕ) → ((x : ℕ) → x < length sizes → 0 < get_or sizes x 0) → Fits sizes (replicate (length sizes) 0)
Fits-zeros sizes some =
    Fits-from_each sizes (replicate (length sizes) 0) (length-replicate (length sizes) 0) (λ x there. omega (arith, get_or-replicate {A = ℕ} (length sizes) x 0 0 there, some x there))

-- with another value of its domain for one variable, an assignment still fits
pub Fits-set : (sizes values : List ℕ) (x value : ℕ) → Fits sizes values → value < get_or sizes x 0 → Fits sizes (set values x value)
Fits-set [] [] x value fits small = absurd (omega arith)
Fits-set [] (v ∷ vs) x value fits small = absurd fits
Fits-set (s ∷ ss) [] x value fits small = absurd fits
Fits-set (s ∷ ss) (v ∷ vs) zero value fits small = (small, fits.1)
Fits-set (s ∷ ss) (v ∷ vs) (suc x) value fits small = (fits.0, Fits-set ss vs x value fits.1 small)

-- what agrees on more values agrees on fewer
pub agree_less : (a b : List ℕ) (x : ℕ) → take (x + 1) a ≡ take (x + 1) b → take x a ≡ take x b
agree_less a b x same = sym (take-take x (x + 1) a (omega arith)) ∙ ap (take x) same ∙ take-take x (x + 1) b (omega arith)

-- an assignment that agrees before x, and has the value at x, agrees with the one where that value was written
pub agree_more : (sizes values start other : List ℕ) (x value : ℕ) → x < length sizes → Fits sizes values → Fits sizes other → take x values ≡ take x start → take x other ≡ take x start → get_or other x 0 ≡ value → take (x + 1) other ≡ take (x + 1) (set values x value)
agree_more sizes values start other x value there fits other_fits before same at =
    let lengths = Fits-length sizes values fits in
    let other_lengths = Fits-length sizes other other_fits in
    take_more_same other (set values x value) x 0 (omega arith) (omega (arith, length-set values x value)) (same ∙ sym before ∙ sym (take-set values x value)) (at ∙ sym (get_or-set_same values x value 0 (omega arith)))

-- assignments that agree on all values are the same
pub agree_all : (sizes values other : List ℕ) (x : ℕ) → length sizes ≤ x → Fits sizes values → Fits sizes other → take x other ≡ take x values → other ≡ values
agree_all sizes values other x all fits other_fits same =
    let lengths = Fits-length sizes values fits in
    let other_lengths = Fits-length sizes other other_fits in
    sym (take_all x other (omega arith)) ∙ same ∙ take_all x values (omega arith)
