-- Draws in a row, and the functions that they make.
use Rattle.std.proofs.Common.{◌≡◌, ℕ, zero, suc, ◌+◌, ◌<◌, ◌≤◌, List, [], ◌∷◌, ◌++◌, length, drop, get_or, min, refl, sym, ap, ◌∙◌, append_assoc, arith}
use Rattle.std.specs.Prelude.{slice_set}
use Rattle.std.proofs.lemmas.List.{drop_more, drop_all, append-nil}
use Rattle.std.proofs.Math.Seq.{set-append_seam}
use Rattle.std.proofs.lemmas.List.FromFn.{length-map-range_with_len}
use Rattle.cfn_model.specs.Network.{Function, Network, cells, dims, function_of}
use Rattle.cfn_net.specs.Building.{ListingLaw, list_at_end, with_entry, with_function, with_last}
use Rattle.cfn_gen.specs.Generator.{after, digit, drawn, next}

-- one more draw
after_suc : (s n : ℕ) → after s (suc n) ≡ next (after s n)
unfolding after
after_suc s zero = refl
after_suc s (suc n) = after_suc (next s) n

pub after_more : (s n : ℕ) → after s (n + 1) ≡ next (after s n)
after_more s n = let e : n + 1 ≡ suc n = omega arith in ap (after s) e ∙ after_suc s n

drawn_suc : (s n : ℕ) → drawn s (suc n) ≡ drawn s n ++ digit (next (after s n)) ∷ []
unfolding after drawn
drawn_suc s zero = refl
drawn_suc s (suc n) = ap (λ ds. digit (next s) ∷ ds) (drawn_suc (next s) n)

pub drawn_more : (s n : ℕ) → drawn s (n + 1) ≡ drawn s n ++ digit (next (after s n)) ∷ []
drawn_more s n = let e : n + 1 ≡ suc n = omega arith in ap (drawn s) e ∙ drawn_suc s n

pub length-drawn : (s n : ℕ) → length (drawn s n) ≡ n
unfolding drawn
length-drawn s zero = refl
length-drawn s (suc n) = ap suc (length-drawn (next s) n)

-- draws behind others
pub after-add : (s a b : ℕ) → after (after s a) b ≡ after s (a + b)
unfolding after
after-add s zero b = let e : b ≡ 0 + b = omega arith in ap (after s) e
after-add s (suc a) b = let e : suc (a + b) ≡ suc a + b = omega arith in after-add (next s) a b ∙ ap (after s) e

pub after_none : (s : ℕ) → s ≡ after s 0
unfolding after
after_none s = refl

-- writing at the first place of a rest
pub set_next : (front zeros : List ℕ) (i v : ℕ) → length front ≡ i → i < length zeros → slice_set (front ++ drop i zeros) i v ≡ (front ++ v ∷ []) ++ drop (i + 1) zeros
set_next front zeros i v e l =
    ap (λ ys. slice_set (front ++ ys) i v) (drop_more zeros i 0 l)
    ∙ ap (λ k. slice_set (front ++ get_or zeros i 0 ∷ drop (i + 1) zeros) k v) (sym e)
    ∙ set-append_seam front (get_or zeros i 0) (drop (i + 1) zeros) v
    ∙ sym (append_assoc front (v ∷ []) (drop (i + 1) zeros))

-- a cost that is written at a cell of the last function
pub at_end : ListingLaw → (P : Network) (f : Function) (c amount : ℕ) → list_at_end (with_function P f) c amount ≡ with_function P (with_entry P.upper c amount f)
at_end law P f c amount =
    ap (λ g. with_last (with_function P f) (with_entry P.upper c amount g)) (law.at_end P f) ∙ law.replaced P f (with_entry P.upper c amount f)

-- the function of some draws, and of zeros behind them
abbrev pub part : ℕ → ℕ → List ℕ → List ℕ → Function
part s i scope zeros = record { scope = scope; default = 0; entries = drawn s i ++ drop i zeros }

pub written : (upper s i amount : ℕ) (scope zeros : List ℕ) → i < length zeros → amount ≡ digit (next (after s i)) → amount ≤ upper → with_entry upper i amount (part s i scope zeros) ≡ part s (i + 1) scope zeros
written upper s i amount scope zeros l is small =
    let m : min upper amount ≡ amount = omega arith in
    ap (λ es. record { scope = scope; default = 0; entries = es })
    (ap (λ v. slice_set (drawn s i ++ drop i zeros) i v) (m ∙ is)
    ∙ set_next (drawn s i) zeros i (digit (next (after s i))) (length-drawn s i) l
    ∙ ap (λ ds. ds ++ drop (i + 1) zeros) (sym (drawn_more s i)))

pub listed : ListingLaw → (P Q : Network) (s i amount : ℕ) (scope zeros : List ℕ) → Q ≡ with_function P (part s i scope zeros) → i < length zeros → amount ≡ digit (next (after s i)) → amount ≤ P.upper → list_at_end Q i amount ≡ with_function P (part s (i + 1) scope zeros)
listed law P Q s i amount scope zeros built l is small =
    ap (λ N. list_at_end N i amount) built
    ∙ at_end law P (part s i scope zeros) i amount
    ∙ ap (with_function P) (written P.upper s i amount scope zeros l is small)

-- the entries of a function of nothing but zeros
abbrev pub zeros_of : Network → List ℕ → List ℕ
zeros_of P scope = (function_of P.sizes P.upper scope 0 []).entries

pub zeros_length : (P : Network) (scope : List ℕ) (n : ℕ) → n ≡ cells (dims P.sizes scope) → length (zeros_of P scope) ≡ n
zeros_length P scope n e = length-map-range_with_len (λ c. min P.upper 0) 0 (cells (dims P.sizes scope)) ∙ sym e

-- before the first draw, and behind the last
pub part_none : (P : Network) (s : ℕ) (scope : List ℕ) → function_of P.sizes P.upper scope 0 [] ≡ part s 0 scope (zeros_of P scope)
unfolding drawn
part_none P s scope = let z : min P.upper 0 ≡ 0 = omega arith in ap (λ d. record { scope = scope; default = d; entries = zeros_of P scope }) z

pub part_all : (P : Network) (s i n : ℕ) (scope : List ℕ) → n ≡ cells (dims P.sizes scope) → n ≤ i → i ≤ n → part s i scope (zeros_of P scope) ≡ record { scope = scope; default = 0; entries = drawn s n }
part_all P s i n scope e past within =
    let same : i ≡ n = omega arith in
    let none : drop i (zeros_of P scope) ≡ [] = drop_all i (zeros_of P scope) (omega (arith, zeros_length P scope n e)) in
    ap (λ es. record { scope = scope; default = 0; entries = es }) (ap (λ z. drawn s i ++ z) none ∙ append-nil (drawn s i) ∙ ap (drawn s) same)
