-- Reading domain sizes one after the other, as a loop does.
use Rattle.std.proofs.Common.{◌≡◌, ℕ, suc, ◌-◌, ◌+◌, ◌≤◌, ◌<◌, List, [], ◌∷◌, ◌++◌, length, Result, Ok, Err, refl, sym, ap, ◌∙◌, append_assoc, arith, inl, inr}
use Rattle.std.specs.Prelude.{slice_index}
use Rattle.std.proofs.lemmas.Bool.{cases_lt}
use Rattle.std.proofs.lemmas.List.{append-nil, get_or_append_left, get_or_push, length_push}
use Rattle.cfn_model.specs.declared.limits.TheConstants.{MOST_VALUES}
use Rattle.cfn_model.specs.declared.reading.Refusal.{Refusal}
use Rattle.cfn_model.specs.Reading.{◌>>=◌, At, natural_at, sizes_at, check_domain, scope_from, check_variable}
use Rattle.cfn_wcsp.specs.declared.fault.ReadFault.{ReadFault}
use Rattle.cfn_wcsp.specs.declared.fault.ReadFault.TheVariants.{Refused, Memory}
use Rattle.cfn_wcsp.specs.Giving.{Fails}

-- what was read before, and what is still read
abbrev pub with_front : {A : Type 0} → List A → Result (List A × At) Refusal → Result (List A × At) Refusal
with_front front read = read >>= λ x. Ok (front ++ x.0, x.1)

pub regroup : {A : Type 0} (front : List A) (n : A) (read : Result (List A × At) Refusal) → with_front front (read >>= λ x. Ok (n ∷ x.0, x.1)) ≡ with_front (front ++ n ∷ []) read
regroup front n (Ok x) = ap (λ ns. Ok (ns, x.1)) (simp append_assoc)
regroup front n (Err f) = refl

pub go_on : (front : List ℕ) (count i : ℕ) (s : At) (n : ℕ) (after : At) (total : Result (List ℕ × At) Refusal) → i < count → natural_at check_domain s ≡ Ok (n, after)
    → with_front front (sizes_at (count - i) s) ≡ total → with_front (front ++ n ∷ []) (sizes_at (count - (i + 1)) after) ≡ total
unfolding sizes_at
go_on front count i s n after total lt h so_far =
    let k : count - i ≡ suc (count - (i + 1)) = omega arith in
    let one : with_front front (sizes_at (count - i) s) ≡ with_front (front ++ n ∷ []) (sizes_at (count - (i + 1)) after) = rw (k, h) (regroup front n (sizes_at (count - (i + 1)) after)) in
    sym one ∙ so_far

pub end : (e : ReadFault) (front : List ℕ) (count i : ℕ) (s : At) (total : Result (List ℕ × At) Refusal) → i < count → Fails e (natural_at check_domain s)
    → with_front front (sizes_at (count - i) s) ≡ total → Fails e total
unfolding sizes_at
end Memory front count i s total lt h so_far = tt
end (Refused r) front count i s total lt h so_far =
    let k : count - i ≡ suc (count - (i + 1)) = omega arith in
    let one : with_front front (sizes_at (count - i) s) ≡ Err r = rw (k, h) refl in
    sym so_far ∙ one

pub done : (front : List ℕ) (count i : ℕ) (s : At) (total : Result (List ℕ × At) Refusal) → count ≤ i → with_front front (sizes_at (count - i) s) ≡ total → total ≡ Ok (front, s)
unfolding sizes_at
done front count i s total le so_far =
    let k : count - i ≡ 0 = omega arith in
    let one : with_front front (sizes_at (count - i) s) ≡ Ok (front, s) = rw k (ap (λ ns. Ok (ns, s)) (append-nil front)) in
    sym so_far ∙ one

-- each size so far is in range
abbrev pub SizesSoFar : List ℕ → Type 0
SizesSoFar sizes = (x : ℕ) → x < length sizes → (0 < slice_index sizes x) × (slice_index sizes x ≤ MOST_VALUES)

pub one_more : (sizes : List ℕ) (n : ℕ) → SizesSoFar sizes → 0 < n → n ≤ MOST_VALUES → SizesSoFar (sizes ++ n ∷ [])
one_more sizes n are some few x lt =
    elim (cases_lt x (length sizes)) [
      | inl before ↦ rw (get_or_append_left sizes (n ∷ []) 0 x before) (are x before)
      | inr behind ↦ let is : length sizes ≡ x = omega (arith, length_push sizes n) in rw (get_or_push sizes n 0 x is) (some, few)
    ]

-- a scope's variables
pub scope_on : (sizes scope : List ℕ) (count i : ℕ) (s : At) (x : ℕ) (after : At) (total : Result (List ℕ × At) Refusal) → i < count → natural_at (check_variable sizes scope) s ≡ Ok (x, after)
    → scope_from sizes scope (count - i) s ≡ total → scope_from sizes (scope ++ x ∷ []) (count - (i + 1)) after ≡ total
unfolding scope_from
scope_on sizes scope count i s x after total lt h so_far =
    let k : count - i ≡ suc (count - (i + 1)) = omega arith in
    let one : scope_from sizes scope (count - i) s ≡ scope_from sizes (scope ++ x ∷ []) (count - (i + 1)) after = rw (k, h) refl in
    sym one ∙ so_far

pub scope_end : (e : ReadFault) (sizes scope : List ℕ) (count i : ℕ) (s : At) (total : Result (List ℕ × At) Refusal) → i < count → Fails e (natural_at (check_variable sizes scope) s)
    → scope_from sizes scope (count - i) s ≡ total → Fails e total
unfolding scope_from
scope_end Memory sizes scope count i s total lt h so_far = tt
scope_end (Refused r) sizes scope count i s total lt h so_far =
    let k : count - i ≡ suc (count - (i + 1)) = omega arith in
    let one : scope_from sizes scope (count - i) s ≡ Err r = rw (k, h) refl in
    sym so_far ∙ one

pub scope_done : (sizes scope : List ℕ) (count i : ℕ) (s : At) (total : Result (List ℕ × At) Refusal) → count ≤ i → scope_from sizes scope (count - i) s ≡ total → total ≡ Ok (scope, s)
unfolding scope_from
scope_done sizes scope count i s total le so_far =
    let k : count - i ≡ 0 = omega arith in
    let one : scope_from sizes scope (count - i) s ≡ Ok (scope, s) = rw k refl in
    sym so_far ∙ one
