-- Listing one tuple at a time is listing them all.
use Rattle.std.proofs.Common.{◌≡◌, ℕ, suc, ◌-◌, ◌+◌, ◌≤◌, ◌<◌, List, [], ◌∷◌, ◌++◌, length, get_or, set, Result, Ok, Err, refl, sym, ap, ◌∙◌, append_assoc, arith}
use Rattle.std.proofs.lemmas.List.{length-set, set-set, set-get_or, get_or-set_same, append-nil}
use Rattle.cfn_model.specs.declared.reading.Refusal.{Refusal}
use Rattle.cfn_model.specs.Network.{Function, Network, cell, dims, dims_at, function_of, function_at, no_function}
use Rattle.cfn_model.specs.Reading.{◌>>=◌, At, natural_at, tuple_at, listing_at, listings_at, check_cost}
use Rattle.cfn_net.specs.Building.{ListingLaw, last, with_entry, with_function, with_last}
use Rattle.cfn_wcsp.specs.declared.fault.ReadFault.{ReadFault}
use Rattle.cfn_wcsp.specs.declared.fault.ReadFault.TheVariants.{Refused, Memory}
use Rattle.cfn_wcsp.specs.Giving.{Fails}
use Rattle.cfn_wcsp.specs.Tables.{cell_at, listed, into_last, listings_into}
use Rattle.cfn_wcsp.proofs.Steps.{bind_ok, bind_err, ok_is}

pub at_last : (P : Network) (f : Function) → 0 < length P.functions → function_at (with_last P f) (last (with_last P f)) ≡ f
at_last P f some =
    let n : last P < length P.functions = omega arith in
    ap (λ k. get_or (set P.functions (last P) f) (k - 1) no_function) (length-set P.functions (last P) f) ∙ get_or-set_same P.functions (last P) f no_function n

twice : (P : Network) (f g : Function) → with_last (with_last P f) g ≡ with_last P g
twice P f g =
    ap (λ fs. record P { functions = fs }) (ap (λ k. set (set P.functions (last P) f) (k - 1) g) (length-set P.functions (last P) f) ∙ set-set P.functions (last P) f g)

same : (P : Network) → with_last P (function_at P (last P)) ≡ P
same P = ap (λ fs. record P { functions = fs }) (set-get_or P.functions (last P) no_function)

-- the network after one listing more
abbrev pub after_one : Network → ℕ → ℕ → Network
after_one P c amount = with_last P (with_entry P.upper c amount (function_at P (last P)))

pub still_some : (P : Network) (c amount : ℕ) → 0 < length P.functions → 0 < length (after_one P c amount).functions
still_some P c amount some = omega (arith, some, length-set P.functions (last P) (with_entry P.upper c amount (function_at P (last P))))

pub same_dims : (P : Network) (c amount : ℕ) → 0 < length P.functions → dims_at (after_one P c amount) (last (after_one P c amount)) ≡ dims_at P (last P)
same_dims P c amount some = ap (λ f. dims P.sizes f.scope) (at_last P (with_entry P.upper c amount (function_at P (last P))) some)

regroup : (P : Network) (ds : List ℕ) (listing : List ℕ × ℕ) (read : Result (List (List ℕ × ℕ) × At) Refusal) → 0 < length P.functions
    → into_last P ds (read >>= λ ls. Ok (listing ∷ ls.0, ls.1)) ≡ into_last (after_one P (cell ds listing.0) listing.1) ds read
regroup P ds listing (Ok x) some =
    let f = with_entry P.upper (cell ds listing.0) listing.1 (function_at P (last P)) in
    sym (ap (λ g. Ok (with_last (with_last P f) (listed P.upper ds g x.0), x.1)) (at_last P f some) ∙ ap (λ Q. Ok (Q, x.1)) (twice P f (listed P.upper ds f x.0)))
regroup P ds listing (Err e) some = refl

one : (ds : List ℕ) (n : ℕ) (s mid after : At) (tuple : List ℕ) (amount : ℕ) → tuple_at ds s ≡ Ok (tuple, mid) → natural_at check_cost mid ≡ Ok (amount, after)
    → listings_at ds (suc n) s ≡ (listings_at ds n after >>= λ ls. Ok ((tuple, amount) ∷ ls.0, ls.1))
unfolding listings_at listing_at
one ds n s mid after tuple amount h k = rw (h, k) refl

no_tuple : (ds : List ℕ) (n : ℕ) (s : At) (r : Refusal) → tuple_at ds s ≡ Err r → listings_at ds (suc n) s ≡ Err r
unfolding listings_at listing_at
no_tuple ds n s r h = rw h refl

no_cost : (ds : List ℕ) (n : ℕ) (s mid : At) (tuple : List ℕ) (r : Refusal) → tuple_at ds s ≡ Ok (tuple, mid) → natural_at check_cost mid ≡ Err r → listings_at ds (suc n) s ≡ Err r
unfolding listings_at listing_at
no_cost ds n s mid tuple r h k = rw (h, k) refl

-- the tuple whose cell was read
pub record Tuple (ds : List ℕ) (s mid : At) (c : ℕ) : Type 0 where
  pub tuple : List ℕ
  pub read : tuple_at ds s ≡ Ok (tuple, mid)
  pub is : cell ds tuple ≡ c

tuple_of : (ds : List ℕ) (s mid : At) (c : ℕ) → cell_at ds s ≡ Ok (c, mid) → Tuple ds s mid c
tuple_of ds s mid c h =
    let b = bind_ok (tuple_at ds s) (λ t. Ok (cell ds t.0, t.1)) (c, mid) h in
    let e : (cell ds b.0.0, b.0.1) ≡ (c, mid) = ok_is (cell ds b.0.0, b.0.1) (c, mid) b.2 in
    record { tuple = b.0.0; read = b.1 ∙ ap (λ (p : ℕ × At). Ok (b.0.0, p.1)) e; is = ap (λ (p : ℕ × At). p.0) e }

pub go_on : (P : Network) (ds : List ℕ) (count i : ℕ) (s : At) (c : ℕ) (mid : At) (amount : ℕ) (after : At) (total : Result (Network × At) Refusal) → i < count → 0 < length P.functions
    → cell_at ds s ≡ Ok (c, mid) → natural_at check_cost mid ≡ Ok (amount, after) → listings_into P ds (count - i) s ≡ total
    → listings_into (after_one P c amount) ds (count - (i + 1)) after ≡ total
go_on P ds count i s c mid amount after total lt some h k so_far =
    let n : count - i ≡ suc (count - (i + 1)) = omega arith in
    let t = tuple_of ds s mid c h in
    let step = one ds (count - (i + 1)) s mid after t.tuple amount t.read k in
    sym (ap (λ m. listings_into P ds m s) n ∙ ap (into_last P ds) step ∙ regroup P ds (t.tuple, amount) (listings_at ds (count - (i + 1)) after) some
    ∙ ap (λ cell. listings_into (after_one P cell amount) ds (count - (i + 1)) after) t.is) ∙ so_far

pub end : (e : ReadFault) (P : Network) (ds : List ℕ) (count i : ℕ) (s : At) (total : Result (Network × At) Refusal) → i < count → Fails e (cell_at ds s) → listings_into P ds (count - i) s ≡ total → Fails e total
end Memory P ds count i s total lt h so_far = tt
end (Refused r) P ds count i s total lt h so_far =
    let n : count - i ≡ suc (count - (i + 1)) = omega arith in
    let none = no_tuple ds (count - (i + 1)) s r (bind_err (tuple_at ds s) (λ t. (cell ds t.0, t.1)) r h) in
    sym so_far ∙ ap (λ m. listings_into P ds m s) n ∙ ap (into_last P ds) none

pub end_at_cost : (e : ReadFault) (P : Network) (ds : List ℕ) (count i : ℕ) (s : At) (c : ℕ) (mid : At) (total : Result (Network × At) Refusal) → i < count → cell_at ds s ≡ Ok (c, mid)
    → Fails e (natural_at check_cost mid) → listings_into P ds (count - i) s ≡ total → Fails e total
end_at_cost Memory P ds count i s c mid total lt h k so_far = tt
end_at_cost (Refused r) P ds count i s c mid total lt h k so_far =
    let n : count - i ≡ suc (count - (i + 1)) = omega arith in
    let t = tuple_of ds s mid c h in
    let none = no_cost ds (count - (i + 1)) s mid t.tuple r t.read k in
    sym so_far ∙ ap (λ m. listings_into P ds m s) n ∙ ap (into_last P ds) none

pub done : (P : Network) (ds : List ℕ) (count i : ℕ) (s : At) (total : Result (Network × At) Refusal) → count ≤ i → listings_into P ds (count - i) s ≡ total → total ≡ Ok (P, s)
unfolding listings_at
done P ds count i s total le so_far =
    let n : count - i ≡ 0 = omega arith in
    sym so_far ∙ ap (λ m. listings_into P ds m s) n ∙ ap (λ Q. Ok (Q, s)) (same P)

-- listing into a function of listings makes a function of more listings
listed_is : ListingLaw → (sizes : List ℕ) (upper : ℕ) (scope : List ℕ) (default : ℕ) (before listings : List (List ℕ × ℕ))
    → listed upper (dims sizes scope) (function_of sizes upper scope default before) listings ≡ function_of sizes upper scope default (before ++ listings)
listed_is law sizes upper scope default before [] = ap (function_of sizes upper scope default) (sym (append-nil before))
listed_is law sizes upper scope default before (listing ∷ listings) =
    ap (λ f. listed upper (dims sizes scope) f listings) (law.entry sizes upper scope default before listing)
    ∙ listed_is law sizes upper scope default (before ++ listing ∷ []) listings
    ∙ ap (function_of sizes upper scope default) (append_assoc before (listing ∷ []) listings)

-- the function of listings that are read
abbrev function_in : Network → List ℕ → ℕ → Result (List (List ℕ × ℕ) × At) Refusal → Result (Function × At) Refusal
function_in P scope default read = read >>= λ ls. Ok (function_of P.sizes P.upper scope default ls.0, ls.1)

abbrev onto : Network → Result (Function × At) Refusal → Result (Network × At) Refusal
onto P read = read >>= λ f. Ok (with_function P f.0, f.1)

pub whole : ListingLaw → (P : Network) (scope : List ℕ) (default : ℕ) (read : Result (List (List ℕ × ℕ) × At) Refusal)
    → onto P (function_in P scope default read) ≡ into_last (with_function P (function_of P.sizes P.upper scope default [])) (dims P.sizes scope) read
whole law P scope default (Ok x) =
    let f = function_of P.sizes P.upper scope default [] in
    let g = listed P.upper (dims P.sizes scope) f x.0 in
    sym (ap (λ h. Ok (with_last (with_function P f) (listed P.upper (dims P.sizes scope) h x.0), x.1)) (law.at_end P f)
    ∙ ap (λ Q. Ok (Q, x.1)) (law.replaced P f g)
    ∙ ap (λ h. Ok (with_function P h, x.1)) (listed_is law P.sizes P.upper scope default [] x.0))
whole law P scope default (Err e) = refl
