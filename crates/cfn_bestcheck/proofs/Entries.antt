-- Listed assignments, as they are kept.
use Rattle.std.proofs.Common.{◌≡◌, ℕ, suc, ◌-◌, List, [], ◌∷◌, ◌++◌, length, true, ap, subst, ◌∙◌, arith, refl}
use Rattle.std.proofs.lemmas.List.{map-append}
use Rattle.std.specs.Prelude.{Some, slice_get, ◌==◌, ◌↔◌}
use Rattle.cfn_model.specs.Network.{Network}
use Rattle.cfn_model.specs.Certificate.{Solution}
use Rattle.cfn_model.proofs.CallerLemmas.{eqb_same}
use Rattle.cfn_best.specs.List.{IsBefore, last_cost, threshold_of}
use Rattle.cfn_best.specs.Fault.{ComesBehind}
use Rattle.cfn_bestcheck.specs.declared.entry.Entry.{Entry}
use Rattle.cfn_bestcheck.specs.Listing.{solution_of, solutions_of, AreLong}

abbrev pub IsLast : List Entry → Entry → Type 0
IsLast entries e = Some e ≡ slice_get entries (length entries - 1)

some_same : {A : Type 0} {x y : A} → Some x ≡ Some y → x ≡ y
some_same e = cc

last_behind : (x y : Entry) (entries : List Entry) (e : Entry) → IsLast (x ∷ y ∷ entries) e → IsLast (y ∷ entries) e
last_behind x y entries e is =
    let n : length (x ∷ y ∷ entries) - 1 ≡ suc (length (y ∷ entries) - 1) = omega arith in
    is ∙ ap (slice_get (x ∷ y ∷ entries)) n

pub behind_last : (entries : List Entry) (e : Entry) (s : Solution) → IsLast entries e → (IsBefore (solution_of e) s ↔ ComesBehind (solutions_of entries) s)
behind_last [] e s is = absurd cc
behind_last (x ∷ []) e s is = let same : e ≡ x = some_same is in subst (λ y. IsBefore (solution_of e) s ↔ IsBefore (solution_of y) s) same (λ h. h, λ h. h)
behind_last (x ∷ y ∷ entries) e s is = behind_last (y ∷ entries) e s (last_behind x y entries e is)

cost_last : (none : ℕ) (entries : List Entry) (e : Entry) → IsLast entries e → e.cost ≡ last_cost none (solutions_of entries)
cost_last none [] e is = absurd cc
cost_last none (x ∷ []) e is = ap (λ y. y.cost) (some_same is)
cost_last none (x ∷ y ∷ entries) e is = cost_last x.cost (y ∷ entries) e (last_behind x y entries e is)

pub as_many : (entries : List Entry) → length (solutions_of entries) ≡ length entries
as_many [] = refl
as_many (e ∷ entries) = omega (arith, as_many entries)

pub full_threshold : (upper count : ℕ) (entries : List Entry) (e : Entry) → IsLast entries e → length entries ≡ count → e.cost ≡ threshold_of upper count (solutions_of entries)
full_threshold upper count entries e is full =
    let long : (length (solutions_of entries) == count) ≡ true = eqb_same (length (solutions_of entries)) count (as_many entries ∙ full) in
    rw long (cost_last upper entries e is)

pub one_more : (entries : List Entry) (entry : Entry) → solutions_of (entries ++ entry ∷ []) ≡ solutions_of entries ++ solution_of entry ∷ []
one_more entries entry = map-append solution_of entries (entry ∷ [])

pub long_more : (P : Network) (entries : List Entry) (entry : Entry) → AreLong P entries → length entry.values.items ≡ length P.sizes → AreLong P (entries ++ entry ∷ [])
long_more P [] entry all is = (is, tt)
long_more P (e ∷ entries) entry all is = (all.0, long_more P entries entry all.1 is)
