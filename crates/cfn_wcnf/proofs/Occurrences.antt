-- A variable among others that increase: where it stands, and what one occurrence more makes of them.
use Rattle.std.proofs.Common.{◌≡◌, ℕ, suc, ◌<◌, ◌≤◌, Bool, true, false, cond, List, [], ◌∷◌, ◌++◌, length, get_or, set, take, drop, refl, sym, ap, ◌∙◌, arith, inl, inr}
use Rattle.std.specs.Prelude.{◌==◌, nat_le}
use Rattle.std.specs.List.{insert, refill}
use Rattle.std.proofs.lemmas.Bool.{cases_Bool, cases_lt, cases_eq, eq-eqb, ne_eqb, le-leb, lt-leb}
use Rattle.std.proofs.lemmas.List.{append-nil, drop_all, length-set}
use Rattle.std.proofs.Math.Seq.{take-length}
use Rattle.std.proofs.Math.Numerals.{one-add}
use Rattle.cfn_wcnf.specs.declared.clause.TheConstants.{MOST_CLAUSE_VARIABLES}
use Rattle.cfn_wcnf.specs.declared.clause.Polarity.{Polarity}
use Rattle.cfn_wcnf.specs.declared.clause.Polarity.TheVariants.{Positive}
use Rattle.cfn_wcnf.specs.declared.clause.Occurrence.{Occurrence}
use Rattle.cfn_wcnf.specs.Clauses.{merge, occurs, with_occurrence}
use Rattle.cfn_wcnf.specs.Partial.{Increases, Keeps, place_of, stands}

at_first : (x : ℕ) (o : Occurrence) (os : List Occurrence) → nat_le x o.variable ≡ true → place_of x (o ∷ os) ≡ 0
at_first x o os e = rw e refl

at_later : (x : ℕ) (o : Occurrence) (os : List Occurrence) → nat_le x o.variable ≡ false → place_of x (o ∷ os) ≡ suc (place_of x os)
at_later x o os e = rw e (one-add (place_of x os))

pub place_within : (x : ℕ) (os : List Occurrence) → place_of x os ≤ length os
place_within x [] = omega arith
place_within x (o ∷ os) =
    elim (cases_Bool (nat_le x o.variable)) [
      | inl e ↦ omega (arith, at_first x o os e)
      | inr e ↦ omega (arith, at_later x o os e, place_within x os)
    ]

-- what the test of a place says
pub stands_at : (x : ℕ) (os : List Occurrence) (d : Occurrence) → place_of x os < length os → ((get_or os (place_of x os) d).variable == x) ≡ stands x os
stands_at x [] d lt = absurd (omega arith)
stands_at x (o ∷ os) d lt =
    elim (cases_Bool (nat_le x o.variable)) [
      | inl e ↦ ap (λ n. (get_or (o ∷ os) n d).variable == x) (at_first x o os e) ∙ sym (here x o os e)
      | inr e ↦ let n = at_later x o os e in let less : place_of x os < length os = omega (arith, n) in
          ap (λ n. (get_or (o ∷ os) n d).variable == x) n ∙ stands_at x os d less ∙ sym (later x o os e)
    ]
  where
    here : (x : ℕ) (o : Occurrence) (os : List Occurrence) → nat_le x o.variable ≡ true → stands x (o ∷ os) ≡ (o.variable == x)
    here x o os e = rw e refl

    later : (x : ℕ) (o : Occurrence) (os : List Occurrence) → nat_le x o.variable ≡ false → stands x (o ∷ os) ≡ stands x os
    later x o os e = rw e refl

pub stands_past : (x : ℕ) (os : List Occurrence) → length os ≤ place_of x os → stands x os ≡ false
stands_past x [] le = refl
stands_past x (o ∷ os) le =
    elim (cases_Bool (nat_le x o.variable)) [
      | inl e ↦ absurd (omega (arith, at_first x o os e))
      | inr e ↦ let more : length os ≤ place_of x os = omega (arith, at_later x o os e) in later x o os e ∙ stands_past x os more
    ]
  where
    later : (x : ℕ) (o : Occurrence) (os : List Occurrence) → nat_le x o.variable ≡ false → stands x (o ∷ os) ≡ stands x os
    later x o os e = rw e refl

-- one occurrence more, of a variable that stands there or not
pub record There (x : ℕ) (p : Polarity) (os : List Occurrence) (d : Occurrence) : Type 0 where
  pub within : place_of x os < length os
  pub is : with_occurrence x p os ≡ set os (place_of x os) (occurs x (merge (get_or os (place_of x os) d).polarity p))

pub there : (x : ℕ) (p : Polarity) (os : List Occurrence) (d : Occurrence) → stands x os ≡ true → There x p os d
there x p [] d s = absurd cc
there x p (o ∷ os) d s =
    elim (cases_Bool (nat_le x o.variable)) [
      | inl e ↦ let n = at_first x o os e in let same : (o.variable == x) ≡ true = rw e at s in record {
        within = omega (arith, n);
        is = rw (e, same) refl;
      }
      | inr e ↦ let n = at_later x o os e in let t = there x p os d (rw e at s) in record {
        within = omega (arith, n, t.within);
        is = later x p o os e ∙ ap (λ os. o ∷ os) t.is ∙ sym (ap (λ n. set (o ∷ os) n (occurs x (merge (get_or (o ∷ os) n d).polarity p))) n);
      }
    ]
  where
    later : (x : ℕ) (p : Polarity) (o : Occurrence) (os : List Occurrence) → nat_le x o.variable ≡ false → with_occurrence x p (o ∷ os) ≡ o ∷ with_occurrence x p os
    later x p o os e = rw e refl

pub new : (x : ℕ) (p : Polarity) (os : List Occurrence) → stands x os ≡ false → with_occurrence x p os ≡ insert os (place_of x os) (occurs x p)
new x p [] s = refl
new x p (o ∷ os) s =
    elim (cases_Bool (nat_le x o.variable)) [
      | inl e ↦ let other : (o.variable == x) ≡ false = rw e at s in rw (e, other) refl
      | inr e ↦ later x p o os e ∙ ap (λ os. o ∷ os) (new x p os (rw e at s)) ∙ sym (ap (λ n. insert (o ∷ os) n (occurs x p)) (at_later x o os e))
    ]
  where
    later : (x : ℕ) (p : Polarity) (o : Occurrence) (os : List Occurrence) → nat_le x o.variable ≡ false → with_occurrence x p (o ∷ os) ≡ o ∷ with_occurrence x p os
    later x p o os e = rw e refl

-- how many there are then
pub more : (x : ℕ) (p : Polarity) (os : List Occurrence) → length (with_occurrence x p os) ≡ cond (stands x os) (length os) (suc (length os))
more x p [] = refl
more x p (o ∷ os) =
    elim (cases_Bool (nat_le x o.variable)) [
      | inl e ↦ elim (cases_Bool (o.variable == x)) [ inl same ↦ rw (e, same) refl | inr other ↦ rw (e, other) refl ]
      | inr e ↦ rw e (ap suc (more x p os) ∙ out (stands x os) (length os))
    ]
  where
    out : (b : Bool) (n : ℕ) → suc (cond b n (suc n)) ≡ cond b (suc n) (suc (suc n))
    out true n = refl
    out false n = refl

-- they increase
pub increases : (n low x : ℕ) (p : Polarity) (os : List Occurrence) → low ≤ x → x < n → Increases n low os → Increases n low (with_occurrence x p os)
increases n low x p [] le lt are = (le, lt, tt)
increases n low x p (o ∷ os) le lt are =
    elim (cases_lt o.variable x) [
      | inl before ↦ rw (lt-leb x o.variable before) (are.0, are.1, increases n (suc o.variable) x p os before lt are.2)
      | inr behind ↦ elim (cases_eq o.variable x) [
        | inl same ↦ rw (le-leb x o.variable behind, eq-eqb o.variable x same) (le, lt, rw same at are.2)
        | inr other ↦ rw (le-leb x o.variable behind, ne_eqb o.variable x other) (le, lt, (omega arith, are.1, are.2))
      ]
    ]

-- a list whose elements were all written
pub refilled : (os ws : List Occurrence) → length ws ≡ length os → refill (length os) os ws ≡ ws
refilled os ws same =
    ap (λ n. take n (ws ++ drop (length ws) os)) (sym same)
    ∙ ap (λ rest. take (length ws) (ws ++ rest)) (drop_all (length ws) os (omega arith))
    ∙ ap (λ zs. take (length ws) zs) (append-nil ws) ∙ take-length ws

-- what a write of the polarity at a variable's place makes of a vector's items
pub written : (x : ℕ) (p q : Polarity) (os ws rs : List Occurrence) (k : ℕ) (d : Occurrence) → stands x os ≡ true → k ≡ place_of x os → ws ≡ os → rs ≡ os → q ≡ merge (get_or rs k d).polarity p
    → refill (length os) os (set ws k (occurs x q)) ≡ with_occurrence x p os
written x p q os ws rs k d s at same read is =
    let t = there x p os d s in
    let merged : q ≡ merge (get_or os (place_of x os) d).polarity p = is ∙ ap (λ (us : List Occurrence). merge (get_or us k d).polarity p) read ∙ ap (λ n. merge (get_or os n d).polarity p) at in
    refilled os (set ws k (occurs x q)) (length-set ws k (occurs x q) ∙ ap length same)
    ∙ ap (λ (us : List Occurrence). set us k (occurs x q)) same ∙ ap (λ n. set os n (occurs x q)) at
    ∙ ap (λ q. set os (place_of x os) (occurs x q)) merged ∙ sym t.is

pub within : (x : ℕ) (os ws : List Occurrence) (k : ℕ) → stands x os ≡ true → k ≡ place_of x os → ws ≡ os → k < length ws
within x os ws k s at same = omega (arith, (there x Positive os (occurs 0 Positive) s).within, ap length same)

pub keeps_more : (n x : ℕ) (p : Polarity) (os : List Occurrence) → Keeps n os → x < n → length (with_occurrence x p os) ≤ MOST_CLAUSE_VARIABLES → Keeps n (with_occurrence x p os)
keeps_more n x p os keeps lt few = record { increases = increases n 0 x p os (omega arith) lt keeps.increases; few = few }

-- the place of a new variable has room
pub has_room : (x : ℕ) (p : Polarity) (os : List Occurrence) → stands x os ≡ false → length (with_occurrence x p os) ≤ MOST_CLAUSE_VARIABLES → length os < MOST_CLAUSE_VARIABLES
has_room x p os s few = omega (arith, few, more x p os ∙ ap (λ b. cond b (length os) (suc (length os))) s)
