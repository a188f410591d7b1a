-- The literals of a clause that is read are numbers of variables.
use Rattle.std.proofs.Common.{◌≡◌, ℕ, zero, suc, ◌+◌, ◌^◌, ◌<◌, ◌≤◌, Bool, false, cond, List, [], ◌∷◌, length, Result, Ok, None, refl, sym, ap, subst, ◌∙◌, arith, inl, inr, ℤ, pos, negsuc}
use Rattle.std.specs.Prelude.{unsigned_abs}
use Rattle.std.proofs.lemmas.Bool.{cases_Bool}
use Rattle.cfn_model.specs.declared.reading.Refusal.{Refusal}
use Rattle.cfn_model.specs.Network.{cells, dims}
use Rattle.cfn_model.specs.Words.{number_of}
use Rattle.cfn_model.specs.Reading.{◌>>=◌, At, number_in, natural_at, unless_refused, check_cost}
use Rattle.cfn_wcnf.specs.declared.clause.Occurrence.{Occurrence}
use Rattle.cfn_wcnf.specs.Clauses.{Clause, binary, clause_cells, falsified_costs, function_for, is_tautology, occurrences, occurrences_from, polarity_of, variable_of, with_literal}
use Rattle.cfn_wcnf.specs.Partial.{Increases}
use Rattle.cfn_wcnf.specs.Reading.{check_number, clause_from, is_zero, literals_in}
use Rattle.cfn_wcnf.proofs.Steps.{bind_ok, not_refused, ok_is}
use Rattle.cfn_wcnf.proofs.Checks.{passes}
use Rattle.cfn_wcnf.proofs.Occurrences.{increases}
use Rattle.cfn_wcnf.proofs.Tables.{dims_binary, cells_binary}

-- numbers other than 0 whose absolute values are numbers of variables
abbrev pub AreLiterals : ℕ → List ℤ → Type 0
AreLiterals n [] = Unit {0}
AreLiterals n (z ∷ zs) = (is_zero z ≡ false) × (unsigned_abs z ≤ n) × AreLiterals n zs

abbrev if_zero : Bool → List (List ℕ) → ℕ → Result (List ℤ × At) Refusal → Result (List ℤ × At) Refusal
if_zero b ws next read = cond b (Ok ([], record { words = ws; next = next + 1 })) read

abbrev with_front : ℤ → List ℤ × At → Result (List ℤ × At) Refusal
with_front z rest = Ok (z ∷ rest.0, rest.1)

abbrev continued : ℕ → ℕ → List Occurrence → List (List ℕ) → ℕ → ℤ → Result (List ℤ × At) Refusal
continued n so_far os ws next z = if_zero (is_zero z) ws next (literals_in n so_far (with_literal os z) ws (next + 1) >>= with_front z)

abbrev clause_of : ℕ → List ℤ × At → Result (Clause × At) Refusal
clause_of weight literals = Ok (record { weight = weight; literals = literals.0 }, literals.1)

unfolded : (n so_far : ℕ) (os : List Occurrence) (w : List ℕ) (ws : List (List ℕ)) (next : ℕ)
    → literals_in n so_far os (w ∷ ws) next ≡ (number_in (number_of w) next >>= λ z. unless_refused (check_number n so_far os z) next z >>= continued n so_far os ws next)
unfolding literals_in
unfolded n so_far os w ws next = refl

literal_passes : (n so_far : ℕ) (os : List Occurrence) (z : ℤ) → check_number n so_far os z ≡ None → is_zero z ≡ false → unsigned_abs z ≤ n
literal_passes n so_far os z e f = (passes n os z (rw f at e)).range

pub are_literals : (n so_far : ℕ) (os : List Occurrence) (ws : List (List ℕ)) (next : ℕ) (zs : List ℤ) (after : At) → literals_in n so_far os ws next ≡ Ok (zs, after) → AreLiterals n zs
unfolding literals_in
are_literals n so_far os [] next zs after h = absurd cc
are_literals n so_far os (w ∷ ws) next zs after h =
    let r = bind_ok (number_in (number_of w) next) (λ z. unless_refused (check_number n so_far os z) next z >>= continued n so_far os ws next) (zs, after) (sym (unfolded n so_far os w ws next) ∙ h) in
    let u = bind_ok (unless_refused (check_number n so_far os r.0) next r.0) (continued n so_far os ws next) (zs, after) r.2 in
    let c = not_refused (check_number n so_far os r.0) next r.0 u.0 u.1 in
    let passed : check_number n so_far os u.0 ≡ None = ap (check_number n so_far os) (sym c.1) ∙ c.0 in
    elim (cases_Bool (is_zero u.0)) [
      | inl e ↦ let same = ok_is {A = List ℤ × At} ([], record { words = ws; next = next + 1 }) (zs, after) (rw e at u.2) in subst (AreLiterals n) (ap (λ (p : List ℤ × At). p.0) same) tt
      | inr e ↦
          let rest = bind_ok (literals_in n so_far (with_literal os u.0) ws (next + 1)) (with_front u.0) (zs, after) (rw e at u.2) in
          let same = ok_is {A = List ℤ × At} (u.0 ∷ rest.0.0, rest.0.1) (zs, after) rest.2 in
          subst (AreLiterals n) (ap (λ (p : List ℤ × At). p.0) same) (e, literal_passes n so_far os u.0 passed e, are_literals n so_far (with_literal os u.0) ws (next + 1) rest.0.0 rest.0.1 rest.1)
    ]

-- the absolute value of a literal is at least 1
some : (z : ℤ) → is_zero z ≡ false → 0 < unsigned_abs z
some (pos zero) e = absurd cc
some (pos (suc n)) e = omega arith
some (negsuc n) e = omega arith

pub variable_below : (n : ℕ) (z : ℤ) → is_zero z ≡ false → unsigned_abs z ≤ n → variable_of z < n
variable_below n z e le = omega (arith, some z e)

pub still_increase : (n : ℕ) (os : List Occurrence) (zs : List ℤ) → AreLiterals n zs → Increases n 0 os → Increases n 0 (occurrences_from os zs)
still_increase n os [] are up = up
still_increase n os (z ∷ zs) are up =
    still_increase n (with_literal os z) zs are.2 (increases n 0 (variable_of z) (polarity_of z) os (omega arith) (variable_below n z are.0 are.1) up)

-- the cells of a clause's function
falsified_cells : (n top weight : ℕ) (os : List Occurrence) → Increases n 0 os → cells (dims (binary n) (falsified_costs n top weight os).scope) ≡ 2 ^ length os
falsified_cells n top weight [] up = refl
falsified_cells n top weight (o ∷ os) up = ap cells (dims_binary n 0 (o ∷ os) up) ∙ cells_binary (length (o ∷ os))

pub function_cells : (n top : ℕ) (c : Clause) → AreLiterals n c.literals → cells (dims (binary n) (function_for n top c).scope) ≡ clause_cells (occurrences c.literals)
function_cells n top c are =
    let os = occurrences c.literals in
    elim (cases_Bool (is_tautology os)) [
      | inl e ↦ rw e refl
      | inr e ↦ rw e (falsified_cells n top c.weight os (still_increase n [] c.literals are tt))
    ]

-- the literals of a clause that is read
pub read_literals : (n so_far : ℕ) (s : At) (c : Clause) (after : At) → clause_from n so_far s ≡ Ok (c, after) → AreLiterals n c.literals
unfolding clause_from
read_literals n so_far s c after h =
    let w = bind_ok (natural_at check_cost s) _ (c, after) h in
    let l = bind_ok (literals_in n so_far [] w.0.1.words w.0.1.next) (clause_of w.0.0) (c, after) w.2 in
    let same = ok_is {A = Clause × At} (record { weight = w.0.0; literals = l.0.0 }, l.0.1) (c, after) l.2 in
    subst (λ (c : Clause). AreLiterals n c.literals) (ap (λ (p : Clause × At). p.0) same) (are_literals n so_far [] w.0.1.words w.0.1.next l.0.0 l.0.1 l.1)
