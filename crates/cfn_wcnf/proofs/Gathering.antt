-- Gathering one literal at a time is gathering them all.
use Rattle.std.proofs.Common.{◌≡◌, ℕ, ◌+◌, true, false, List, [], ◌∷◌, Result, Ok, Err, Option, Some, None, refl, sym, ap, ◌∙◌, ℤ}
use Rattle.cfn_model.specs.declared.reading.Kind.{Kind}
use Rattle.cfn_model.specs.declared.reading.Refusal.{Refusal}
use Rattle.cfn_model.specs.Words.{number_of}
use Rattle.cfn_model.specs.Reading.{◌>>=◌, At, number_in, unless_refused}
use Rattle.cfn_wcsp.specs.declared.fault.ReadFault.{ReadFault}
use Rattle.cfn_wcsp.specs.declared.fault.ReadFault.TheVariants.{Refused, Memory}
use Rattle.cfn_wcsp.specs.Giving.{Fails}
use Rattle.cfn_wcnf.specs.declared.clause.Occurrence.{Occurrence}
use Rattle.cfn_wcnf.specs.Clauses.{with_literal, occurrences_from}
use Rattle.cfn_wcnf.specs.Reading.{check_number, is_zero, literals_in}
use Rattle.cfn_wcnf.specs.Gathering.{gathered_at, integer_at}
use Rattle.cfn_wcnf.proofs.Steps.{ok_is}

-- a number that was read and checked
record Checked (r : Result ℤ Refusal) (check : ℤ → Option Kind) (z : ℤ) : Type 0 where
  pub read : r ≡ Ok z
  pub passes : check z ≡ None

abbrev number_with : Option Kind → ℕ → ℤ → At → Result (ℤ × At) Refusal
number_with o next y rest = unless_refused o next (y, rest)

abbrev numbered : Result ℤ Refusal → (ℤ → Option Kind) → ℕ → At → Result (ℤ × At) Refusal
numbered r check next rest = r >>= λ z. number_with (check z) next z rest

passed : (y : ℤ) (check : ℤ → Option Kind) (o : Option Kind) (next : ℕ) (rest after : At) (z : ℤ) → check y ≡ o
    → number_with o next y rest ≡ Ok (z, after) → Checked (Ok y) check z × (rest ≡ after)
passed y check None next rest after z e h =
    let same = ok_is {A = ℤ × At} (y, rest) (z, after) h in
    let number : y ≡ z = ap (λ (p : ℤ × At). p.0) same in
    (record { read = ap (λ x. Ok x) number; passes = ap check (sym number) ∙ e }, ap (λ (p : ℤ × At). p.1) same)
passed y check (Some kind) next rest after z e h = absurd cc

checked : (r : Result ℤ Refusal) (check : ℤ → Option Kind) (next : ℕ) (rest after : At) (z : ℤ)
    → numbered r check next rest ≡ Ok (z, after) → Checked r check z × (rest ≡ after)
checked (Err e) check next rest after z h = absurd cc
checked (Ok y) check next rest after z h = passed y check (check y) next rest after z refl h

-- a literal, with those behind it
abbrev gathered : List Occurrence → Result (List ℤ × At) Refusal → Result (List Occurrence × At) Refusal
gathered os read = read >>= λ literals. Ok (occurrences_from os literals.0, literals.1)

regroup : (os : List Occurrence) (z : ℤ) (read : Result (List ℤ × At) Refusal) → gathered os (read >>= λ rest. Ok (z ∷ rest.0, rest.1)) ≡ gathered (with_literal os z) read
regroup os z (Ok x) = refl
regroup os z (Err e) = refl

literal : (n so_far : ℕ) (os : List Occurrence) (w : List ℕ) (ws : List (List ℕ)) (next : ℕ) (z : ℤ) → Checked (number_in (number_of w) next) (check_number n so_far os) z → is_zero z ≡ false
    → literals_in n so_far os (w ∷ ws) next ≡ (literals_in n so_far (with_literal os z) ws (next + 1) >>= λ rest. Ok (z ∷ rest.0, rest.1))
unfolding literals_in
literal n so_far os w ws next z c e = rw (c.read, c.passes, e) refl

zero_at : (n so_far : ℕ) (os : List Occurrence) (w : List ℕ) (ws : List (List ℕ)) (next : ℕ) (z : ℤ) → Checked (number_in (number_of w) next) (check_number n so_far os) z → is_zero z ≡ true
    → literals_in n so_far os (w ∷ ws) next ≡ Ok ([], record { words = ws; next = next + 1 })
unfolding literals_in
zero_at n so_far os w ws next z c e = rw (c.read, c.passes, e) refl

abbrev at : List (List ℕ) → ℕ → At
at ws next = record { words = ws; next = next }

go_in : (n so_far : ℕ) (os : List Occurrence) (ws : List (List ℕ)) (next : ℕ) (z : ℤ) (after : At) → integer_at (check_number n so_far os) (at ws next) ≡ Ok (z, after) → is_zero z ≡ false
    → gathered_at n so_far os (at ws next) ≡ gathered_at n so_far (with_literal os z) after
go_in n so_far os [] next z after h e = absurd cc
go_in n so_far os (w ∷ ws) next z after h e =
    let c = checked (number_in (number_of w) next) (check_number n so_far os) next (at ws (next + 1)) after z h in
    ap (gathered os) (literal n so_far os w ws next z c.0 e)
    ∙ regroup os z (literals_in n so_far (with_literal os z) ws (next + 1))
    ∙ ap (gathered_at n so_far (with_literal os z)) c.1

pub go_on : (n so_far : ℕ) (os : List Occurrence) (s : At) (z : ℤ) (after : At) (total : Result (List Occurrence × At) Refusal) → integer_at (check_number n so_far os) s ≡ Ok (z, after) → is_zero z ≡ false
    → gathered_at n so_far os s ≡ total → gathered_at n so_far (with_literal os z) after ≡ total
go_on n so_far os s z after total h e so_far_is = sym (go_in n so_far os s.words s.next z after h e) ∙ so_far_is

done_in : (n so_far : ℕ) (os : List Occurrence) (ws : List (List ℕ)) (next : ℕ) (z : ℤ) (after : At) → integer_at (check_number n so_far os) (at ws next) ≡ Ok (z, after) → is_zero z ≡ true
    → gathered_at n so_far os (at ws next) ≡ Ok (os, after)
done_in n so_far os [] next z after h e = absurd cc
done_in n so_far os (w ∷ ws) next z after h e =
    let c = checked (number_in (number_of w) next) (check_number n so_far os) next (at ws (next + 1)) after z h in
    ap (gathered os) (zero_at n so_far os w ws next z c.0 e) ∙ ap (λ s. Ok (os, s)) c.1

pub done : (n so_far : ℕ) (os : List Occurrence) (s : At) (z : ℤ) (after : At) (total : Result (List Occurrence × At) Refusal) → integer_at (check_number n so_far os) s ≡ Ok (z, after) → is_zero z ≡ true
    → gathered_at n so_far os s ≡ total → total ≡ Ok (os, after)
done n so_far os s z after total h e so_far_is = sym so_far_is ∙ done_in n so_far os s.words s.next z after h e

-- a number that is none, or fails its check
abbrev behind_check : Result ℤ Refusal → (ℤ → Option Kind) → ℕ → (ℤ → Result (List ℤ × At) Refusal) → Result (List ℤ × At) Refusal
behind_check r check next f = r >>= λ z. unless_refused (check z) next z >>= f

unpassed : (y : ℤ) (o : Option Kind) (next : ℕ) (rest : At) (f : ℤ → Result (List ℤ × At) Refusal) (e : Refusal) → number_with o next y rest ≡ Err e → (unless_refused o next y >>= f) ≡ Err e
unpassed y None next rest f e h = absurd cc
unpassed y (Some kind) next rest f e h = let same : record { kind = kind; ordinal = next } ≡ e = cc in ap (λ e. Err e) same

unchecked : (r : Result ℤ Refusal) (check : ℤ → Option Kind) (next : ℕ) (rest : At) (f : ℤ → Result (List ℤ × At) Refusal) (e : Refusal)
    → numbered r check next rest ≡ Err e → behind_check r check next f ≡ Err e
unchecked (Err d) check next rest f e h = let same : d ≡ e = cc in ap (λ e. Err e) same
unchecked (Ok y) check next rest f e h = unpassed y (check y) next rest f e h

none_in : (n so_far : ℕ) (os : List Occurrence) (ws : List (List ℕ)) (next : ℕ) (e : Refusal) → integer_at (check_number n so_far os) (at ws next) ≡ Err e → gathered_at n so_far os (at ws next) ≡ Err e
unfolding literals_in
none_in n so_far os [] next e h = let same = h in cc
none_in n so_far os (w ∷ ws) next e h = ap (gathered os) (unchecked (number_in (number_of w) next) (check_number n so_far os) next (at ws (next + 1)) _ e h)

pub end : (e : ReadFault) (n so_far : ℕ) (os : List Occurrence) (s : At) (total : Result (List Occurrence × At) Refusal) → Fails e (integer_at (check_number n so_far os) s)
    → gathered_at n so_far os s ≡ total → Fails e total
end Memory n so_far os s total h so_far_is = tt
end (Refused r) n so_far os s total h so_far_is = sym so_far_is ∙ none_in n so_far os s.words s.next r h
