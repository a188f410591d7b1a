-- The next word of a line, and the number that a word is.
use Rattle.std.proofs.Common.{◌≡◌, ℕ, zero, suc, ◌+◌, ◌-◌, ◌<◌, ◌≤◌, Bool, true, false, List, [], ◌∷◌, length, take, drop, get_or, refl, sym, ap, ap₂, ◌∙◌, arith, add-one, inl, inr}
use Rattle.std.proofs.lemmas.Bool.{cases_Bool, cases_lt, lt-ltb, le-ltb, and_parts, leb-true, ne_eqb}
use Rattle.std.proofs.lemmas.List.{take_rest, drop_all, drop_more}
use Rattle.std.proofs.Math.Numerals.{one-add}
use Rattle.std.specs.Prelude.{Option, Some, None, Ok, Err, Result, ℤ, position, ◌==◌, nat_le, unsigned_abs, is_some, unwrap_or}
use Rattle.std.specs.List.{list_all, position_or_len}
use Rattle.cfn_model.specs.declared.reading.NumberFault.{NumberFault}
use Rattle.cfn_model.specs.Words.{is_digit, is_number, magnitude_of, has_minus, digits_behind, greatest, number_of, with_first}
use Rattle.cfn_fault.specs.Lines.{Line, Values}
use Rattle.cfn_fault.specs.Decoding.{◌>>=◌, words_in, word_from, has_one_form, numeral, with_rest, number_from, numbers_in, are_values}
use Rattle.cfn_certtext.specs.Stages.{values_of}

abbrev is_space : ℕ → Bool
is_space b = b == 32

abbrev first_len : List ℕ → ℕ
first_len bytes = position_or_len is_space bytes

len_at_space : (b : ℕ) (bytes : List ℕ) → is_space b ≡ true → first_len (b ∷ bytes) ≡ 0
len_at_space b bytes e = rw e refl

len_at_word : (b : ℕ) (bytes : List ℕ) → is_space b ≡ false → first_len (b ∷ bytes) ≡ suc (first_len bytes)
len_at_word b bytes e = rw e (one-add (first_len bytes))

space_first : (b : ℕ) (bytes : List ℕ) → is_space b ≡ true → words_in (b ∷ bytes) ≡ [] ∷ words_in bytes
space_first b bytes e = rw e refl

letter_first : (b : ℕ) (bytes : List ℕ) → is_space b ≡ false → words_in (b ∷ bytes) ≡ with_first b (words_in bytes)
letter_first b bytes e = rw e refl

longer : (b : ℕ) (words : List (List ℕ)) (word : List ℕ) (rest : List (List ℕ)) → words ≡ word ∷ rest → with_first b words ≡ (b ∷ word) ∷ rest
longer b words word rest e = rw e refl

to_space : (bytes : List ℕ) (n : ℕ) → first_len bytes ≡ n → n < length bytes → words_in bytes ≡ take n bytes ∷ words_in (drop (suc n) bytes)
to_space [] n is lt = absurd (omega arith)
to_space (b ∷ bytes) zero is lt =
    elim (cases_Bool (is_space b)) [
      | inl e ↦ space_first b bytes e
      | inr e ↦ absurd (omega (arith, len_at_word b bytes e))
    ]
to_space (b ∷ bytes) (suc n) is lt =
    elim (cases_Bool (is_space b)) [
      | inl e ↦ absurd (omega (arith, len_at_space b bytes e))
      | inr e ↦ letter_first b bytes e ∙ longer b (words_in bytes) (take n bytes) (words_in (drop (suc n) bytes)) (to_space bytes n (omega (arith, len_at_word b bytes e)) (omega arith))
    ]

to_end : (bytes : List ℕ) → length bytes ≤ first_len bytes → words_in bytes ≡ bytes ∷ []
to_end [] le = refl
to_end (b ∷ bytes) le =
    elim (cases_Bool (is_space b)) [
      | inl e ↦ absurd (omega (arith, len_at_space b bytes e))
      | inr e ↦ letter_first b bytes e ∙ longer b (words_in bytes) bytes [] (to_end bytes (omega (arith, len_at_word b bytes e)))
    ]

pub position_some : (p : ℕ → Bool) (bytes : List ℕ) (n : ℕ) → position p bytes ≡ Some n → (position_or_len p bytes ≡ n) × (n < length bytes)
position_some p bytes n e =
    elim (cases_lt (position_or_len p bytes) (length bytes)) [
      | inl lt ↦ let some = rw (lt-ltb (position_or_len p bytes) (length bytes) lt) at e in let is : position_or_len p bytes ≡ n = cc in (is, omega arith)
      | inr ge ↦ let none = rw (le-ltb (position_or_len p bytes) (length bytes) ge) at e in absurd (cc)
    ]

pub position_none : (p : ℕ → Bool) (bytes : List ℕ) → position p bytes ≡ None → length bytes ≤ position_or_len p bytes
position_none p bytes e =
    elim (cases_lt (position_or_len p bytes) (length bytes)) [
      | inl lt ↦ let some = rw (lt-ltb (position_or_len p bytes) (length bytes) lt) at e in absurd (cc)
      | inr ge ↦ ge
    ]

pub word_to_space : (bytes : List ℕ) (n : ℕ) → position is_space bytes ≡ Some n → word_from (words_in bytes) ≡ Some (take n bytes, words_in (take (length bytes - (n + 1)) (drop (n + 1) bytes)))
word_to_space bytes n e =
    let at = position_some is_space bytes n e in
    ap word_from (to_space bytes n at.0 at.1 ∙ ap (λ k. take n bytes ∷ words_in (drop k bytes)) (sym (add-one n)) ∙ ap (λ r. take n bytes ∷ words_in r) (sym (take_rest bytes (n + 1))))

pub word_to_end : (bytes : List ℕ) → position is_space bytes ≡ None → word_from (words_in bytes) ≡ Some (bytes, [])
word_to_end bytes e = ap word_from (to_end bytes (position_none is_space bytes e))

-- a word that is no minus and digits
some_digit : (word : List ℕ) → has_one_form word ≡ true → list_all is_digit word ≡ true → (magnitude_of word ≡ word) × (has_minus word ≡ false) × (is_number word ≡ true)
some_digit [] one digits = absurd cc
some_digit (b ∷ word) one digits =
    let parts = and_parts (is_digit b) (list_all is_digit word) digits in
    let least : 48 ≤ b = leb-true 48 b (and_parts (nat_le 48 b) (nat_le b 57) parts.0).0 in
    let not_minus : (b == 45) ≡ false = ne_eqb b 45 (λ h. absurd (omega arith)) in
    (rw not_minus refl, not_minus, rw (not_minus, digits) refl)

abbrev pub value_of : Result ℤ NumberFault → Option ℕ
value_of (Ok z) = Some (unsigned_abs z)
value_of (Err e) = None

pub numeral_is_number : (word : List ℕ) → has_one_form word ≡ true → list_all is_digit word ≡ true → numeral word ≡ value_of (number_of word)
unfolding numeral
numeral_is_number word one digits =
    let it = some_digit word one digits in
    elim (cases_lt greatest (digits_behind 0 word)) [
      | inl over ↦ rw (one, digits, lt-ltb greatest (digits_behind 0 word) over, it.2, it.0) (rw (lt-ltb greatest (digits_behind 0 word) over) refl)
      | inr few ↦ rw (one, digits, le-ltb greatest (digits_behind 0 word) few, it.2, it.0) (rw (le-ltb greatest (digits_behind 0 word) few, it.1) refl)
    ]

pub not_one_form : (word : List ℕ) → has_one_form word ≡ false → numeral word ≡ None
unfolding numeral
not_one_form word e = rw e refl

pub not_digits : (word : List ℕ) → has_one_form word ≡ true → list_all is_digit word ≡ false → numeral word ≡ None
unfolding numeral
not_digits word one e = rw (one, e) refl

-- all words as numbers, word by word
by_numeral : (o : Option ℕ) (rest : Option (List ℕ)) → is_some o ≡ true → is_some (o >>= λ n. rest >>= λ ns. Some (n ∷ ns)) ≡ is_some rest
by_numeral None rest e = absurd cc
by_numeral (Some n) None e = refl
by_numeral (Some n) (Some ns) e = refl

by_none : (o : Option ℕ) (rest : Option (List ℕ)) → is_some o ≡ false → is_some (o >>= λ n. rest >>= λ ns. Some (n ∷ ns)) ≡ false
by_none None rest e = refl
by_none (Some n) rest e = absurd cc

one_pair : {x y : List ℕ × List (List ℕ)} → Some x ≡ Some y → x ≡ y
one_pair e = cc

pub no_words : (words : List (List ℕ)) → word_from words ≡ None → is_some (numbers_in words) ≡ true
unfolding numbers_in
no_words [] e = refl
no_words (word ∷ words) e = absurd cc

pub one_number : (words : List (List ℕ)) (word : List ℕ) (rest : List (List ℕ)) → word_from words ≡ Some (word, rest) → is_some (numeral word) ≡ true → is_some (numbers_in words) ≡ is_some (numbers_in rest)
unfolding numbers_in
one_number [] word rest e some = absurd cc
one_number (w ∷ words) word rest e some =
    let same : w ≡ word = ap (λ p. p.0) (one_pair e) in
    let others : words ≡ rest = ap (λ p. p.1) (one_pair e) in
    by_numeral (numeral w) (numbers_in words) (ap (λ x. is_some (numeral x)) same ∙ some) ∙ ap (λ x. is_some (numbers_in x)) others

pub no_number : (words : List (List ℕ)) (word : List ℕ) (rest : List (List ℕ)) → word_from words ≡ Some (word, rest) → is_some (numeral word) ≡ false → is_some (numbers_in words) ≡ false
unfolding numbers_in
no_number [] word rest e none = absurd cc
no_number (w ∷ words) word rest e none =
    let same : w ≡ word = ap (λ p. p.0) (one_pair e) in
    by_none (numeral w) (numbers_in words) (ap (λ x. is_some (numeral x)) same ∙ none)

-- the values of a line
its_values : (words : List (List ℕ)) → is_some (numbers_in words) ≡ true → numbers_in words ≡ Some (values_of words)
unfolding numbers_in
its_values [] e = refl
its_values (word ∷ words) e =
    let first : is_some (numeral word) ≡ true = some_numeral (numeral word) (numbers_in words) e in
    let rest = its_values words (sym (by_numeral (numeral word) (numbers_in words) first) ∙ e) in
    ap (λ r. numeral word >>= λ n. r >>= λ ns. Some (n ∷ ns)) rest ∙ given (numeral word) (values_of words) first
  where
    some_numeral : (o : Option ℕ) (rest : Option (List ℕ)) → is_some (o >>= λ n. rest >>= λ ns. Some (n ∷ ns)) ≡ true → is_some o ≡ true
    some_numeral None rest e = e
    some_numeral (Some n) rest e = refl

    given : (o : Option ℕ) (values : List ℕ) → is_some o ≡ true → (o >>= λ n. Some (n ∷ values)) ≡ Some (unwrap_or o 0 ∷ values)
    given None values e = absurd cc
    given (Some n) values e = refl

-- the first number of a line, and the words behind it
record FirstNumber (words : List (List ℕ)) (n : ℕ) (rest : List (List ℕ)) : Type 0 where
  word : List ℕ
  whole : words ≡ word ∷ rest
  is : numeral word ≡ Some n

first_number : (words : List (List ℕ)) (n : ℕ) (rest : List (List ℕ)) → number_from words ≡ Some (n, rest) → FirstNumber words n rest
unfolding number_from
first_number [] n rest e = absurd cc
first_number (word ∷ words) n rest e =
    let parts = of_rest (numeral word) words e in
    record { word = word; whole = ap (λ ws. word ∷ ws) parts.1; is = parts.0 }
  where
    same : {x y : ℕ × List (List ℕ)} → Some x ≡ Some y → x ≡ y
    same e = cc

    of_rest : (o : Option ℕ) (ws : List (List ℕ)) → with_rest o ws ≡ Some (n, rest) → (o ≡ Some n) × (ws ≡ rest)
    of_rest None ws e = absurd cc
    of_rest (Some m) ws e = (ap (λ p. Some p.0) (same e), ap (λ p. p.1) (same e))

-- values, one at least
abbrev said : Option ℕ → Option (List ℕ) → Option Line
said first others = first >>= λ n. others >>= λ ns. Some (Values (n ∷ ns))

pub values_from : (first : Option ℕ) (others : Option (List ℕ)) → (first >>= λ n. others >>= λ ns. Some (n ∷ ns)) >>= (λ values. Some (Values values)) ≡ said first others
values_from None others = refl
values_from (Some n) None = refl
values_from (Some n) (Some ns) = refl

pub no_first_value : (words : List (List ℕ)) → number_from words ≡ None → are_values words ≡ None
unfolding number_from numbers_in
no_first_value [] e = refl
no_first_value (word ∷ words) e = values_from (numeral word) (numbers_in words) ∙ by_rest (numeral word) e
  where
    by_rest : (o : Option ℕ) → with_rest o words ≡ None → said o (numbers_in words) ≡ None
    by_rest None e = refl
    by_rest (Some n) e = absurd cc

of_values : (words : List (List ℕ)) (n : ℕ) (rest : List (List ℕ)) → number_from words ≡ Some (n, rest) → are_values words ≡ said (Some n) (numbers_in rest)
unfolding numbers_in
of_values words n rest e =
    let f = first_number words n rest e in
    ap are_values f.whole ∙ values_from (numeral f.word) (numbers_in rest) ∙ ap (λ o. said o (numbers_in rest)) f.is

pub values_fail : (words : List (List ℕ)) (n : ℕ) (rest : List (List ℕ)) → number_from words ≡ Some (n, rest) → is_some (numbers_in rest) ≡ false → are_values words ≡ None
values_fail words n rest e none = of_values words n rest e ∙ by_others (numbers_in rest) none
  where
    by_others : (o : Option (List ℕ)) → is_some o ≡ false → said (Some n) o ≡ None
    by_others None e = refl
    by_others (Some ns) e = absurd cc

pub values_said : (words : List (List ℕ)) (n : ℕ) (rest : List (List ℕ)) → number_from words ≡ Some (n, rest) → is_some (numbers_in rest) ≡ true → are_values words ≡ Some (Values (n ∷ values_of rest))
values_said words n rest e some = of_values words n rest e ∙ ap (said (Some n)) (its_values rest some)

-- a word with the bytes of a key
abbrev pub SameFrom : List ℕ → ℕ → List ℕ → Type 0
SameFrom word p [] = Unit {0}
SameFrom word p (b ∷ key) = (get_or word p 0 ≡ b) × SameFrom word (p + 1) key

same_from : (word key : List ℕ) (p : ℕ) → length word ≡ p + length key → SameFrom word p key → drop p word ≡ key
same_from word [] p long same = drop_all p word (omega (arith, long))
same_from word (b ∷ key) p long same = drop_more word p 0 (omega (arith, long)) ∙ ap₂ (λ x xs. x ∷ xs) same.0 (same_from word key (p + 1) (omega (arith, long)) same.1)

pub spelled : (word key : List ℕ) → length word ≡ length key → SameFrom word 0 key → word ≡ key
spelled word key long same = same_from word key 0 (omega (arith, long)) same
