-- The first word of a text stands between the white space before it and the first white space behind it.
use Rattle.std.proofs.Common.{◌≡◌, ℕ, zero, suc, ◌+◌, ◌-◌, ◌<◌, ◌≤◌, Bool, true, false, not, List, [], ◌∷◌, length, take, drop, Some, None, refl, sym, ap, subst, ◌∙◌, arith, inl, inr}
use Rattle.std.specs.Prelude.{unwrap_or, position, slice_range}
use Rattle.std.specs.List.{position_or_len}
use Rattle.std.proofs.lemmas.Bool.{cases_Bool, cases_lt, lt-ltb, le-ltb}
use Rattle.std.proofs.lemmas.List.{drop-drop, length-drop, drop_all, take_rest}
use Rattle.std.proofs.lemmas.List.Sums.{prefix_len-le-length}
use Rattle.std.proofs.Math.Numerals.{one-add}
use Rattle.cfn_model.specs.Words.{is_space, begins_word, with_first, words, IsWord}

-- the words of a text by its first byte
space_first : (b : ℕ) (bytes : List ℕ) → is_space b ≡ true → words (b ∷ bytes) ≡ words bytes
space_first b bytes e = rw e refl

last_byte : (b : ℕ) (bytes : List ℕ) → is_space b ≡ false → begins_word bytes ≡ false → words (b ∷ bytes) ≡ (b ∷ []) ∷ words bytes
last_byte b bytes e f = rw (e, f) refl

more_bytes : (b : ℕ) (bytes : List ℕ) → is_space b ≡ false → begins_word bytes ≡ true → words (b ∷ bytes) ≡ with_first b (words bytes)
more_bytes b bytes e f = rw (e, f) refl

not_true : (v : Bool) → not v ≡ true → v ≡ false
not_true true e = absurd cc
not_true false e = refl

-- where the white space in front ends, and where the first white space is
abbrev gap_len : List ℕ → ℕ
gap_len bytes = position_or_len (λ b. not (is_space b)) bytes

abbrev first_len : List ℕ → ℕ
first_len bytes = position_or_len is_space bytes

gap_at_space : (b : ℕ) (bytes : List ℕ) → is_space b ≡ true → gap_len (b ∷ bytes) ≡ suc (gap_len bytes)
gap_at_space b bytes e = rw e (one-add (gap_len bytes))

gap_at_word : (b : ℕ) (bytes : List ℕ) → is_space b ≡ false → gap_len (b ∷ bytes) ≡ 0
gap_at_word b bytes e = rw e refl

len_at_space : (b : ℕ) (bytes : List ℕ) → is_space b ≡ true → first_len (b ∷ bytes) ≡ 0
len_at_space b bytes e = rw e refl

len_at_word : (b : ℕ) (bytes : List ℕ) → is_space b ≡ false → first_len (b ∷ bytes) ≡ suc (first_len bytes)
len_at_word b bytes e = rw e (one-add (first_len bytes))

behind_gap : (bytes : List ℕ) → words bytes ≡ words (drop (gap_len bytes) bytes)
behind_gap [] = refl
behind_gap (b ∷ bytes) =
    elim (cases_Bool (is_space b)) [
      | inl e ↦ space_first b bytes e ∙ behind_gap bytes ∙ sym (ap (λ n. words (drop n (b ∷ bytes))) (gap_at_space b bytes e))
      | inr e ↦ sym (ap (λ n. words (drop n (b ∷ bytes))) (gap_at_word b bytes e))
    ]

begins_behind_gap : (bytes : List ℕ) → gap_len bytes < length bytes → begins_word (drop (gap_len bytes) bytes) ≡ true
begins_behind_gap [] lt = absurd (omega arith)
begins_behind_gap (b ∷ bytes) lt =
    elim (cases_Bool (is_space b)) [
      | inl e ↦ let n = gap_at_space b bytes e in let less : gap_len bytes < length bytes = omega (arith, n) in ap (λ n. begins_word (drop n (b ∷ bytes))) n ∙ begins_behind_gap bytes less
      | inr e ↦ ap (λ n. begins_word (drop n (b ∷ bytes))) (gap_at_word b bytes e) ∙ ap not e
    ]

no_len : (bytes : List ℕ) → begins_word bytes ≡ false → first_len bytes ≡ 0
no_len [] e = refl
no_len (b ∷ bytes) e =
    elim (cases_Bool (is_space b)) [ inl f ↦ len_at_space b bytes f | inr f ↦ absurd (let k : not (is_space b) ≡ true = ap not f in cc) ]

some_len : (bytes : List ℕ) → begins_word bytes ≡ true → 0 < first_len bytes
some_len [] e = absurd cc
some_len (b ∷ bytes) e = omega (arith, len_at_word b bytes (not_true (is_space b) e))

-- a word of one byte more
longer : (b : ℕ) (word : List ℕ) (words others : List (List ℕ)) → words ≡ word ∷ others → with_first b words ≡ (b ∷ word) ∷ others
longer b word words others e = rw e refl

starts : (bytes : List ℕ) → begins_word bytes ≡ true → words bytes ≡ take (first_len bytes) bytes ∷ words (drop (first_len bytes) bytes)
starts [] e = absurd cc
starts (b ∷ bytes) e =
    let letter : is_space b ≡ false = not_true (is_space b) e in
    let n = len_at_word b bytes letter in
    let back = sym (ap (λ n. take n (b ∷ bytes) ∷ words (drop n (b ∷ bytes))) n) in
    elim (cases_Bool (begins_word bytes)) [
      | inl f ↦ more_bytes b bytes letter f ∙ longer b (take (first_len bytes) bytes) (words bytes) (words (drop (first_len bytes) bytes)) (starts bytes f) ∙ back
      | inr f ↦ last_byte b bytes letter f ∙ sym (ap (λ n. (b ∷ take n bytes) ∷ words (drop n bytes)) (no_len bytes f)) ∙ back
    ]

begins_shorter : (n : ℕ) (bytes : List ℕ) → 0 < n → begins_word bytes ≡ true → begins_word (take n bytes) ≡ true
begins_shorter n [] lt e = absurd cc
begins_shorter zero (b ∷ bytes) lt e = absurd (omega arith)
begins_shorter (suc n) (b ∷ bytes) lt e = e

one : (bytes : List ℕ) → begins_word bytes ≡ true → IsWord (take (first_len bytes) bytes)
one [] e = absurd cc
one (b ∷ bytes) e =
    let letter : is_space b ≡ false = not_true (is_space b) e in
    let n = len_at_word b bytes letter in
    let P : ℕ → Type 0 = λ n. IsWord (take n (b ∷ bytes)) in
    subst P (sym n) (elim (cases_Bool (begins_word bytes)) [
      | inl f ↦ more_bytes b (take (first_len bytes) bytes) letter (begins_shorter (first_len bytes) bytes (some_len bytes f) f) ∙ longer b (take (first_len bytes) bytes) (words (take (first_len bytes) bytes)) [] (one bytes f)
      | inr f ↦ let P' : ℕ → Type 0 = λ n. IsWord (b ∷ take n bytes) in subst P' (sym (no_len bytes f)) (last_byte b [] letter refl)
    ])

-- what is taken from a text at a place
pub record Taken (text : List ℕ) (at start end : ℕ) : Type 0 where
  pub first : words (drop at text) ≡ slice_range text start end ∷ words (drop end text)
  pub one : IsWord (slice_range text start end)
  pub from : at ≤ start
  pub some : start < end
  pub within : end ≤ length text

position_is : (p : ℕ → Bool) (bytes : List ℕ) → unwrap_or (position p bytes) (length bytes) ≡ position_or_len p bytes
position_is p bytes =
    let le = prefix_len-le-length (λ x. not (p x)) bytes in
    elim (cases_lt (position_or_len p bytes) (length bytes)) [ inl lt ↦ rw (lt-ltb _ _ lt) refl | inr ge ↦ rw (le-ltb _ _ ge) (omega arith) ]

position_some : (p : ℕ → Bool) (bytes : List ℕ) (n : ℕ) → position p bytes ≡ Some n → (position_or_len p bytes ≡ n) × (n < length bytes)
position_some p bytes n e =
    elim (cases_lt (position_or_len p bytes) (length bytes)) [
      | inl lt ↦ let some = rw (lt-ltb (position_or_len p bytes) (length bytes) lt) at e in let is : position_or_len p bytes ≡ n = cc in (is, omega arith)
      | inr ge ↦ let none = rw (le-ltb (position_or_len p bytes) (length bytes) ge) at e in absurd (cc)
    ]

position_none : (p : ℕ → Bool) (bytes : List ℕ) → position p bytes ≡ None → length bytes ≤ position_or_len p bytes
position_none p bytes e =
    elim (cases_lt (position_or_len p bytes) (length bytes)) [
      | inl lt ↦ let some = rw (lt-ltb (position_or_len p bytes) (length bytes) lt) at e in absurd (cc)
      | inr ge ↦ ge
    ]

pub nothing_left : (bytes : List ℕ) → position (λ b. not (is_space b)) bytes ≡ None → words bytes ≡ []
nothing_left bytes e = behind_gap bytes ∙ ap words (drop_all (gap_len bytes) bytes (position_none (λ b. not (is_space b)) bytes e))

pub takes : (text : List ℕ) (at gap len : ℕ) → at ≤ length text → position (λ b. not (is_space b)) (drop at text) ≡ Some gap
    → len ≡ unwrap_or (position is_space (drop (at + gap) text)) (length (drop (at + gap) text)) → Taken text at (at + gap) (at + gap + len)
takes text at gap len le e f =
    let g = position_some (λ b. not (is_space b)) (drop at text) gap e in
    let rest : drop gap (drop at text) ≡ drop (at + gap) text = drop-drop gap at text in
    let begins : begins_word (drop (at + gap) text) ≡ true =
    ap begins_word (sym rest) ∙ sym (ap (λ n. begins_word (drop n (drop at text))) g.0) ∙ begins_behind_gap (drop at text) (omega (arith, g.0, g.1)) in
    let same : words (drop at text) ≡ words (drop (at + gap) text) =
    behind_gap (drop at text) ∙ ap (λ n. words (drop n (drop at text))) g.0 ∙ ap words rest in
    let n : len ≡ first_len (drop (at + gap) text) = f ∙ position_is is_space (drop (at + gap) text) in
    let range : at + gap + len - (at + gap) ≡ len = omega arith in
    let bytes : slice_range text (at + gap) (at + gap + len) ≡ take (first_len (drop (at + gap) text)) (drop (at + gap) text) = ap (λ k. take k (drop (at + gap) text)) (range ∙ n) in
    let behind : drop (first_len (drop (at + gap) text)) (drop (at + gap) text) ≡ drop (at + gap + len) text = ap (λ k. drop k (drop (at + gap) text)) (sym n) ∙ drop-drop len (at + gap) text in
    record {
      first = same ∙ starts (drop (at + gap) text) begins ∙ ap (λ w. w ∷ words (drop (first_len (drop (at + gap) text)) (drop (at + gap) text))) (sym bytes) ∙ ap (λ b. slice_range text (at + gap) (at + gap + len) ∷ words b) behind;
      one = let P : List ℕ → Type 0 = IsWord in subst P (sym bytes) (one (drop (at + gap) text) begins);
      from = omega arith;
      some = omega (arith, n, some_len (drop (at + gap) text) begins);
      within = omega (arith, n, prefix_len-le-length (λ x. not (is_space x)) (drop (at + gap) text), length-drop (at + gap) text, g.1, length-drop at text);
    }

-- the same, where the rest of a text is a slice up to its end
abbrev pub rest_of : List ℕ → ℕ → List ℕ
rest_of text at = take (length text - at) (drop at text)

pub takes_slice : (text : List ℕ) (at gap len : ℕ) → at ≤ length text → Some gap ≡ position (λ b. not (is_space b)) (rest_of text at)
    → len ≡ unwrap_or (position is_space (rest_of text (at + gap))) (length (rest_of text (at + gap))) → Taken text at (at + gap) (at + gap + len)
takes_slice text at gap len le e f =
    takes text at gap len le (sym (ap (position (λ b. not (is_space b))) (take_rest text at)) ∙ sym e) (f ∙ ap (λ b. unwrap_or (position is_space b) (length b)) (take_rest text (at + gap)))

pub nothing_in_slice : (text : List ℕ) (at : ℕ) → None ≡ position (λ b. not (is_space b)) (rest_of text at) → words (drop at text) ≡ []
nothing_in_slice text at e = nothing_left (drop at text) (sym (ap (position (λ b. not (is_space b))) (take_rest text at)) ∙ sym e)
