-- The first line of a text ends at its first LF.
use Rattle.std.proofs.Common.{◌≡◌, ℕ, suc, ◌+◌, ◌-◌, ◌<◌, ◌≤◌, true, false, List, [], ◌∷◌, ◌++◌, length, take, drop, Some, None, refl, sym, ap, ◌∙◌, arith, inl, inr}
use Rattle.std.specs.Prelude.{position, ◌==◌}
use Rattle.std.specs.List.{position_or_len}
use Rattle.std.proofs.lemmas.Bool.{cases_Bool, cases_lt, lt-ltb, le-ltb}
use Rattle.std.proofs.lemmas.List.{drop_all, take_rest}
use Rattle.std.proofs.Math.Numerals.{one-add}
use Rattle.cfn_wcnf.specs.Lines.{lines, line_words, text_words, words_of}

abbrev first_end : List ℕ → ℕ
first_end bytes = position_or_len (λ b. b == 10) bytes

end_here : (b : ℕ) (bytes : List ℕ) → (b == 10) ≡ true → first_end (b ∷ bytes) ≡ 0
end_here b bytes e = rw e refl

end_later : (b : ℕ) (bytes : List ℕ) → (b == 10) ≡ false → first_end (b ∷ bytes) ≡ suc (first_end bytes)
end_later b bytes e = rw e (one-add (first_end bytes))

lines_here : (b : ℕ) (bytes : List ℕ) → (b == 10) ≡ true → lines (b ∷ bytes) ≡ [] ∷ lines bytes
lines_here b bytes e = rw e refl

lines_later : (b : ℕ) (bytes line : List ℕ) (others : List (List ℕ)) → (b == 10) ≡ false → lines bytes ≡ line ∷ others → lines (b ∷ bytes) ≡ (b ∷ line) ∷ others
lines_later b bytes line others e is = rw (e, is) refl

first_line : (bytes : List ℕ) → first_end bytes < length bytes → lines bytes ≡ take (first_end bytes) bytes ∷ lines (drop (suc (first_end bytes)) bytes)
first_line [] lt = absurd (omega arith)
first_line (b ∷ bytes) lt =
    elim (cases_Bool (b == 10)) [
      | inl e ↦ lines_here b bytes e ∙ sym (ap (λ n. take n (b ∷ bytes) ∷ lines (drop (suc n) (b ∷ bytes))) (end_here b bytes e))
      | inr e ↦ let n = end_later b bytes e in let less : first_end bytes < length bytes = omega (arith, n) in
          lines_later b bytes (take (first_end bytes) bytes) (lines (drop (suc (first_end bytes)) bytes)) e (first_line bytes less)
          ∙ sym (ap (λ n. take n (b ∷ bytes) ∷ lines (drop (suc n) (b ∷ bytes))) n)
    ]

last_line : (bytes : List ℕ) → 0 < length bytes → length bytes ≤ first_end bytes → lines bytes ≡ bytes ∷ []
last_line [] some le = absurd (omega arith)
last_line (b ∷ bytes) some le =
    elim (cases_Bool (b == 10)) [
      | inl e ↦ absurd (omega (arith, end_here b bytes e))
      | inr e ↦ let more : length bytes ≤ first_end bytes = omega (arith, end_later b bytes e) in longer b bytes e (λ some. last_line bytes some more)
    ]
  where
    longer : (b : ℕ) (bytes : List ℕ) → (b == 10) ≡ false → (0 < length bytes → lines bytes ≡ bytes ∷ []) → lines (b ∷ bytes) ≡ (b ∷ bytes) ∷ []
    longer b [] e is = rw e refl
    longer b (c ∷ bytes) e is = lines_later b (c ∷ bytes) (c ∷ bytes) [] e (is (omega arith))

end_found : (bytes : List ℕ) (end : ℕ) → Some end ≡ position (λ b. b == 10) bytes → (first_end bytes ≡ end) × (end < length bytes)
end_found bytes end e =
    elim (cases_lt (first_end bytes) (length bytes)) [
      | inl lt ↦ let some = rw (lt-ltb (first_end bytes) (length bytes) lt) at e in let is : first_end bytes ≡ end = cc in (is, omega arith)
      | inr ge ↦ let none = rw (le-ltb (first_end bytes) (length bytes) ge) at e in absurd (cc)
    ]

no_end : (bytes : List ℕ) → None ≡ position (λ b. b == 10) bytes → length bytes ≤ first_end bytes
no_end bytes e =
    elim (cases_lt (first_end bytes) (length bytes)) [
      | inl lt ↦ let some = rw (lt-ltb (first_end bytes) (length bytes) lt) at e in absurd (cc)
      | inr ge ↦ ge
    ]

pub split : (text : List ℕ) (end : ℕ) → Some end ≡ position (λ b. b == 10) text
    → text_words text ≡ line_words (take end text) ++ text_words (take (length text - (end + 1)) (drop (end + 1) text))
split text end e =
    let f = end_found text end e in
    let lt : first_end text < length text = omega (arith, f.0, f.1) in
    let next : suc (first_end text) ≡ end + 1 = omega (arith, f.0) in
    ap words_of (first_line text lt)
    ∙ ap (λ n. line_words (take n text) ++ words_of (lines (drop (suc (first_end text)) text))) f.0
    ∙ ap (λ n. line_words (take end text) ++ words_of (lines (drop n text))) next
    ∙ ap (λ bytes. line_words (take end text) ++ text_words bytes) (sym (take_rest text (end + 1)))

pub whole : (text : List ℕ) → 0 < length text → None ≡ position (λ b. b == 10) text
    → text_words text ≡ line_words text ++ text_words (take (length text - length text) (drop (length text) text))
whole text some e =
    let le : length text ≤ length text = omega arith in
    let rest : take (length text - length text) (drop (length text) text) ≡ [] = take_rest text (length text) ∙ drop_all (length text) text le in
    ap words_of (last_line text some (no_end text e)) ∙ sym (ap (λ bytes. line_words text ++ text_words bytes) rest)
