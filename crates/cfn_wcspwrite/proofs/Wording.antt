-- The words of a text are the words of its lines.
use Rattle.std.proofs.Common.{◌≡◌, inl, inr, ℕ, ◌<◌, ◌≤◌, ◌^◌, true, false, List, [], ◌∷◌, ◌++◌, length, map, refl, sym, ap, ◌∙◌, append_assoc, arith, rules}
use Rattle.std.specs.Prelude.{decimal, flat_map, not}
use Rattle.std.specs.List.{AllByRecursion, list_all}
use Rattle.std.proofs.lemmas.Bool.{cases_Bool, and_parts}
use Rattle.std.proofs.lemmas.Bool.Decides.{nat_tests}
use Rattle.std.proofs.lemmas.Fmt.{digits_decimal, digits_value-decimal, decimal_nonempty}
use Rattle.std.proofs.lemmas.Str.Parse.{IsNumeralModel, numerals_by_fold}
use Rattle.cfn_model.specs.Words.{IsWord, begins_word, digits_behind, greatest, is_digit, is_space, with_first, words}
use Rattle.cfn_model.specs.Text.{behind, line, text}

-- the words of a text by its first byte
space_first : (b : ℕ) (bytes : List ℕ) → is_space b ≡ true → words (b ∷ bytes) ≡ words bytes
space_first b bytes e = rw e refl

last_byte : (b : ℕ) (bytes : List ℕ) → is_space b ≡ false → begins_word bytes ≡ false → words (b ∷ bytes) ≡ (b ∷ []) ∷ words bytes
last_byte b bytes e f = rw (e, f) refl

more_bytes : (b : ℕ) (bytes : List ℕ) → is_space b ≡ false → begins_word bytes ≡ true → words (b ∷ bytes) ≡ with_first b (words bytes)
more_bytes b bytes e f = rw (e, f) refl

-- a text that begins with a word has a first word
with_first-some : (c : ℕ) (ws : List (List ℕ)) → (first : List ℕ) × (others : List (List ℕ)) × (with_first c ws ≡ first ∷ others)
with_first-some c [] = (c ∷ [], [], refl)
with_first-some c (w ∷ ws) = (c ∷ w, ws, refl)

some_word : (c : ℕ) (bytes : List ℕ) → is_space c ≡ false → (first : List ℕ) × (others : List (List ℕ)) × (words (c ∷ bytes) ≡ first ∷ others)
some_word c bytes e =
    elim (cases_Bool (begins_word bytes)) [
      | inl f ↦ (let s = with_first-some c (words bytes) in (s.0, s.1, more_bytes c bytes e f ∙ s.2))
      | inr f ↦ (c ∷ [], words bytes, last_byte c bytes e f)
    ]

with_first-append : (b : ℕ) (ws first : List (List ℕ)) (w : List ℕ) (others rest : List (List ℕ)) → ws ≡ w ∷ others → with_first b (ws ++ rest) ≡ with_first b ws ++ rest
with_first-append b ws first w others rest e = rw e refl

-- white space parts the words before it from those behind it
pub words-append : (front rest : List ℕ) (sep : ℕ) → is_space sep ≡ true → words (front ++ sep ∷ rest) ≡ words front ++ words rest
words-append [] rest sep s = space_first sep rest s
words-append (b ∷ []) rest sep s =
    elim (cases_Bool (is_space b)) [
      | inl e ↦ space_first b (sep ∷ rest) e ∙ space_first sep rest s ∙ ap (λ ws. ws ++ words rest) (sym (space_first b [] e))
      | inr e ↦ last_byte b (sep ∷ rest) e (ap not s) ∙ ap (λ ws. (b ∷ []) ∷ ws) (space_first sep rest s) ∙ ap (λ ws. ws ++ words rest) (sym (last_byte b [] e refl))
    ]
words-append (b ∷ c ∷ front) rest sep s =
    let more = words-append (c ∷ front) rest sep s in
    elim (cases_Bool (is_space b)) [
      | inl e ↦ space_first b (c ∷ front ++ sep ∷ rest) e ∙ more ∙ ap (λ ws. ws ++ words rest) (sym (space_first b (c ∷ front) e))
      | inr e ↦ elim (cases_Bool (is_space c)) [
        | inl f ↦ last_byte b (c ∷ front ++ sep ∷ rest) e (ap not f) ∙ ap (λ ws. (b ∷ []) ∷ ws) more ∙ ap (λ ws. ws ++ words rest) (sym (last_byte b (c ∷ front) e (ap not f)))
        | inr f ↦ (let some = some_word c front f in
            more_bytes b (c ∷ front ++ sep ∷ rest) e (ap not f) ∙ ap (with_first b) more ∙ with_first-append b (words (c ∷ front)) [] some.0 some.1 (words rest) some.2
            ∙ ap (λ ws. ws ++ words rest) (sym (more_bytes b (c ∷ front) e (ap not f))))
      ]
    ]

behind_space : (ws : List (List ℕ)) → is_space (behind ws) ≡ true
behind_space [] = refl
behind_space (w ∷ ws) = refl

-- a line's words, and those of the text behind it
pub line_words : (ws : List (List ℕ)) (rest : List ℕ) → AllByRecursion IsWord ws → words (line ws ++ rest) ≡ ws ++ words rest
line_words [] rest all = refl
line_words (w ∷ ws) rest all =
    ap words (append_assoc w (behind ws ∷ line ws) rest)
    ∙ words-append w (line ws ++ rest) (behind ws) (behind_space ws)
    ∙ ap (λ vs. vs ++ words (line ws ++ rest)) all.0
    ∙ ap (λ vs. w ∷ vs) (line_words ws rest all.1)

-- the words of all lines
abbrev pub flat : List (List (List ℕ)) → List (List ℕ)
flat lines = flat_map (λ ws. ws) lines

pub text_words : (lines : List (List (List ℕ))) → AllByRecursion (AllByRecursion IsWord) lines → words (text lines) ≡ flat lines
text_words [] all = refl
text_words (l ∷ lines) all = line_words l (text lines) all.0 ∙ ap (λ ws. l ++ ws) (text_words lines all.1)

-- digits are a word
digit_no_space : (b : ℕ) → is_digit b ≡ true → is_space b ≡ false
digit_no_space b e = grind (arith, nat_tests)

digits_word : (ds : List ℕ) → 0 < length ds → list_all is_digit ds ≡ true → IsWord ds
digits_word [] some all = absurd (omega arith)
digits_word (b ∷ []) some all = last_byte b [] (digit_no_space b (and_parts (is_digit b) true all).0) refl
digits_word (b ∷ c ∷ ds) some all =
    let parts = and_parts (is_digit b) (list_all is_digit (c ∷ ds)) all in
    let next = and_parts (is_digit c) (list_all is_digit ds) parts.1 in
    more_bytes b (c ∷ ds) (digit_no_space b parts.0) (ap not (digit_no_space c next.0)) ∙ ap (with_first b) (digits_word (c ∷ ds) (omega arith) parts.1)

own : IsNumeralModel (λ ds. list_all is_digit ds ≡ true) (digits_behind 0)
own = numerals_by_fold _ (search rules) digits_behind (search rules)

small : (n : ℕ) → n ≤ greatest → n < 2 ^ 64
small n h = omega arith

pub decimal_digits : (n : ℕ) → n ≤ greatest → list_all is_digit (decimal n) ≡ true
decimal_digits n h = digits_decimal own n (small n h)

pub decimal_value : (n : ℕ) → n ≤ greatest → digits_behind 0 (decimal n) ≡ n
decimal_value n h = digits_value-decimal own n (small n h)

pub decimal_some : (n : ℕ) → n ≤ greatest → 0 < length (decimal n)
decimal_some n h = decimal_nonempty n (small n h)

pub decimal_word : (n : ℕ) → n ≤ greatest → IsWord (decimal n)
decimal_word n h = digits_word (decimal n) (decimal_some n h) (decimal_digits n h)

-- lists of words
pub all_append : (first rest : List (List ℕ)) → AllByRecursion IsWord first → AllByRecursion IsWord rest → AllByRecursion IsWord (first ++ rest)
all_append [] rest a b = b
all_append (w ∷ first) rest a b = (a.0, all_append first rest a.1 b)

pub all_decimals : (ns : List ℕ) → AllByRecursion (λ n. n ≤ greatest) ns → AllByRecursion IsWord (map decimal ns)
all_decimals [] all = tt
all_decimals (n ∷ ns) all = (decimal_word n all.0, all_decimals ns all.1)

pub lines_append : (first rest : List (List (List ℕ))) → AllByRecursion (AllByRecursion IsWord) first → AllByRecursion (AllByRecursion IsWord) rest → AllByRecursion (AllByRecursion IsWord) (first ++ rest)
lines_append [] rest a b = b
lines_append (w ∷ first) rest a b = (a.0, lines_append first rest a.1 b)
