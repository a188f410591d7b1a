-- Lines and their words, as bytes: a line is one spelling of its words, and a text is one spelling of its lines.
use Rattle.std.proofs.Common.{◌≡◌, ℕ, ◌≤◌, Bool, true, false, List, [], ◌∷◌, ◌++◌, refl, sym, ap, subst, ◌∙◌, arith, inl, inr, append_assoc}
use Rattle.std.proofs.lemmas.Bool.{cases_Bool, ne_eqb, eqb-true, not-true, not_from_false, and_parts, and_from, leb-true}
use Rattle.std.proofs.lemmas.List.{append_cancel_right}
use Rattle.std.specs.Prelude.{decimal, map, not, ◌&&◌, ◌==◌, nat_le}
use Rattle.std.specs.List.{AllByRecursion, list_all}
use Rattle.cfn_model.specs.declared.step.Step.TheVariants.{Project, Extend, Lift, CutValue, CutTuple}
use Rattle.cfn_model.specs.declared.step.Decision.TheVariants.{Is, Most}
use Rattle.cfn_model.specs.declared.version.Version.TheVariants.{First, Second}
use Rattle.cfn_model.specs.Words.{greatest, is_digit, with_first}
use Rattle.cfn_model.specs.Text.{line}
use Rattle.cfn_fault.specs.Nodes.{Makes, LeavesOpen, Closes, Splits}
use Rattle.cfn_fault.specs.Fault.{lines}
use Rattle.cfn_fault.specs.Lines.{Line, Version, Numbers, Lower, NoBest, Best, Values, Root, Node, End, words_of, bytes_of, text_of, IsSpelledLine}
use Rattle.cfn_fault.specs.Decoding.{words_in}
use Rattle.cfn_fault.proofs.Numerals.{decimal_digits}

-- no LF, and neither LF nor space
abbrev is_inside : ℕ → Bool
is_inside b = not (b == 10)

abbrev is_letter : ℕ → Bool
is_letter b = not (b == 10) && not (b == 32)

abbrev pub HasNoEnd : List ℕ → Type 0
HasNoEnd bytes = list_all is_inside bytes ≡ true

abbrev pub IsClean : List ℕ → Type 0
IsClean word = list_all is_letter word ≡ true

digit_letter : (b : ℕ) → is_digit b ≡ true → is_letter b ≡ true
digit_letter b e =
    let least : 48 ≤ b = leb-true 48 b (and_parts (nat_le 48 b) (nat_le b 57) e).0 in
    let not_ten : b ≡ 10 → ⊥ = λ h. absurd (omega arith) in
    let not_space : b ≡ 32 → ⊥ = λ h. absurd (omega arith) in
    and_from (not (b == 10)) (not (b == 32)) (not_from_false (b == 10) (ne_eqb b 10 not_ten)) (not_from_false (b == 32) (ne_eqb b 32 not_space))

digits_clean : (word : List ℕ) → list_all is_digit word ≡ true → IsClean word
digits_clean [] e = refl
digits_clean (b ∷ word) e = let parts = and_parts (is_digit b) (list_all is_digit word) e in and_from (is_letter b) (list_all is_letter word) (digit_letter b parts.0) (digits_clean word parts.1)

pub decimal_clean : (n : ℕ) → n ≤ greatest → IsClean (decimal n)
decimal_clean n h = digits_clean (decimal n) (decimal_digits n h)

clean_inside : (word : List ℕ) → IsClean word → HasNoEnd word
clean_inside [] e = refl
clean_inside (b ∷ word) e =
    let parts = and_parts (is_letter b) (list_all is_letter word) e in
    and_from (is_inside b) (list_all is_inside word) (and_parts (not (b == 10)) (not (b == 32)) parts.0).0 (clean_inside word parts.1)

-- every word of a line is clean
clean_numbers : (values : List ℕ) → AllByRecursion (λ a. a ≤ greatest) values → AllByRecursion IsClean (map decimal values)
clean_numbers [] all = tt
clean_numbers (a ∷ values) all = (decimal_clean a all.0, clean_numbers values all.1)

pub clean_words : (l : Line) → IsSpelledLine l → AllByRecursion IsClean (words_of l)
clean_words (Version First) h = (refl, (refl, tt))
clean_words (Version Second) h = (refl, (refl, tt))
clean_words (Numbers n e upper) h = (refl, (decimal_clean n h.0, (decimal_clean e h.1, (decimal_clean upper h.2, tt))))
clean_words (Lower lower) h = (refl, (decimal_clean lower h, tt))
clean_words NoBest h = (refl, (refl, tt))
clean_words (Best cost) h = (refl, (decimal_clean cost h, tt))
clean_words (Values values) h = (refl, clean_numbers values h.1)
clean_words Root h = (refl, tt)
clean_words (Node (Makes (Project f i a m))) h = (refl, (decimal_clean f h.0, (decimal_clean i h.1, (decimal_clean a h.2, (decimal_clean m h.4, tt)))))
clean_words (Node (Makes (Extend f i a m))) h = (refl, (decimal_clean f h.0, (decimal_clean i h.1, (decimal_clean a h.2, (decimal_clean m h.4, tt)))))
clean_words (Node (Makes (Lift x m))) h = (refl, (decimal_clean x h.0, (decimal_clean m h.2, tt)))
clean_words (Node (Makes (CutValue x a))) h = (refl, (decimal_clean x h.0, (decimal_clean a h.1, tt)))
clean_words (Node (Makes (CutTuple f c))) h = (refl, (decimal_clean f h.0, (decimal_clean c h.1, tt)))
clean_words (Node LeavesOpen) h = (refl, tt)
clean_words (Node Closes) h = (refl, tt)
clean_words (Node (Splits (Is x a))) h = (refl, (decimal_clean x h.0, (decimal_clean a h.1, tt)))
clean_words (Node (Splits (Most x v))) h = (refl, (decimal_clean x h.0, (decimal_clean v h.1, tt)))
clean_words End h = (refl, tt)

-- what stands before the LF of a line
abbrev pub front_of : List (List ℕ) → List ℕ
front_of [] = []
front_of (word ∷ []) = word
front_of (word ∷ next ∷ words) = word ++ 32 ∷ front_of (next ∷ words)

pub line_of_front : (word : List ℕ) (words : List (List ℕ)) → line (word ∷ words) ≡ front_of (word ∷ words) ++ 10 ∷ []
line_of_front word [] = refl
line_of_front word (next ∷ words) = ap (λ r. word ++ 32 ∷ r) (line_of_front next words) ∙ sym (append_assoc word (32 ∷ front_of (next ∷ words)) (10 ∷ []))

inside_append : (a b : List ℕ) → HasNoEnd a → HasNoEnd b → HasNoEnd (a ++ b)
inside_append [] b ha hb = hb
inside_append (x ∷ a) b ha hb = let parts = and_parts (is_inside x) (list_all is_inside a) ha in and_from (is_inside x) (list_all is_inside (a ++ b)) parts.0 (inside_append a b parts.1 hb)

pub inside_front : (words : List (List ℕ)) → AllByRecursion IsClean words → HasNoEnd (front_of words)
inside_front [] all = refl
inside_front (word ∷ []) all = clean_inside word all.0
inside_front (word ∷ next ∷ words) all = inside_append word (32 ∷ front_of (next ∷ words)) (clean_inside word all.0) (inside_front (next ∷ words) all.1)

-- words come back from the bytes of their line
words_last : (word : List ℕ) → IsClean word → words_in word ≡ word ∷ []
words_last [] e = refl
words_last (b ∷ word) e =
    let parts = and_parts (is_letter b) (list_all is_letter word) e in
    let not_space : (b == 32) ≡ false = not-true (b == 32) (and_parts (not (b == 10)) (not (b == 32)) parts.0).1 in
    rw (not_space, words_last word parts.1) refl

words_more : (word rest : List ℕ) → IsClean word → words_in (word ++ 32 ∷ rest) ≡ word ∷ words_in rest
words_more [] rest e = refl
words_more (b ∷ word) rest e =
    let parts = and_parts (is_letter b) (list_all is_letter word) e in
    let not_space : (b == 32) ≡ false = not-true (b == 32) (and_parts (not (b == 10)) (not (b == 32)) parts.0).1 in
    rw (not_space, words_more word rest parts.1) refl

pub words_back : (word : List ℕ) (words : List (List ℕ)) → AllByRecursion IsClean (word ∷ words) → words_in (front_of (word ∷ words)) ≡ word ∷ words
words_back word [] all = words_last word all.0
words_back word (next ∷ words) all = words_more word (front_of (next ∷ words)) all.0 ∙ ap (λ r. word ∷ r) (words_back next words all.1)

-- and bytes come back from their words
pub words_some : (bytes : List ℕ) → (word : List ℕ) × (words : List (List ℕ)) × (words_in bytes ≡ word ∷ words)
words_some [] = ([], [], refl)
words_some (b ∷ bytes) =
    elim (cases_Bool (b == 32)) [
      | inl e ↦ ([], words_in bytes, rw e refl)
      | inr e ↦ let more = words_some bytes in (b ∷ more.0, more.1, rw (e, more.2) refl)
    ]

with_first_line : (b : ℕ) (words : List (List ℕ)) (word : List ℕ) (rest : List (List ℕ)) → words ≡ word ∷ rest → line (with_first b words) ≡ b ∷ line words
with_first_line b words word rest e = rw e refl

after_space : (words : List (List ℕ)) (word : List ℕ) (rest : List (List ℕ)) → words ≡ word ∷ rest → line ([] ∷ words) ≡ 32 ∷ line words
after_space words word rest e = rw e refl

pub line_back : (bytes : List ℕ) → line (words_in bytes) ≡ bytes ++ 10 ∷ []
line_back [] = refl
line_back (b ∷ bytes) =
    let some = words_some bytes in
    elim (cases_Bool (b == 32)) [
      | inl e ↦ let is : b ≡ 32 = eqb-true b 32 e in rw e (after_space (words_in bytes) some.0 some.1 some.2 ∙ ap (λ r. 32 ∷ r) (line_back bytes) ∙ ap (λ x. x ∷ (bytes ++ 10 ∷ [])) (sym is))
      | inr e ↦ rw e (with_first_line b (words_in bytes) some.0 some.1 some.2 ∙ ap (λ r. b ∷ r) (line_back bytes))
    ]

-- each line has a first word
pub first_of_line : (l : Line) → (word : List ℕ) × (words : List (List ℕ)) × (words_of l ≡ word ∷ words)
first_of_line (Version version) = (_, _, refl)
first_of_line (Numbers n e upper) = (_, _, refl)
first_of_line (Lower lower) = (_, _, refl)
first_of_line NoBest = (_, _, refl)
first_of_line (Best cost) = (_, _, refl)
first_of_line (Values values) = (_, _, refl)
first_of_line Root = (_, _, refl)
first_of_line (Node (Makes (Project f i a m))) = (_, _, refl)
first_of_line (Node (Makes (Extend f i a m))) = (_, _, refl)
first_of_line (Node (Makes (Lift x m))) = (_, _, refl)
first_of_line (Node (Makes (CutValue x a))) = (_, _, refl)
first_of_line (Node (Makes (CutTuple f c))) = (_, _, refl)
first_of_line (Node LeavesOpen) = (_, _, refl)
first_of_line (Node Closes) = (_, _, refl)
first_of_line (Node (Splits (Is x a))) = (_, _, refl)
first_of_line (Node (Splits (Most x v))) = (_, _, refl)
first_of_line End = (_, _, refl)

-- a spelled line, as what stands before its LF
pub record Fronted (l : Line) : Type 0 where
  pub front : List ℕ
  pub bytes : bytes_of l ≡ front ++ 10 ∷ []
  pub inside : HasNoEnd front
  pub words : words_in front ≡ words_of l

pub fronted : (l : Line) → IsSpelledLine l → Fronted l
fronted l h =
    let first = first_of_line l in
    let P : List (List ℕ) → Type 0 = AllByRecursion IsClean in
    let clean = clean_words l h in
    let clean_first : AllByRecursion IsClean (first.0 ∷ first.1) = subst P first.2 clean in
    record {
      front = front_of (words_of l);
      bytes = ap line first.2 ∙ line_of_front first.0 first.1 ∙ ap (λ w. front_of w ++ 10 ∷ []) (sym first.2);
      inside = inside_front (words_of l) clean;
      words = ap (λ w. words_in (front_of w)) first.2 ∙ words_back first.0 first.1 clean_first ∙ sym first.2;
    }

-- the words of a line are those of its bytes
pub same_words : (l : Line) (front : List ℕ) → IsSpelledLine l → bytes_of l ≡ front ++ 10 ∷ [] → words_in front ≡ words_of l
same_words l front h is =
    let it = fronted l h in
    let same : front ≡ it.front = append_cancel_right front it.front (10 ∷ []) (sym is ∙ it.bytes) in
    ap words_in same ∙ it.words

-- a text's first line ends at its first LF
pub lines_first : (front rest : List ℕ) → HasNoEnd front → lines (front ++ 10 ∷ rest) ≡ (front ++ 10 ∷ []) ∷ lines rest
lines_first [] rest e = refl
lines_first (b ∷ front) rest e =
    let parts = and_parts (is_inside b) (list_all is_inside front) e in
    let not_end : (b == 10) ≡ false = not-true (b == 10) parts.0 in
    rw (not_end, lines_first front rest parts.1) refl

pub lines_last : (b : ℕ) (rest : List ℕ) → HasNoEnd (b ∷ rest) → lines (b ∷ rest) ≡ (b ∷ rest) ∷ []
lines_last b [] e = let parts = and_parts (is_inside b) true e in let not_end : (b == 10) ≡ false = not-true (b == 10) parts.0 in rw not_end refl
lines_last b (c ∷ rest) e =
    let parts = and_parts (is_inside b) (list_all is_inside (c ∷ rest)) e in
    let not_end : (b == 10) ≡ false = not-true (b == 10) parts.0 in
    rw (not_end, lines_last c rest parts.1) refl

-- the lines of a text of lines
pub lines_of_text : (ls : List Line) (rest : List ℕ) → AllByRecursion IsSpelledLine ls → lines (text_of ls ++ rest) ≡ map bytes_of ls ++ lines rest
lines_of_text [] rest all = refl
lines_of_text (l ∷ ls) rest all =
    let it = fronted l all.0 in
    ap lines (append_assoc (bytes_of l) (text_of ls) rest ∙ ap (λ b. b ++ (text_of ls ++ rest)) it.bytes ∙ append_assoc it.front (10 ∷ []) (text_of ls ++ rest))
    ∙ lines_first it.front (text_of ls ++ rest) it.inside ∙ ap (λ b. b ∷ lines (text_of ls ++ rest)) (sym it.bytes) ∙ ap (λ r. bytes_of l ∷ r) (lines_of_text ls rest all.1)
