-- The line at the front of the rest of a text.
use Rattle.std.proofs.Common.{◌≡◌, ℕ, suc, ◌+◌, ◌-◌, true, eqb-true, ◌≤◌, List, [], ◌∷◌, ◌++◌, length, take, drop, refl, sym, ap, subst, ◌∙◌, arith, append_assoc, length-append}
use Rattle.std.proofs.lemmas.Bool.{and_parts}
use Rattle.std.proofs.lemmas.List.{drop-drop, drop_all, length-drop, take_rest}
use Rattle.std.specs.Prelude.{Option, Some, None, not, position, ◌==◌, ◌↔◌, IsTrue}
use Rattle.std.specs.List.{list_all}
use Rattle.cfn_model.specs.Text.{line}
use Rattle.cfn_fault.specs.Decoding.{◌>>=◌, word_from, words_in, line_by, line_of}
use Rattle.cfn_fault.proofs.CallerLemmas.{HasNoEnd, line_back}
use Rattle.cfn_certtext.proofs.CallerLemmas.{ends_at, no_end, position_none}
use Rattle.std.specs.Str.{bytes_eq}
use Rattle.std.specs.Prelude.{codes, false}
use Rattle.cfn_model.proofs.CallerLemmas.{eqb_same}
use Rattle.cfn_fault.specs.Lines.{Line}
use Rattle.cfn_record.specs.Lines.{RecordLine, Says, bytes_of, IsSpelledLine}
use Rattle.cfn_record.specs.Decoding.{certificate_line, line_said}
use Rattle.cfn_record.proofs.CallerLemmas.{front, line_said_is, line_says, one_front}
use Rattle.cfn_replay.specs.Words.{said_by}
use Rattle.cfn_replay.specs.Position.{Position, IsRead}

abbrev pub NoneStands : List ℕ → Type 0
NoneStands rest = (l : RecordLine) (more : List ℕ) → IsSpelledLine l → rest ≡ bytes_of l ++ more → ⊥

has_end : (f : List ℕ) (more : List ℕ) → HasNoEnd (f ++ 10 ∷ more) → ⊥
has_end [] more e = let both : not (10 == 10) ≡ true = (and_parts (not (10 == 10)) (list_all (λ b. not (b == 10)) more) e).0 in absurd cc
has_end (b ∷ f) more e = has_end f more (and_parts (not (b == 10)) (list_all (λ b. not (b == 10)) (f ++ 10 ∷ more)) e).1

-- what stands before the LF of a line
fronts : (l : RecordLine) (more rest : List ℕ) (spelled : IsSpelledLine l) → rest ≡ bytes_of l ++ more → rest ≡ (front l spelled).front ++ 10 ∷ more
fronts l more rest spelled is = is ∙ ap (λ x. x ++ more) (front l spelled).bytes ∙ append_assoc (front l spelled).front (10 ∷ []) more

pub none_without_end : (rest : List ℕ) → None ≡ position (λ b. b == 10) rest → NoneStands rest
none_without_end rest e l more spelled is =
    let P : List ℕ → Type 0 = HasNoEnd in
    has_end (front l spelled).front more (subst P (fronts l more rest spelled is) (no_end rest (position_none (λ b. b == 10) rest (sym e))))

pub none_in_words : (rest : List ℕ) (n : ℕ) → Some n ≡ position (λ b. b == 10) rest → line_said (words_in (take n rest)) ≡ None → NoneStands rest
none_in_words rest n e none l more spelled is =
    let at = ends_at rest n e in
    let f = front l spelled in
    let same = one_front f.front (take n rest) more (drop (suc n) rest) f.inside at.inside (sym (fronts l more rest spelled is) ∙ at.whole) in
    let both : None ≡ Some l = sym none ∙ ap (λ x. line_said (words_in x)) (sym same.0) ∙ ap line_said f.words ∙ line_says l spelled in
    absurd cc

abbrev pub place : List ℕ → ℕ → ℕ → Position
place text at count = record { text = text; rest = drop at text; count = count }

pub line_read : (text : List ℕ) (at count n : ℕ) (l : RecordLine) → Some n ≡ position (λ b. b == 10) (drop at text) → line_said (words_in (take n (drop at text))) ≡ Some l → IsRead (place text at count) (place text (at + (n + 1)) (count + 1)) l
line_read text at count n l e some =
    let rest = drop at text in
    let stands = ends_at rest n e in
    let of = line_said_is (words_in (take n rest)) l some in
    let bytes : bytes_of l ≡ take n rest ++ 10 ∷ [] = ap line (sym of.its) ∙ line_back (take n rest) in
    let behind : drop (suc n) rest ≡ drop (at + (n + 1)) text = drop-drop (suc n) at text ∙ ap (λ k. drop k text) (omega arith) in
    let whole : rest ≡ bytes_of l ++ drop (at + (n + 1)) text =
    stands.whole ∙ sym (append_assoc (take n rest) (10 ∷ []) (drop (suc n) rest)) ∙ ap (λ b. b ++ drop (suc n) rest) (sym bytes) ∙ ap (λ r. bytes_of l ++ r) behind in
    record {
      text = refl;
      count = refl;
      spelled = of.spelled;
      rest = whole;
      less = omega (arith, ap length whole, length-append (bytes_of l) (drop (at + (n + 1)) text), ap length bytes, length-append (take n rest) (10 ∷ []));
    }

-- as a slice of the text
module _ (text : List ℕ) (at : ℕ) where
  pub none_there : NoneStands (take (length text - at) (drop at text)) → NoneStands (drop at text)
  none_there none = subst NoneStands (take_rest text at) none

  pub line_there : (count n : ℕ) (l : RecordLine) → Some n ≡ position (λ b. b == 10) (take (length text - at) (drop at text)) → line_said (words_in (take n (take (length text - at) (drop at text)))) ≡ Some l
      → IsRead (place text at count) (place text (at + (n + 1)) (count + 1)) l
  line_there count n l e some =
      let P : List ℕ → Type 0 = λ rest. Some n ≡ position (λ b. b == 10) rest in
      let Q : List ℕ → Type 0 = λ rest. line_said (words_in (take n rest)) ≡ Some l in
      line_read text at count n l (subst P (take_rest text at) e) (subst Q (take_rest text at) some)

  -- nothing is left
  pub over_iff : at ≤ length text → (IsTrue (at == length text) ↔ (drop at text ≡ []))
  over_iff le = (
    λ yes. drop_all at text (omega (arith, eqb-true at (length text) yes)),
    λ none. eqb_same at (length text) (omega (arith, le, length-drop at text, ap length none)),
  )

-- a line that certificates have too
pub from_certificate : (words : List (List ℕ)) (word : List ℕ) (rest : List (List ℕ)) (o : Option Line) → word_from words ≡ Some (word, rest) → line_of words ≡ o
    → bytes_eq word (codes "wcsprecord") ≡ false → bytes_eq word (codes "budget") ≡ false → bytes_eq word (codes "take") ≡ false → bytes_eq word (codes "give") ≡ false
    → bytes_eq word (codes "back") ≡ false → bytes_eq word (codes "recall") ≡ false → bytes_eq word (codes "sweep") ≡ false → said_by word rest ≡ (o >>= λ l. Some (Says l))
unfolding said_by certificate_line line_of
from_certificate words word rest o from is one two three four five six seven =
    let by : line_by word rest ≡ o = sym (ap (λ p. p >>= λ w. line_by w.0 w.1) from) ∙ is in
    rw (one, two, three, four, five, six, seven) (ap (λ x. x >>= λ l. Some (Says l)) by)
