-- One line of a text, and what a reader has read behind it.
use Rattle.std.proofs.Common.{◌≡◌, ℕ, zero, suc, ◌+◌, ◌-◌, ◌<◌, ◌≤◌, Bool, true, false, not, List, [], ◌∷◌, ◌++◌, length, take, drop, refl, sym, ap, ap₂, subst, ◌∙◌, arith, add-one, inl, inr, append_assoc, length-append}
use Rattle.std.proofs.lemmas.Bool.{cases_Bool, eqb-true, and_from, and_parts, not_from_false}
use Rattle.std.proofs.lemmas.List.{drop-drop, take_rest}
use Rattle.std.proofs.Math.Numerals.{one-add}
use Rattle.std.specs.Prelude.{Some, None, position, ◌==◌, ◌⊎◌}
use Rattle.std.specs.List.{list_all, position_or_len}
use Rattle.cfn_model.specs.Text.{line}
use Rattle.cfn_fault.specs.Fault.{lines, line_at, Begins}
use Rattle.cfn_fault.specs.Lines.{Line, words_of, bytes_of, text_of, IsSpelledLine, State, AtVersion, AtNumbers, AtLower, AtBest, AtValues, AtRoot, AtNodes, AtOver}
use Rattle.cfn_fault.specs.Decoding.{words_in, line_of, word_from}
use Rattle.cfn_fault.proofs.CallerLemmas.{run_one_more, spelled_append, says, said_by, HasNoEnd, line_back, same_words, lines_first, lines_last, fronted, some_bytes, first_line, some_rest, none_begins, text_append}
use Rattle.cfn_certtext.specs.declared.event.Item.{Item}
use Rattle.cfn_certtext.specs.declared.event.Item.TheVariants as items
use Rattle.cfn_certtext.specs.declared.stage.Stage.{Stage}
use Rattle.cfn_certtext.specs.declared.stage.Stage.TheVariants as stages
use Rattle.cfn_certtext.specs.Reading.{Reading, HasRead, Tells, NextLine, NextValue, NothingLeft, NoneBegins, due_of, item_of, values_behind}
use Rattle.cfn_certtext.specs.Stages.{next_stage, value_of, values_of}
use Rattle.cfn_certtext.specs.Steps.{IsNextLine, IsNoLine}
use Rattle.cfn_certtext.proofs.Words.{position_some, position_none}
use Rattle.cfn_certtext.proofs.Stages.{follow_due, due_follows}

abbrev is_end : ℕ → Bool
is_end b = b == 10

-- where the first LF stands, or that none does
len_at_end : (b : ℕ) (bytes : List ℕ) → is_end b ≡ true → position_or_len is_end (b ∷ bytes) ≡ 0
len_at_end b bytes e = rw e refl

len_inside : (b : ℕ) (bytes : List ℕ) → is_end b ≡ false → position_or_len is_end (b ∷ bytes) ≡ suc (position_or_len is_end bytes)
len_inside b bytes e = rw e (one-add (position_or_len is_end bytes))

pub no_end : (bytes : List ℕ) → length bytes ≤ position_or_len is_end bytes → HasNoEnd bytes
no_end [] le = refl
no_end (b ∷ bytes) le =
    elim (cases_Bool (is_end b)) [
      | inl e ↦ absurd (omega (arith, len_at_end b bytes e))
      | inr e ↦ and_from (not (b == 10)) (list_all (λ b. not (b == 10)) bytes) (not_from_false (b == 10) e) (no_end bytes (omega (arith, len_inside b bytes e)))
    ]

pub record EndsAt (rest : List ℕ) (n : ℕ) : Type 0 where
  pub whole : rest ≡ take n rest ++ 10 ∷ drop (suc n) rest
  pub inside : HasNoEnd (take n rest)

to_end : (bytes : List ℕ) (n : ℕ) → position_or_len is_end bytes ≡ n → n < length bytes → EndsAt bytes n
to_end [] n is lt = absurd (omega arith)
to_end (b ∷ bytes) zero is lt =
    elim (cases_Bool (is_end b)) [
      | inl e ↦ record { whole = ap (λ x. x ∷ bytes) (eqb-true b 10 e); inside = refl }
      | inr e ↦ absurd (omega (arith, len_inside b bytes e))
    ]
to_end (b ∷ bytes) (suc n) is lt =
    elim (cases_Bool (is_end b)) [
      | inl e ↦ absurd (omega (arith, len_at_end b bytes e))
      | inr e ↦ let more = to_end bytes n (omega (arith, len_inside b bytes e)) (omega arith) in
          record { whole = ap (λ r. b ∷ r) more.whole; inside = and_from (not (b == 10)) (list_all (λ b. not (b == 10)) (take n bytes)) (not_from_false (b == 10) e) more.inside }
    ]

pub ends_at : (rest : List ℕ) (n : ℕ) → Some n ≡ position is_end rest → EndsAt rest n
ends_at rest n e = let at = position_some is_end rest n (sym e) in to_end rest n at.0 at.1

-- a text without LF has no line of a certificate
pub has_end : (front : List ℕ) → HasNoEnd (front ++ 10 ∷ []) → ⊥
has_end [] e = absurd cc
has_end (b ∷ front) e = has_end front (and_parts (not (b == 10)) (list_all (λ b. not (b == 10)) (front ++ 10 ∷ [])) e).1

pub no_line_without_end : (rest : List ℕ) (stage : Stage) → None ≡ position is_end rest → IsNoLine rest stage
no_line_without_end rest stage e l next spelled may is = by_bytes rest (no_end rest (position_none is_end rest (sym e))) is
  where
    by_bytes : (bytes : List ℕ) → HasNoEnd bytes → line_at bytes 0 ≡ bytes_of l → ⊥
    by_bytes [] inside is = some_bytes l spelled (sym is)
    by_bytes (b ∷ bytes) inside is =
        let f = fronted l spelled in
        let same : b ∷ bytes ≡ f.front ++ 10 ∷ [] = sym (first_line (lines (b ∷ bytes)) (b ∷ bytes) [] (lines_last b bytes inside)) ∙ is ∙ f.bytes in
        let P : List ℕ → Type 0 = HasNoEnd in
        has_end f.front (subst P same inside)

-- the line at the front of the rest
first_line_is : (rest : List ℕ) (n : ℕ) → Some n ≡ position is_end rest → line_at rest 0 ≡ take n rest ++ 10 ∷ []
first_line_is rest n e =
    let at = ends_at rest n e in
    first_line (lines rest) (take n rest ++ 10 ∷ []) (lines (drop (suc n) rest)) (ap lines at.whole ∙ lines_first (take n rest) (drop (suc n) rest) at.inside)

record SameLine (rest : List ℕ) (n : ℕ) (l : Line) : Type 0 where
  words : words_in (take n rest) ≡ words_of l

same_line_at : (rest : List ℕ) (n : ℕ) (l : Line) → Some n ≡ position is_end rest → IsSpelledLine l → line_at rest 0 ≡ bytes_of l → line_of (words_in (take n rest)) ≡ Some l
same_line_at rest n l e spelled is = ap line_of (same_words l (take n rest) spelled (sym is ∙ first_line_is rest n e)) ∙ says l spelled

pub no_line_in_words : (rest : List ℕ) (stage : Stage) (n : ℕ) → Some n ≡ position is_end rest → line_of (words_in (take n rest)) ≡ None → IsNoLine rest stage
no_line_in_words rest stage n e none l next spelled may is = let both = sym none ∙ same_line_at rest n l e spelled is in absurd (cc)

pub no_line_due : (rest : List ℕ) (stage : Stage) (n : ℕ) (m : Line) → Some n ≡ position is_end rest → line_of (words_in (take n rest)) ≡ Some m → None ≡ next_stage stage m → IsNoLine rest stage
no_line_due rest stage n m e some none l next spelled may is =
    let same : m ≡ l = one_line (sym some ∙ same_line_at rest n l e spelled is) in
    let both = none ∙ ap (next_stage stage) same ∙ may in
    absurd (cc)
  where
    one_line : {a b : Line} → Some a ≡ Some b → a ≡ b
    one_line e = cc

pub is_next_line : (rest : List ℕ) (stage : Stage) (n : ℕ) (m : Line) (next : Stage) (item : Item) (left : List ℕ) → Some n ≡ position is_end rest → line_of (words_in (take n rest)) ≡ Some m → Some next ≡ next_stage stage m
    → item ≡ item_of m → left ≡ values_behind m → IsNextLine rest stage (n + 1) next item left
is_next_line rest stage n m next item left e some due its others =
    let at = ends_at rest n e in
    let of = said_by (words_in (take n rest)) m some in
    let lt = position_some is_end rest n (sym e) in
    let bytes : bytes_of m ≡ take n rest ++ 10 ∷ [] = ap line (sym of.its) ∙ line_back (take n rest) in
    record {
      line = m;
      spelled = of.spelled;
      bytes = at.whole ∙ sym (append_assoc (take n rest) (10 ∷ []) (drop (suc n) rest)) ∙ ap (λ b. b ++ drop (suc n) rest) (sym bytes) ∙ ap (λ k. bytes_of m ++ drop k rest) (sym (add-one n));
      some = omega arith;
      within = omega (arith, lt.1);
      follows = sym due;
      tells = its;
      others = others;
    }

-- what has been read behind one line more
abbrev pub reading : List ℕ → ℕ → ℕ → Stage → List ℕ → Reading
reading text at count stage left = record { text = text; rest = drop at text; count = count; due = stage; left = left }

pub tells_line : (text : List ℕ) (at count : ℕ) (stage : Stage) (long : ℕ) (next : Stage) (item : Item) (left : List ℕ) (ls : List Line) (s : State) → IsNextLine (drop at text) stage long next item left
    → HasRead (reading text at count stage []) ls s → Tells (reading text at count stage []) (reading text (at + long) (count + 1) next left) ls s (record { line = count + 1; item = item })
tells_line text at count stage long next item left ls s line read =
    let due = due_follows s line.line next (ap (λ d. next_stage d line.line) (sym read.due) ∙ line.follows) in
    NextLine line.line due.state refl line.tells refl due.follows line.spelled line.others (record {
      text = read.text ∙ ap (λ r. text_of ls ++ r) (line.bytes ∙ ap (λ r. bytes_of line.line ++ r) (drop-drop long at text)) ∙ sym (append_assoc (text_of ls) (bytes_of line.line) (drop (at + long) text)) ∙ ap (λ b. b ++ drop (at + long) text) (sym (text_append ls line.line));
      count = omega (arith, read.count, length-append ls (line.line ∷ []));
      due = due.due;
      run = run_one_more AtVersion s due.state ls line.line read.run due.follows;
      spelled = spelled_append ls (line.line ∷ []) read.spelled (line.spelled, tt);
    })

-- where no line comes that may, and bytes follow or the end is due, no certificate begins so
pub none_due : (text : List ℕ) (at count : ℕ) (stage : Stage) (left : List ℕ) (ls : List Line) (s : State) → IsNoLine (drop at text) stage → (stage ≡ stages.Over → line_at (drop at text) 0 ≡ [] → ⊥)
    → HasRead (reading text at count stage left) ls s → NoneBegins (reading text at count stage left)
none_due text at count stage left ls s no_line more read c spelled begins =
    let P : ℕ → Type 0 = λ n. Begins c text (n + 1) in
    none_begins text (drop at text) ls s read.run read.spelled read.text
    (λ l t one follows is. no_line l (due_of t) one (ap (λ d. next_stage d l) read.due ∙ follow_due s l t follows) is)
    (λ over none. more (read.due ∙ ap due_of over) none)
    c spelled (subst P read.count begins)

pub value_told : (text : List ℕ) (at count : ℕ) (stage : Stage) (words : List (List ℕ)) (word : List ℕ) (rest : List (List ℕ)) (a : ℕ) (ls : List Line) (s : State) → word_from words ≡ Some (word, rest) → a ≡ value_of word
    → Tells (reading text at count stage (values_of words)) (reading text at count stage (values_of rest)) ls s (record { line = count; item = items.Value a })
value_told text at count stage [] word rest a ls s e is = absurd cc
value_told text at count stage (w ∷ words) word rest a ls s e is =
    let same : (w, words) ≡ (word, rest) = one_pair e in
    let first : value_of w ≡ a = ap (λ p. value_of p.0) same ∙ sym is in
    let others : values_of words ≡ values_of rest = ap (λ p. values_of p.1) same in
    NextValue a refl refl (ap₂ (λ x y. x ∷ y) first others) refl
  where
    one_pair : {x y : List ℕ × List (List ℕ)} → Some x ≡ Some y → x ≡ y
    one_pair e = cc

no_values : (words : List (List ℕ)) → word_from words ≡ None → values_of words ≡ []
no_values [] e = refl
no_values (word ∷ words) e = absurd cc

pub line_told : (text : List ℕ) (at count : ℕ) (stage : Stage) (words : List (List ℕ)) (long : ℕ) (next : Stage) (item : Item) (left : List ℕ) (ls : List Line) (s : State) → word_from words ≡ None
    → IsNextLine (take (length text - at) (drop at text)) stage long next item left → HasRead (reading text at count stage (values_of words)) ls s
    → Tells (reading text at count stage (values_of words)) (reading text (at + long) (count + 1) next left) ls s (record { line = count + 1; item = item })
line_told text at count stage words long next item left ls s none line read =
    let P : List ℕ → Type 0 = λ rest. IsNextLine rest stage long next item left in
    let Q : List ℕ → Type 0 = λ old. HasRead (reading text at count stage old) ls s → Tells (reading text at count stage old) (reading text (at + long) (count + 1) next left) ls s (record { line = count + 1; item = item }) in
    subst Q (sym (no_values words none)) (tells_line text at count stage long next item left ls s (subst P (take_rest text at) line)) read

-- the rest of a text that is over, or not
over_due : (s : State) → due_of s ≡ stages.Over → s ≡ AtOver
over_due AtVersion e = absurd cc
over_due (AtNumbers version) e = absurd cc
over_due (AtLower version) e = absurd cc
over_due (AtBest version) e = absurd cc
over_due (AtValues version) e = absurd cc
over_due (AtRoot version) e = absurd cc
over_due (AtNodes version paths) e = absurd cc
over_due AtOver e = refl

pub tells_nothing : (old new : Reading) (ls : List Line) (s : State) → HasRead old ls s → old.due ≡ stages.Over → old.rest ≡ [] → old.left ≡ [] → new ≡ old → Tells old new ls s (record { line = old.count; item = items.Over })
tells_nothing old new ls s read over rest left same = NothingLeft refl refl (over_due s (sym read.due ∙ over)) rest left same

some_rest_line : (rest : List ℕ) → 0 < length rest → line_at rest 0 ≡ [] → ⊥
some_rest_line [] lt e = absurd (omega arith)
some_rest_line (b ∷ rest) lt e = some_rest b rest e

pub not_empty : (bytes : List ℕ) → (length bytes == 0) ≡ false → 0 < length bytes
not_empty [] e = absurd cc
not_empty (b ∷ bytes) e = omega arith

pub fault_told : (text : List ℕ) (at count : ℕ) (stage : Stage) (left : List ℕ) (ls : List Line) (s : State) → IsNoLine (take (length text - at) (drop at text)) stage
    → (0 < length (take (length text - at) (drop at text))) ⊎ (stage ≡ stages.Over → ⊥) → HasRead (reading text at count stage left) ls s → NoneBegins (reading text at count stage left)
fault_told text at count stage left ls s no_line more read =
    let P : List ℕ → Type 0 = λ rest. IsNoLine rest stage in
    none_due text at count stage left ls s (subst P (take_rest text at) no_line)
    (λ over none. elim more [ inl some ↦ let Q : List ℕ → Type 0 = λ rest. 0 < length rest in some_rest_line (drop at text) (subst Q (take_rest text at) some) none | inr other ↦ other over ]) read
