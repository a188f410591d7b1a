-- Lines and their words, as bytes: each line has one spelling.
use Rattle.std.proofs.Common.{◌≡◌, ℕ, inl, inr, Bool, true, false, List, [], ◌∷◌, ◌++◌, refl, sym, ap, ap₂, subst, ◌∙◌, append_assoc}
use Rattle.std.proofs.lemmas.Bool.{cases_Bool, and_parts}
use Rattle.std.proofs.lemmas.Slice.Eq.{bytes_eq-Decides}
use Rattle.std.specs.Prelude.{Option, Some, None, map, decimal, codes, not, ◌==◌, if◌then◌else◌}
use Rattle.std.specs.List.{AllByRecursion, list_all}
use Rattle.std.specs.Str.{bytes_eq}
use Rattle.cfn_model.specs.declared.step.Step.TheVariants.{Project, Extend, Lift, CutValue, CutTuple}
use Rattle.cfn_model.specs.declared.step.Decision.TheVariants.{Is, Most}
use Rattle.cfn_model.specs.Text.{line}
use Rattle.cfn_fault.specs.Nodes.{Makes, LeavesOpen, Closes, Splits}
use Rattle.cfn_fault.specs.Lines as lines
use Rattle.cfn_fault.specs.Lines.{Line, Version, Numbers, Lower, NoBest, Best, Values, Root, Node, End}
use Rattle.cfn_fault.specs.Decoding.{◌>>=◌, words_in, numeral, numbers_in, at_end, line_by, line_of}
use Rattle.cfn_fault.proofs.CallerLemmas.{HasNoEnd, IsClean, decimal_clean, front_of, fronted, inside_front, line_of_front, numeral_is, numeral_of_decimal, said_by, says, words_back}
use Rattle.cfn_record.specs.Lines.{RecordLine, Heading, Budget, Take, Give, Back, Recall, Sweep, Says, words_of, bytes_of, text_of, AreSpelled, IsSpelledLine}
use Rattle.cfn_record.specs.Decoding.{heading_line, budget_of, take_of, give_of, back_of, sweep_of, numbers_line, certificate_line, line_said_by, line_said}

-- a line that has a spelling, as what stands before its LF
pub record Fronted (l : RecordLine) : Type 0 where
  pub front : List ℕ
  pub bytes : bytes_of l ≡ front ++ 10 ∷ []
  pub inside : HasNoEnd front
  pub words : words_in front ≡ words_of l

of_words : (l : RecordLine) (word : List ℕ) (words : List (List ℕ)) → words_of l ≡ word ∷ words → AllByRecursion IsClean (word ∷ words) → Fronted l
of_words l word words is clean = record {
  front = front_of (word ∷ words);
  bytes = ap line is ∙ line_of_front word words;
  inside = inside_front (word ∷ words) clean;
  words = words_back word words clean ∙ sym is;
}

clean_numbers : (numbers : List ℕ) → AreSpelled numbers → AllByRecursion IsClean (map decimal numbers)
clean_numbers [] all = tt
clean_numbers (n ∷ numbers) all = (decimal_clean n all.0, clean_numbers numbers all.1)

pub front : (l : RecordLine) → IsSpelledLine l → Fronted l
front Heading h = of_words Heading (codes "wcsprecord") (codes "1" ∷ []) refl (refl, (refl, tt))
front (Budget n) h = of_words (Budget n) (codes "budget") (map decimal (n ∷ [])) refl (refl, clean_numbers (n ∷ []) h)
front (Take w n l g) h = of_words (Take w n l g) (codes "take") (map decimal (w ∷ n ∷ l ∷ g ∷ [])) refl (refl, clean_numbers (w ∷ n ∷ l ∷ g ∷ []) h)
front (Give w l g k s) h = of_words (Give w l g k s) (codes "give") (map decimal (w ∷ l ∷ g ∷ k ∷ s ∷ [])) refl (refl, clean_numbers (w ∷ l ∷ g ∷ k ∷ s ∷ []) h)
front (Back w l g) h = of_words (Back w l g) (codes "back") (map decimal (w ∷ l ∷ g ∷ [])) refl (refl, clean_numbers (w ∷ l ∷ g ∷ []) h)
front Recall h = of_words Recall (codes "recall") [] refl (refl, tt)
front (Sweep s) h = of_words (Sweep s) (codes "sweep") (map decimal (s ∷ [])) refl (refl, clean_numbers (s ∷ []) h)
front (Says l) h = let f = fronted l h in record { front = f.front; bytes = f.bytes; inside = f.inside; words = f.words }

-- the words of a line whose numbers have a spelling say that line
numbers_read : (numbers : List ℕ) → AreSpelled numbers → numbers_in (map decimal numbers) ≡ Some numbers
unfolding numbers_in
numbers_read [] all = refl
numbers_read (n ∷ numbers) all = rw (numeral_of_decimal n all.0, numbers_read numbers all.1) refl

with_numbers : (line_with : List ℕ → Option RecordLine) (numbers : List ℕ) → AreSpelled numbers → numbers_line line_with (map decimal numbers) ≡ line_with numbers
with_numbers line_with numbers all = ap (λ o. o >>= line_with) (numbers_read numbers all)

abbrev wrapped : Option Line → Option RecordLine
wrapped o = o >>= λ l. Some (Says l)

certificate_says : (l : Line) → lines.IsSpelledLine l → line_said (lines.words_of l) ≡ Some (Says l)
unfolding line_said line_said_by certificate_line line_of
certificate_says (Version v) h = ap wrapped (says (Version v) h)
certificate_says (Numbers n e upper) h = ap wrapped (says (Numbers n e upper) h)
certificate_says (Lower lower) h = ap wrapped (says (Lower lower) h)
certificate_says NoBest h = ap wrapped (says NoBest h)
certificate_says (Best cost) h = ap wrapped (says (Best cost) h)
certificate_says (Values values) h = ap wrapped (says (Values values) h)
certificate_says Root h = ap wrapped (says Root h)
certificate_says (Node (Makes (Project f i a m))) h = ap wrapped (says (Node (Makes (Project f i a m))) h)
certificate_says (Node (Makes (Extend f i a m))) h = ap wrapped (says (Node (Makes (Extend f i a m))) h)
certificate_says (Node (Makes (Lift x m))) h = ap wrapped (says (Node (Makes (Lift x m))) h)
certificate_says (Node (Makes (CutValue x a))) h = ap wrapped (says (Node (Makes (CutValue x a))) h)
certificate_says (Node (Makes (CutTuple f c))) h = ap wrapped (says (Node (Makes (CutTuple f c))) h)
certificate_says (Node LeavesOpen) h = ap wrapped (says (Node LeavesOpen) h)
certificate_says (Node Closes) h = ap wrapped (says (Node Closes) h)
certificate_says (Node (Splits (Is x a))) h = ap wrapped (says (Node (Splits (Is x a))) h)
certificate_says (Node (Splits (Most x v))) h = ap wrapped (says (Node (Splits (Most x v))) h)
certificate_says End h = ap wrapped (says End h)

pub line_says : (l : RecordLine) → IsSpelledLine l → line_said (words_of l) ≡ Some l
unfolding line_said line_said_by heading_line
line_says Heading h = refl
line_says (Budget n) h = with_numbers budget_of (n ∷ []) h
line_says (Take w n l g) h = with_numbers take_of (w ∷ n ∷ l ∷ g ∷ []) h
line_says (Give w l g k s) h = with_numbers give_of (w ∷ l ∷ g ∷ k ∷ s ∷ []) h
line_says (Back w l g) h = with_numbers back_of (w ∷ l ∷ g ∷ []) h
line_says Recall h = refl
line_says (Sweep s) h = with_numbers sweep_of (s ∷ []) h
line_says (Says l) h = certificate_says l h

-- words that say a line are its words
pub record IsLineOf (words : List (List ℕ)) (l : RecordLine) : Type 0 where
  pub its : words ≡ words_of l
  pub spelled : IsSpelledLine l

one_line : {A : Type 0} {x y : A} → Some x ≡ Some y → x ≡ y
one_line e = cc

record AreNumerals (words : List (List ℕ)) (numbers : List ℕ) : Type 0 where
  its : words ≡ map decimal numbers
  spelled : AreSpelled numbers

numerals_are : (words : List (List ℕ)) (numbers : List ℕ) → numbers_in words ≡ Some numbers → AreNumerals words numbers
unfolding numbers_in
numerals_are [] numbers e = let none : [] ≡ numbers = one_line e in subst (λ ns. AreNumerals [] ns) none (record { its = refl; spelled = tt })
numerals_are (word ∷ words) numbers e = by_numeral (numeral word) refl (numbers_in words) refl (λ ns is. numerals_are words ns is) e
  where
    by_numeral : (o : Option ℕ) → numeral word ≡ o → (r : Option (List ℕ)) → numbers_in words ≡ r → ((ns : List ℕ) → numbers_in words ≡ Some ns → AreNumerals words ns)
        → (o >>= λ n. r >>= λ rest. Some (n ∷ rest)) ≡ Some numbers → AreNumerals (word ∷ words) numbers
    by_numeral None is r also more e = absurd cc
    by_numeral (Some n) is None also more e = absurd cc
    by_numeral (Some n) is (Some rest) also more e =
        let it = numeral_is word n is in
        let behind = more rest also in
        subst (λ ns. AreNumerals (word ∷ words) ns) (one_line e) (record { its = ap₂ (λ w ws. w ∷ ws) it.spells behind.its; spelled = (it.small, behind.spelled) })

-- a line whose words behind the first are numbers
abbrev Reads : List ℕ → (List ℕ → Option RecordLine) → Type 0
Reads key line_with = (numbers : List ℕ) (l : RecordLine) → line_with numbers ≡ Some l → AreSpelled numbers → IsLineOf (key ∷ map decimal numbers) l

numbers_said : (key : List ℕ) (line_with : List ℕ → Option RecordLine) → Reads key line_with → (words : List (List ℕ)) (l : RecordLine) → numbers_line line_with words ≡ Some l → IsLineOf (key ∷ words) l
numbers_said key line_with reads words l e = by_numbers (numbers_in words) refl e
  where
    by_numbers : (o : Option (List ℕ)) → numbers_in words ≡ o → (o >>= line_with) ≡ Some l → IsLineOf (key ∷ words) l
    by_numbers None is e = absurd cc
    by_numbers (Some numbers) is e =
        let them = numerals_are words numbers is in
        subst (λ ws. IsLineOf (key ∷ ws) l) (sym them.its) (reads numbers l e them.spelled)

abbrev Its : List ℕ → List ℕ → RecordLine → Type 0
Its key numbers l = IsLineOf (key ∷ map decimal numbers) l

reads_budget : Reads (codes "budget") budget_of
reads_budget [] l e all = absurd cc
reads_budget (n ∷ []) l e all = subst (Its (codes "budget") (n ∷ [])) (one_line e) (record { its = refl; spelled = all })
reads_budget (n ∷ m ∷ more) l e all = absurd cc

reads_take : Reads (codes "take") take_of
reads_take [] l e all = absurd cc
reads_take (a ∷ []) l e all = absurd cc
reads_take (a ∷ b ∷ []) l e all = absurd cc
reads_take (a ∷ b ∷ c ∷ []) l e all = absurd cc
reads_take (a ∷ b ∷ c ∷ d ∷ []) l e all = subst (Its (codes "take") (a ∷ b ∷ c ∷ d ∷ [])) (one_line e) (record { its = refl; spelled = all })
reads_take (a ∷ b ∷ c ∷ d ∷ f ∷ more) l e all = absurd cc

reads_give : Reads (codes "give") give_of
reads_give [] l e all = absurd cc
reads_give (a ∷ []) l e all = absurd cc
reads_give (a ∷ b ∷ []) l e all = absurd cc
reads_give (a ∷ b ∷ c ∷ []) l e all = absurd cc
reads_give (a ∷ b ∷ c ∷ d ∷ []) l e all = absurd cc
reads_give (a ∷ b ∷ c ∷ d ∷ f ∷ []) l e all = subst (Its (codes "give") (a ∷ b ∷ c ∷ d ∷ f ∷ [])) (one_line e) (record { its = refl; spelled = all })
reads_give (a ∷ b ∷ c ∷ d ∷ f ∷ g ∷ more) l e all = absurd cc

reads_back : Reads (codes "back") back_of
reads_back [] l e all = absurd cc
reads_back (a ∷ []) l e all = absurd cc
reads_back (a ∷ b ∷ []) l e all = absurd cc
reads_back (a ∷ b ∷ c ∷ []) l e all = subst (Its (codes "back") (a ∷ b ∷ c ∷ [])) (one_line e) (record { its = refl; spelled = all })
reads_back (a ∷ b ∷ c ∷ d ∷ more) l e all = absurd cc

reads_sweep : Reads (codes "sweep") sweep_of
reads_sweep [] l e all = absurd cc
reads_sweep (n ∷ []) l e all = subst (Its (codes "sweep") (n ∷ [])) (one_line e) (record { its = refl; spelled = all })
reads_sweep (n ∷ m ∷ more) l e all = absurd cc

heading_said : (words : List (List ℕ)) (l : RecordLine) → heading_line words ≡ Some l → IsLineOf (codes "wcsprecord" ∷ words) l
unfolding heading_line
heading_said [] l e = absurd cc
heading_said (word ∷ words) l e = by_key (bytes_eq word (codes "1")) refl words e
  where
    by_key : (b : Bool) → bytes_eq word (codes "1") ≡ b → (ws : List (List ℕ)) → (if b then at_end Heading ws else None) ≡ Some l → IsLineOf (codes "wcsprecord" ∷ word ∷ ws) l
    by_key false is ws e = absurd cc
    by_key true is (w ∷ ws) e = absurd cc
    by_key true is [] e =
        let key : word ≡ codes "1" = (bytes_eq-Decides word (codes "1")).0 is in
        let P : RecordLine → Type 0 = λ x. IsLineOf (codes "wcsprecord" ∷ word ∷ []) x in
        subst P (one_line e) (record { its = ap (λ w. codes "wcsprecord" ∷ w ∷ []) key; spelled = tt })

recall_said : (words : List (List ℕ)) (l : RecordLine) → at_end Recall words ≡ Some l → IsLineOf (codes "recall" ∷ words) l
recall_said [] l e = let P : RecordLine → Type 0 = λ x. IsLineOf (codes "recall" ∷ []) x in subst P (one_line e) (record { its = refl; spelled = tt })
recall_said (w ∷ ws) l e = absurd cc

certificate_said : (word : List ℕ) (words : List (List ℕ)) (l : RecordLine) → certificate_line word words ≡ Some l → IsLineOf (word ∷ words) l
unfolding certificate_line line_of
certificate_said word words l e = by_line (line_by word words) refl e
  where
    by_line : (o : Option Line) → line_by word words ≡ o → wrapped o ≡ Some l → IsLineOf (word ∷ words) l
    by_line None is e = absurd cc
    by_line (Some m) is e =
        let it = said_by (word ∷ words) m is in
        let P : RecordLine → Type 0 = λ x. IsLineOf (word ∷ words) x in
        subst P (one_line e) (record { its = it.its; spelled = it.spelled })

keyed : (word key : List ℕ) (words : List (List ℕ)) (l : RecordLine) → bytes_eq word key ≡ true → IsLineOf (key ∷ words) l → IsLineOf (word ∷ words) l
keyed word key words l is it = let P : List ℕ → Type 0 = λ w. IsLineOf (w ∷ words) l in subst P (sym ((bytes_eq-Decides word key).0 is)) it

by_first_word : (word : List ℕ) (words : List (List ℕ)) (l : RecordLine) → line_said_by word words ≡ Some l → IsLineOf (word ∷ words) l
unfolding line_said_by
by_first_word word words l e =
    elim (cases_Bool (bytes_eq word (codes "wcsprecord"))) [
      | inl is ↦ keyed word (codes "wcsprecord") words l is (heading_said words l (rw is at e))
      | inr n1 ↦ elim (cases_Bool (bytes_eq word (codes "budget"))) [
        | inl is ↦ keyed word (codes "budget") words l is (numbers_said (codes "budget") budget_of reads_budget words l (rw (n1, is) at e))
        | inr n2 ↦ elim (cases_Bool (bytes_eq word (codes "take"))) [
          | inl is ↦ keyed word (codes "take") words l is (numbers_said (codes "take") take_of reads_take words l (rw (n1, n2, is) at e))
          | inr n3 ↦ elim (cases_Bool (bytes_eq word (codes "give"))) [
            | inl is ↦ keyed word (codes "give") words l is (numbers_said (codes "give") give_of reads_give words l (rw (n1, n2, n3, is) at e))
            | inr n4 ↦ elim (cases_Bool (bytes_eq word (codes "back"))) [
              | inl is ↦ keyed word (codes "back") words l is (numbers_said (codes "back") back_of reads_back words l (rw (n1, n2, n3, n4, is) at e))
              | inr n5 ↦ elim (cases_Bool (bytes_eq word (codes "recall"))) [
                | inl is ↦ keyed word (codes "recall") words l is (recall_said words l (rw (n1, n2, n3, n4, n5, is) at e))
                | inr n6 ↦ elim (cases_Bool (bytes_eq word (codes "sweep"))) [
                  | inl is ↦ keyed word (codes "sweep") words l is (numbers_said (codes "sweep") sweep_of reads_sweep words l (rw (n1, n2, n3, n4, n5, n6, is) at e))
                  | inr n7 ↦ certificate_said word words l (rw (n1, n2, n3, n4, n5, n6, n7) at e)
                ]
              ]
            ]
          ]
        ]
      ]
    ]

pub line_said_is : (words : List (List ℕ)) (l : RecordLine) → line_said words ≡ Some l → IsLineOf words l
unfolding line_said
line_said_is [] l e = absurd cc
line_said_is (word ∷ words) l e = by_first_word word words l e

-- what stands before the first LF
pub tails : {A : Type 0} {x y : A} {xs ys : List A} → x ∷ xs ≡ y ∷ ys → xs ≡ ys
tails e = cc

pub heads : {A : Type 0} {x y : A} {xs ys : List A} → x ∷ xs ≡ y ∷ ys → x ≡ y
heads e = cc

pub one_front : (f g r s : List ℕ) → HasNoEnd f → HasNoEnd g → f ++ 10 ∷ r ≡ g ++ 10 ∷ s → (f ≡ g) × (r ≡ s)
one_front [] [] r s hf hg e = (refl, tails e)
one_front [] (b ∷ g) r s hf hg e = absurd (let is : 10 ≡ b = heads e in let inside : not (b == 10) ≡ true = (and_parts (not (b == 10)) (list_all (λ b. not (b == 10)) g) hg).0 in let at : not (10 == 10) ≡ true = subst (λ x. not (x == 10) ≡ true) (sym is) inside in cc)
one_front (b ∷ f) [] r s hf hg e = absurd (let is : b ≡ 10 = heads e in let inside : not (b == 10) ≡ true = (and_parts (not (b == 10)) (list_all (λ b. not (b == 10)) f) hf).0 in let at : not (10 == 10) ≡ true = subst (λ x. not (x == 10) ≡ true) is inside in cc)
one_front (a ∷ f) (b ∷ g) r s hf hg e =
    let more = one_front f g r s (and_parts (not (a == 10)) (list_all (λ b. not (b == 10)) f) hf).1 (and_parts (not (b == 10)) (list_all (λ b. not (b == 10)) g) hg).1 (tails e) in
    (ap₂ (λ x xs. x ∷ xs) (heads e) more.0, more.1)

-- bytes begin with one line at most
pub record SameLine (a b : RecordLine) (r s : List ℕ) : Type 0 where
  pub line : a ≡ b
  pub rest : r ≡ s

pub same_line : (a b : RecordLine) (r s : List ℕ) → IsSpelledLine a → IsSpelledLine b → bytes_of a ++ r ≡ bytes_of b ++ s → SameLine a b r s
same_line a b r s ha hb e =
    let fa = front a ha in
    let fb = front b hb in
    let whole : fa.front ++ 10 ∷ r ≡ fb.front ++ 10 ∷ s =
    sym (append_assoc fa.front (10 ∷ []) r) ∙ ap (λ x. x ++ r) (sym fa.bytes) ∙ e ∙ ap (λ x. x ++ s) fb.bytes ∙ append_assoc fb.front (10 ∷ []) s in
    let both = one_front fa.front fb.front r s fa.inside fb.inside whole in
    record { line = one_line (sym (line_says a ha) ∙ ap line_said (sym fa.words ∙ ap words_in both.0 ∙ fb.words) ∙ line_says b hb); rest = both.1 }

-- a line has a byte
pub some_bytes : (l : RecordLine) (more : List ℕ) → IsSpelledLine l → [] ≡ bytes_of l ++ more → ⊥
some_bytes l more h e = let f = front l h in no_end f.front (e ∙ ap (λ x. x ++ more) f.bytes)
  where
    no_end : (front : List ℕ) → [] ≡ (front ++ 10 ∷ []) ++ more → ⊥
    no_end [] e = absurd cc
    no_end (b ∷ front) e = absurd cc

-- a text has one list of lines
pub same_lines : (ls ms : List RecordLine) → AllByRecursion IsSpelledLine ls → AllByRecursion IsSpelledLine ms → text_of ls ≡ text_of ms → ls ≡ ms
same_lines [] [] a b e = refl
same_lines [] (m ∷ ms) a b e = absurd (some_bytes m (text_of ms) b.0 e)
same_lines (l ∷ ls) [] a b e = absurd (some_bytes l (text_of ls) a.0 (sym e))
same_lines (l ∷ ls) (m ∷ ms) a b e = let same = same_line l m (text_of ls) (text_of ms) a.0 b.0 e in ap₂ (λ x xs. x ∷ xs) same.line (same_lines ls ms a.1 b.1 same.rest)
