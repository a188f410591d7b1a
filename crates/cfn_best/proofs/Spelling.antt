-- Lines and their words, as bytes: each line has one spelling.
use Rattle.std.proofs.Common.{◌≡◌, ℕ, zero, suc, ◌<◌, ◌≤◌, inl, inr, Bool, true, false, List, [], ◌∷◌, ◌++◌, refl, sym, ap, ap₂, subst, ◌∙◌, arith, append_assoc}
use Rattle.std.proofs.lemmas.Bool.{cases_Bool, ne_eqb, and_parts}
use Rattle.std.proofs.lemmas.Slice.Eq.{bytes_eq-Decides}
use Rattle.std.specs.Prelude.{Option, Some, None, decimal, codes, not, ◌==◌, if◌then◌else◌}
use Rattle.std.specs.List.{AllByRecursion, list_all}
use Rattle.std.specs.Str.{bytes_eq}
use Rattle.cfn_model.specs.declared.step.Step.TheVariants.{Project, Extend, Lift, CutValue, CutTuple}
use Rattle.cfn_model.specs.declared.step.Decision.TheVariants.{Is, Most}
use Rattle.cfn_model.specs.declared.version.Version.TheVariants.{First, Second}
use Rattle.cfn_model.specs.Words.{greatest}
use Rattle.cfn_model.specs.Text.{line}
use Rattle.cfn_fault.specs.Nodes.{Item, Makes, LeavesOpen, Closes, Splits}
use Rattle.cfn_fault.specs.Lines as lines
use Rattle.cfn_fault.specs.Lines.{Line, Version, Numbers, Lower, NoBest, Best, Values, Root, Node, End}
use Rattle.cfn_fault.specs.Decoding.{◌>>=◌, words_in, word_from, with_rest, numeral, number_from, amount_from, at_end, line_by, line_of}
use Rattle.cfn_fault.proofs.CallerLemmas.{HasNoEnd, IsClean, decimal_clean, front_of, fronted, inside_front, line_of_front, numeral_is, numeral_of_decimal, said_by, says, words_back}
use Rattle.cfn_best.specs.Lines.{ListLine, Heading, Count, Lists, Says, words_of, bytes_of, IsSpelledLine}
use Rattle.cfn_best.specs.Decoding.{heading_line, count_line, lists_line, certificate_line, line_said_by, line_said}

-- a line that has a spelling, as what stands before its LF
pub record Fronted (l : ListLine) : Type 0 where
  pub front : List ℕ
  pub bytes : bytes_of l ≡ front ++ 10 ∷ []
  pub inside : HasNoEnd front
  pub words : words_in front ≡ words_of l

of_words : (l : ListLine) (word : List ℕ) (words : List (List ℕ)) → words_of l ≡ word ∷ words → AllByRecursion IsClean (word ∷ words) → Fronted l
of_words l word words is clean = record {
  front = front_of (word ∷ words);
  bytes = ap line is ∙ line_of_front word words;
  inside = inside_front (word ∷ words) clean;
  words = words_back word words clean ∙ sym is;
}

pub front : (l : ListLine) → IsSpelledLine l → Fronted l
front Heading h = of_words Heading (codes "wcspbest") (codes "1" ∷ []) refl (refl, (refl, tt))
front (Count n) h = of_words (Count n) (codes "count") (decimal n ∷ []) refl (refl, (decimal_clean n h.1, tt))
front (Lists n) h = of_words (Lists n) (codes "listed") (decimal n ∷ []) refl (refl, (decimal_clean n h, tt))
front (Says l) h = let f = fronted l h in record { front = f.front; bytes = f.bytes; inside = f.inside; words = f.words }

-- the words of a line whose numbers have a spelling say that line
number : (n : ℕ) (words : List (List ℕ)) → n ≤ greatest → number_from (decimal n ∷ words) ≡ Some (n, words)
unfolding number_from
number n words h = rw (numeral_of_decimal n h) refl

amount : (n : ℕ) (words : List (List ℕ)) → 0 < n → n ≤ greatest → amount_from (decimal n ∷ words) ≡ Some (n, words)
unfolding amount_from
amount zero words some h = absurd (omega arith)
amount (suc n) words some h = let not_zero : (suc n == 0) ≡ false = ne_eqb (suc n) 0 (λ e. absurd (omega arith)) in rw (number (suc n) words h, not_zero) refl

abbrev wrapped : Option Line → Option ListLine
wrapped o = o >>= λ l. Some (Says l)

certificate_says : (l : Line) → lines.IsSpelledLine l → line_said (lines.words_of l) ≡ Some (Says l)
unfolding line_said line_said_by certificate_line line_of
certificate_says (Version v) h = ap wrapped (says (Version v) h)
certificate_says (Numbers n e upper) h = ap wrapped (says (Numbers n e upper) h)
certificate_says (Lower lower) h = ap wrapped (says (Lower lower) h)
certificate_says NoBest h = ap wrapped (says NoBest h)
certificate_says (Best cost) h = ap wrapped (says (Best cost) h)
certificate_says (Values values) h = ap wrapped (says (Values values) h)
certificate_says Root h = ap wrapped (says Root h)
certificate_says (Node (Makes (Project f i a m))) h = ap wrapped (says (Node (Makes (Project f i a m))) h)
certificate_says (Node (Makes (Extend f i a m))) h = ap wrapped (says (Node (Makes (Extend f i a m))) h)
certificate_says (Node (Makes (Lift x m))) h = ap wrapped (says (Node (Makes (Lift x m))) h)
certificate_says (Node (Makes (CutValue x a))) h = ap wrapped (says (Node (Makes (CutValue x a))) h)
certificate_says (Node (Makes (CutTuple f c))) h = ap wrapped (says (Node (Makes (CutTuple f c))) h)
certificate_says (Node LeavesOpen) h = ap wrapped (says (Node LeavesOpen) h)
certificate_says (Node Closes) h = ap wrapped (says (Node Closes) h)
certificate_says (Node (Splits (Is x a))) h = ap wrapped (says (Node (Splits (Is x a))) h)
certificate_says (Node (Splits (Most x v))) h = ap wrapped (says (Node (Splits (Most x v))) h)
certificate_says End h = ap wrapped (says End h)

pub line_says : (l : ListLine) → IsSpelledLine l → line_said (words_of l) ≡ Some l
unfolding line_said line_said_by heading_line count_line lists_line
line_says Heading h = refl
line_says (Count n) h = rw (amount n [] h.0 h.1) refl
line_says (Lists n) h = rw (number n [] h) refl
line_says (Says l) h = certificate_says l h

-- words that say a line are its words
pub record IsLineOf (words : List (List ℕ)) (l : ListLine) : Type 0 where
  pub its : words ≡ words_of l
  pub spelled : IsSpelledLine l

one_line : {A : Type 0} {x y : A} → Some x ≡ Some y → x ≡ y
one_line e = cc

heading_said : (words : List (List ℕ)) (l : ListLine) → heading_line words ≡ Some l → IsLineOf (codes "wcspbest" ∷ words) l
unfolding heading_line
heading_said [] l e = absurd cc
heading_said (word ∷ words) l e = by_key (bytes_eq word (codes "1")) refl words e
  where
    by_key : (b : Bool) → bytes_eq word (codes "1") ≡ b → (ws : List (List ℕ)) → (if b then at_end Heading ws else None) ≡ Some l → IsLineOf (codes "wcspbest" ∷ word ∷ ws) l
    by_key false is ws e = absurd cc
    by_key true is (w ∷ ws) e = absurd cc
    by_key true is [] e =
        let key : word ≡ codes "1" = (bytes_eq-Decides word (codes "1")).0 is in
        let P : ListLine → Type 0 = λ x. IsLineOf (codes "wcspbest" ∷ word ∷ []) x in
        subst P (one_line e) (record { its = ap (λ w. codes "wcspbest" ∷ w ∷ []) key; spelled = tt })

count_said : (words : List (List ℕ)) (l : ListLine) → count_line words ≡ Some l → IsLineOf (codes "count" ∷ words) l
unfolding count_line amount_from number_from
count_said [] l e = absurd cc
count_said (word ∷ words) l e = by_number (numeral word) refl words e
  where
    by_number : (o : Option ℕ) → numeral word ≡ o → (ws : List (List ℕ)) → ((with_rest o ws >>= λ n. if n.0 == 0 then None else Some n) >>= λ n. at_end (Count n.0) n.1) ≡ Some l → IsLineOf (codes "count" ∷ word ∷ ws) l
    by_number None is ws e = absurd cc
    by_number (Some zero) is ws e = absurd cc
    by_number (Some (suc n)) is [] e =
        let it = numeral_is word (suc n) is in
        let some : (suc n == 0) ≡ false = ne_eqb (suc n) 0 (λ z. absurd (omega arith)) in
        let P : ListLine → Type 0 = λ x. IsLineOf (codes "count" ∷ word ∷ []) x in
        subst P (one_line (rw some at e)) (record { its = ap (λ w. codes "count" ∷ w ∷ []) it.spells; spelled = (omega arith, it.small) })
    by_number (Some (suc n)) is (w ∷ ws) e = let some : (suc n == 0) ≡ false = ne_eqb (suc n) 0 (λ z. absurd (omega arith)) in let none = rw some at e in absurd cc

lists_said : (words : List (List ℕ)) (l : ListLine) → lists_line words ≡ Some l → IsLineOf (codes "listed" ∷ words) l
unfolding lists_line number_from
lists_said [] l e = absurd cc
lists_said (word ∷ words) l e = by_number (numeral word) refl words e
  where
    by_number : (o : Option ℕ) → numeral word ≡ o → (ws : List (List ℕ)) → (with_rest o ws >>= λ n. at_end (Lists n.0) n.1) ≡ Some l → IsLineOf (codes "listed" ∷ word ∷ ws) l
    by_number None is ws e = absurd cc
    by_number (Some n) is [] e =
        let it = numeral_is word n is in
        let P : ListLine → Type 0 = λ x. IsLineOf (codes "listed" ∷ word ∷ []) x in
        subst P (one_line e) (record { its = ap (λ w. codes "listed" ∷ w ∷ []) it.spells; spelled = it.small })
    by_number (Some n) is (w ∷ ws) e = absurd cc

certificate_said : (word : List ℕ) (words : List (List ℕ)) (l : ListLine) → certificate_line word words ≡ Some l → IsLineOf (word ∷ words) l
unfolding certificate_line line_of
certificate_said word words l e = by_line (line_by word words) refl e
  where
    by_line : (o : Option Line) → line_by word words ≡ o → wrapped o ≡ Some l → IsLineOf (word ∷ words) l
    by_line None is e = absurd cc
    by_line (Some m) is e =
        let it = said_by (word ∷ words) m is in
        let P : ListLine → Type 0 = λ x. IsLineOf (word ∷ words) x in
        subst P (one_line e) (record { its = it.its; spelled = it.spelled })

keyed : (word key : List ℕ) (words : List (List ℕ)) (l : ListLine) → bytes_eq word key ≡ true → IsLineOf (key ∷ words) l → IsLineOf (word ∷ words) l
keyed word key words l is it = let P : List ℕ → Type 0 = λ w. IsLineOf (w ∷ words) l in subst P (sym ((bytes_eq-Decides word key).0 is)) it

by_first_word : (word : List ℕ) (words : List (List ℕ)) (l : ListLine) → line_said_by word words ≡ Some l → IsLineOf (word ∷ words) l
unfolding line_said_by
by_first_word word words l e =
    elim (cases_Bool (bytes_eq word (codes "wcspbest"))) [
      | inl is ↦ keyed word (codes "wcspbest") words l is (heading_said words l (rw is at e))
      | inr unlike ↦ elim (cases_Bool (bytes_eq word (codes "count"))) [
        | inl is ↦ keyed word (codes "count") words l is (count_said words l (rw (unlike, is) at e))
        | inr nor ↦ elim (cases_Bool (bytes_eq word (codes "listed"))) [
          | inl is ↦ keyed word (codes "listed") words l is (lists_said words l (rw (unlike, nor, is) at e))
          | inr none ↦ certificate_said word words l (rw (unlike, nor, none) at e)
        ]
      ]
    ]

pub line_said_is : (words : List (List ℕ)) (l : ListLine) → line_said words ≡ Some l → IsLineOf words l
unfolding line_said
line_said_is [] l e = absurd cc
line_said_is (word ∷ words) l e = by_first_word word words l e

-- what stands before the first LF
tails : {A : Type 0} {x y : A} {xs ys : List A} → x ∷ xs ≡ y ∷ ys → xs ≡ ys
tails e = cc

heads : {A : Type 0} {x y : A} {xs ys : List A} → x ∷ xs ≡ y ∷ ys → x ≡ y
heads e = cc

pub one_front : (f g r s : List ℕ) → HasNoEnd f → HasNoEnd g → f ++ 10 ∷ r ≡ g ++ 10 ∷ s → (f ≡ g) × (r ≡ s)
one_front [] [] r s hf hg e = (refl, tails e)
one_front [] (b ∷ g) r s hf hg e = absurd (let is : 10 ≡ b = heads e in let inside : not (b == 10) ≡ true = (and_parts (not (b == 10)) (list_all (λ b. not (b == 10)) g) hg).0 in let at : not (10 == 10) ≡ true = subst (λ x. not (x == 10) ≡ true) (sym is) inside in cc)
one_front (b ∷ f) [] r s hf hg e = absurd (let is : b ≡ 10 = heads e in let inside : not (b == 10) ≡ true = (and_parts (not (b == 10)) (list_all (λ b. not (b == 10)) f) hf).0 in let at : not (10 == 10) ≡ true = subst (λ x. not (x == 10) ≡ true) is inside in cc)
one_front (a ∷ f) (b ∷ g) r s hf hg e =
    let more = one_front f g r s (and_parts (not (a == 10)) (list_all (λ b. not (b == 10)) f) hf).1 (and_parts (not (b == 10)) (list_all (λ b. not (b == 10)) g) hg).1 (tails e) in
    (ap₂ (λ x xs. x ∷ xs) (heads e) more.0, more.1)

-- bytes begin with one line at most
pub record SameLine (a b : ListLine) (r s : List ℕ) : Type 0 where
  pub line : a ≡ b
  pub rest : r ≡ s

pub same_line : (a b : ListLine) (r s : List ℕ) → IsSpelledLine a → IsSpelledLine b → bytes_of a ++ r ≡ bytes_of b ++ s → SameLine a b r s
same_line a b r s ha hb e =
    let fa = front a ha in
    let fb = front b hb in
    let whole : fa.front ++ 10 ∷ r ≡ fb.front ++ 10 ∷ s =
    sym (append_assoc fa.front (10 ∷ []) r) ∙ ap (λ x. x ++ r) (sym fa.bytes) ∙ e ∙ ap (λ x. x ++ s) fb.bytes ∙ append_assoc fb.front (10 ∷ []) s in
    let both = one_front fa.front fb.front r s fa.inside fb.inside whole in
    record { line = one_line (sym (line_says a ha) ∙ ap line_said (sym fa.words ∙ ap words_in both.0 ∙ fb.words) ∙ line_says b hb); rest = both.1 }

-- a line has a byte
pub some_bytes : (l : ListLine) (more : List ℕ) → IsSpelledLine l → [] ≡ bytes_of l ++ more → ⊥
some_bytes l more h e = let f = front l h in no_end f.front (e ∙ ap (λ x. x ++ more) f.bytes)
  where
    no_end : (front : List ℕ) → [] ≡ (front ++ 10 ∷ []) ++ more → ⊥
    no_end [] e = absurd cc
    no_end (b ∷ front) e = absurd cc
