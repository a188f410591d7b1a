-- Which certificates begin with the lines that a text has.
use Rattle.std.proofs.Common.{◌≡◌, ℕ, zero, suc, ◌<◌, ◌≤◌, ◌+◌, List, [], ◌∷◌, ◌++◌, length, refl, sym, ap, ap₂, subst, ◌∙◌, arith, append_assoc, append-nil, true, false, inl, inr}
use Rattle.std.proofs.lemmas.List.{map-append}
use Rattle.std.proofs.lemmas.Bool.{cases_Bool}
use Rattle.std.specs.Prelude.{◌==◌, Option, Some, None, map, slice_index_or, codes}
use Rattle.std.specs.List.{AllByRecursion}
use Rattle.cfn_model.specs.declared.step.Step.{Step}
use Rattle.cfn_model.specs.Words.{with_first}
use Rattle.cfn_model.specs.Tree.{Tree, Open, Closed, Split}
use Rattle.cfn_model.specs.Certificate.{Solution, Certificate}
use Rattle.cfn_model.specs.Text.{text, step_words, decision_words, version_word, tree_lines, best_lines, certificate_lines, spelling, IsSpelled}
use Rattle.cfn_fault.specs.Nodes.{Makes, LeavesOpen, Closes, Splits}
use Rattle.cfn_fault.specs.Fault.{lines, line_at, Begins, NoneBeginsWith, TextFault}
use Rattle.cfn_fault.specs.Lines.{Line, Version, Numbers, Lower, Root, Node, End, words_of, bytes_of, text_of, IsSpelledLine, lines_of_tree, lines_of_best, lines_of, State, AtVersion, AtOver, Follows, Runs}
use Rattle.cfn_fault.specs.Decoding.{line_of}
use Rattle.cfn_fault.proofs.Running.{same_end, run_split, runs_certificate, spelled_lines, spelled_front, spelled_back, begun}
use Rattle.cfn_fault.proofs.Decoding.{says}
use Rattle.cfn_fault.proofs.Bytes.{fronted, same_words, lines_of_text}

-- the words of a certificate's lines
block_words : (block : List Step) → map words_of (map (λ step. Node (Makes step)) block) ≡ map step_words block
block_words [] = refl
block_words (step ∷ block) = ap (λ r. step_words step ∷ r) (block_words block)

before_end : (block : List Step) (rest : List Line) → map words_of (map (λ step. Node (Makes step)) block ++ rest) ≡ map step_words block ++ map words_of rest
before_end block rest = map-append words_of (map (λ step. Node (Makes step)) block) rest ∙ ap (λ x. x ++ map words_of rest) (block_words block)

tree_words : (tree : Tree) → map words_of (lines_of_tree tree) ≡ tree_lines tree
tree_words (Open block) = before_end block (Node LeavesOpen ∷ [])
tree_words (Closed block) = before_end block (Node Closes ∷ [])
tree_words (Split block d first second) =
    before_end block (Node (Splits d) ∷ (lines_of_tree first ++ lines_of_tree second))
    ∙ ap (λ r. map step_words block ++ decision_words d ∷ r) (map-append words_of (lines_of_tree first) (lines_of_tree second) ∙ ap₂ (λ a b. a ++ b) (tree_words first) (tree_words second))

best_words : (best : Option Solution) → map words_of (lines_of_best best) ≡ best_lines best
best_words None = refl
best_words (Some best) = refl

pub certificate_words : (c : Certificate) → map words_of (lines_of c) ≡ certificate_lines c
certificate_words c =
    map-append words_of (Version c.version ∷ Numbers c.variables c.functions c.upper ∷ Lower c.lower ∷ lines_of_best c.best) (Root ∷ (lines_of_tree c.tree ++ End ∷ []))
    ∙ ap₂ (λ a b. ((codes "wcspcert" ∷ version_word c.version ∷ []) ∷ words_of (Numbers c.variables c.functions c.upper) ∷ words_of (Lower c.lower) ∷ a) ++ (codes "tree" ∷ []) ∷ b) (best_words c.best)
    (map-append words_of (lines_of_tree c.tree) (End ∷ []) ∙ ap (λ t. t ++ (codes "end" ∷ []) ∷ []) (tree_words c.tree))

text_words : (ls : List Line) → text (map words_of ls) ≡ text_of ls
text_words [] = refl
text_words (l ∷ ls) = ap (λ r. bytes_of l ++ r) (text_words ls)

pub spelling_is : (c : Certificate) → spelling c ≡ text_of (lines_of c)
spelling_is c = ap text (sym (certificate_words c)) ∙ text_words (lines_of c)

pub lines_of_spelling : (c : Certificate) → IsSpelled c → lines (spelling c) ≡ map bytes_of (lines_of c)
lines_of_spelling c all = ap lines (spelling_is c ∙ sym (append-nil (text_of (lines_of c)))) ∙ lines_of_text (lines_of c) [] (spelled_lines c all) ∙ append-nil (map bytes_of (lines_of c))

-- one spelling is that of one line
pub same_line : (a b : Line) → IsSpelledLine a → IsSpelledLine b → bytes_of a ≡ bytes_of b → a ≡ b
same_line a b ha hb e =
    let f = fronted b hb in
    let its : words_of a ≡ words_of b = sym (same_words a f.front ha (e ∙ f.bytes)) ∙ f.words in
    let both = sym (says a ha) ∙ ap line_of its ∙ says b hb in
    some_same both
  where
    some_same : {x y : Line} → Some x ≡ Some y → x ≡ y
    some_same e = cc

pub some_bytes : (l : Line) → IsSpelledLine l → bytes_of l ≡ [] → ⊥
some_bytes l h e = let f = fronted l h in no_end f.front (sym f.bytes ∙ e)
  where
    no_end : (front : List ℕ) → front ++ 10 ∷ [] ≡ [] → ⊥
    no_end [] e = absurd cc
    no_end (b ∷ front) e = absurd cc

-- lines that agree with all of these, one by one, begin with them
pub record FrontOf (cs ls : List Line) : Type 0 where
  pub rest : List Line
  pub whole : cs ≡ ls ++ rest

pub agree : (cs ls : List Line) (tail : List (List ℕ)) → AllByRecursion IsSpelledLine cs → AllByRecursion IsSpelledLine ls
    → ((i : ℕ) → i < length ls → slice_index_or (map bytes_of cs) i [] ≡ slice_index_or (map bytes_of ls ++ tail) i []) → FrontOf cs ls
agree cs [] tail hc hl same = record { rest = cs; whole = refl }
agree [] (l ∷ ls) tail hc hl same = absurd (some_bytes l hl.0 (sym (same 0 (omega arith))))
agree (c ∷ cs) (l ∷ ls) tail hc hl same =
    let first : c ≡ l = same_line c l hc.0 hl.0 (same 0 (omega arith)) in
    let more = agree cs ls tail hc.1 hl.1 (λ i lt. same (suc i) (omega arith)) in
    record { rest = more.rest; whole = ap₂ (λ a b. a ∷ b) first more.whole }

pub front_of_lines : (c : Certificate) (bytes rest : List ℕ) (ls : List Line) (n : ℕ) → IsSpelled c → AllByRecursion IsSpelledLine ls → bytes ≡ text_of ls ++ rest → length ls ≤ n → Begins c bytes n → FrontOf (lines_of c) ls
front_of_lines c bytes rest ls n all spelled is le begins =
    let theirs = lines_of_spelling c all in
    let ours = ap lines is ∙ lines_of_text ls rest spelled in
    agree (lines_of c) ls (lines rest) (spelled_lines c all) spelled
    (λ i lt. sym (ap (λ x. slice_index_or x i []) theirs) ∙ begins i (omega arith) ∙ ap (λ x. slice_index_or x i []) ours)

-- and the other way round
meet : (cs rest : List Line) (tail : List (List ℕ)) (i : ℕ) → i < length cs → slice_index_or (map bytes_of (cs ++ rest)) i [] ≡ slice_index_or (map bytes_of cs ++ tail) i []
meet [] rest tail i lt = absurd (omega arith)
meet (c ∷ cs) rest tail zero lt = refl
meet (c ∷ cs) rest tail (suc i) lt = meet cs rest tail i (omega arith)

pub begins_with : (c : Certificate) (bytes rest : List ℕ) (ls more : List Line) → IsSpelled c → lines_of c ≡ ls ++ more → bytes ≡ text_of ls ++ rest → Begins c bytes (length ls)
begins_with c bytes rest ls more all whole is i lt =
    let P : List Line → Type 0 = AllByRecursion IsSpelledLine in
    let spelled = spelled_front ls more (subst P whole (spelled_lines c all)) in
    ap (λ x. slice_index_or x i []) (lines_of_spelling c all ∙ ap (map bytes_of) whole) ∙ meet ls more (lines rest) i lt ∙ ap (λ x. slice_index_or x i []) (sym (ap lines is ∙ lines_of_text ls rest spelled))

-- the line behind those that were read
seam : (cs rest : List Line) → slice_index_or (map bytes_of (cs ++ rest)) (length cs) [] ≡ slice_index_or (map bytes_of rest) 0 []
seam [] rest = refl
seam (c ∷ cs) rest = seam cs rest

seam_bytes : (ls : List Line) (tail : List (List ℕ)) → slice_index_or (map bytes_of ls ++ tail) (length ls) [] ≡ slice_index_or tail 0 []
seam_bytes [] tail = refl
seam_bytes (l ∷ ls) tail = seam_bytes ls tail

-- where no line that may follow stands behind the lines that were read, no certificate begins so
pub none_begins : (bytes rest : List ℕ) (ls : List Line) (s : State) → Runs AtVersion ls s → AllByRecursion IsSpelledLine ls → bytes ≡ text_of ls ++ rest
    → ((l : Line) (t : State) → IsSpelledLine l → Follows s l t → line_at rest 0 ≡ bytes_of l → ⊥) → (s ≡ AtOver → line_at rest 0 ≡ [] → ⊥)
    → NoneBeginsWith bytes (length ls + 1)
none_begins bytes rest ls s run spelled is no_line more c all begins =
    let front = front_of_lines c bytes rest ls (length ls + 1) all spelled is (omega arith) begins in
    let P : List Line → Type 0 = λ x. Runs AtVersion x AtOver in
    let whole = run_split AtVersion AtOver ls front.rest (subst P front.whole (runs_certificate c all)) in
    let Q : State → Type 0 = λ x. Runs x front.rest AtOver in
    let behind = subst Q (same_end AtVersion whole.0 s ls whole.1 run) whole.2 in
    let here : slice_index_or (map bytes_of front.rest) 0 [] ≡ line_at rest 0 =
    sym (ap (λ x. slice_index_or x (length ls) []) (lines_of_spelling c all ∙ ap (map bytes_of) front.whole) ∙ seam ls front.rest) ∙ begins (length ls) (omega arith)
    ∙ ap (λ x. slice_index_or x (length ls) []) (ap lines is ∙ lines_of_text ls rest spelled) ∙ seam_bytes ls (lines rest) in
    let P' : List Line → Type 0 = AllByRecursion IsSpelledLine in
    by_rest front.rest behind (spelled_back ls front.rest (subst P' front.whole (spelled_lines c all))) here
  where
    by_rest : (more_lines : List Line) → Runs s more_lines AtOver → AllByRecursion IsSpelledLine more_lines → slice_index_or (map bytes_of more_lines) 0 [] ≡ line_at rest 0 → ⊥
    by_rest [] run its here = more run (sym here)
    by_rest (l ∷ others) run its here = no_line l run.0 its.0 run.1 (sym here)

-- behind lines that may come one behind the other the text fails where no certificate begins with one line more
pub text_fails : (bytes rest : List ℕ) (ls : List Line) (s : State) → Runs AtVersion ls s → AllByRecursion IsSpelledLine ls → bytes ≡ text_of ls ++ rest → NoneBeginsWith bytes (length ls + 1) → TextFault bytes (length ls + 1)
text_fails bytes rest ls s run spelled is never = record {
  none = never;
  some = λ fewer lt.
      let c = begun ls s run spelled in
      (c.certificate, c.spelled, λ i below. begins_with c.certificate bytes rest ls c.rest c.spelled c.lines is i (omega arith));
}

-- the text of one line more
pub text_append : (ls : List Line) (l : Line) → text_of (ls ++ l ∷ []) ≡ text_of ls ++ bytes_of l
text_append [] l = append-nil (bytes_of l)
text_append (m ∷ ls) l = ap (λ r. bytes_of m ++ r) (text_append ls l) ∙ sym (append_assoc (bytes_of m) (text_of ls) (bytes_of l))

-- the first line of bytes that are there has a byte
pub first_line : (all : List (List ℕ)) (first : List ℕ) (others : List (List ℕ)) → all ≡ first ∷ others → slice_index_or all 0 [] ≡ first
first_line all first others e = ap (λ x. slice_index_or x 0 []) e

begins_so : (b : ℕ) (others : List (List ℕ)) → slice_index_or (with_first b others) 0 [] ≡ [] → ⊥
begins_so b [] e = absurd cc
begins_so b (word ∷ words) e = absurd cc

pub some_rest : (b : ℕ) (rest : List ℕ) → line_at (b ∷ rest) 0 ≡ [] → ⊥
some_rest b rest e = elim (cases_Bool (b == 10)) [ inl end ↦ at_end end | inr inside ↦ in_line inside ]
  where
    at_end : (b == 10) ≡ true → ⊥
    at_end end = let all : lines (b ∷ rest) ≡ (b ∷ []) ∷ lines rest = rw end refl in let both = sym (first_line (lines (b ∷ rest)) (b ∷ []) (lines rest) all) ∙ e in absurd (cc)

    in_line : (b == 10) ≡ false → ⊥
    in_line inside = let all : lines (b ∷ rest) ≡ with_first b (lines rest) = rw inside refl in begins_so b (lines rest) (sym (ap (λ x. slice_index_or x 0 []) all) ∙ e)
