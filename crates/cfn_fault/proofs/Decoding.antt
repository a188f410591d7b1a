-- Words say a line exactly where they are its words and each of its numbers has a spelling.
use Rattle.std.proofs.Common.{◌≡◌, ℕ, zero, suc, ◌<◌, ◌≤◌, true, false, List, [], ◌∷◌, length, refl, sym, ap, subst, ◌∙◌, arith, inl, inr}
use Rattle.std.proofs.lemmas.Bool.{ne_eqb, eqb-false, false_from_ne_true}
use Rattle.std.proofs.lemmas.Slice.Eq.{bytes_eq-Decides}
use Rattle.std.specs.Prelude.{Option, Some, None, decimal, map, codes, ◌==◌, if◌then◌else◌}
use Rattle.std.specs.List.{AllByRecursion, list_all}
use Rattle.std.specs.Str.{bytes_eq}
use Rattle.cfn_model.specs.declared.step.Step.TheVariants.{Project, Extend, Lift, CutValue, CutTuple}
use Rattle.cfn_model.specs.declared.step.Decision.TheVariants.{Is, Most}
use Rattle.cfn_model.specs.declared.version.Version as versions
use Rattle.cfn_model.specs.declared.version.Version.TheVariants.{First, Second}
use Rattle.cfn_model.specs.Words.{greatest, is_digit}
use Rattle.cfn_model.specs.Text.{version_word}
use Rattle.cfn_fault.specs.Nodes.{Item, Makes, LeavesOpen, Closes, Splits}
use Rattle.cfn_fault.specs.Lines.{Line, Version, Numbers, Lower, NoBest, Best, Values, Root, Node, End, words_of, IsSpelledLine}
use Rattle.cfn_fault.specs.Decoding.{◌>>=◌, numeral, with_rest, number_from, amount_from, at_end, numbers_in, numbers_line, lower_line, best_line, are_values, version_of, version_line, project_line, extend_line, lift_line, value_line, tuple_line, split_line, part_line, node_line, item_line, line_by, line_of}
use Rattle.cfn_fault.proofs.Numerals.{numeral_of_decimal, numeral_is, decimal_digits, chose, chose_other, chose_either}

-- the words of a line whose numbers have a spelling say that line
number : (n : ℕ) (words : List (List ℕ)) → n ≤ greatest → number_from (decimal n ∷ words) ≡ Some (n, words)
unfolding number_from
number n words h = rw (numeral_of_decimal n h) refl

amount : (n : ℕ) (words : List (List ℕ)) → 0 < n → n ≤ greatest → amount_from (decimal n ∷ words) ≡ Some (n, words)
unfolding amount_from
amount zero words some h = absurd (omega arith)
amount (suc n) words some h = let not_zero : (suc n == 0) ≡ false = ne_eqb (suc n) 0 (λ e. absurd (omega arith)) in rw (number (suc n) words h, not_zero) refl

numbers : (values : List ℕ) → AllByRecursion (λ a. a ≤ greatest) values → numbers_in (map decimal values) ≡ Some values
unfolding numbers_in
numbers [] all = refl
numbers (a ∷ values) all = rw (numeral_of_decimal a all.0, numbers values all.1) refl

not_none : (n : ℕ) → n ≤ greatest → bytes_eq (decimal n) (codes "none") ≡ false
not_none n h = false_from_ne_true _ (λ e. let same = (bytes_eq-Decides (decimal n) (codes "none")).0 e in let digits = sym (decimal_digits n h) ∙ ap (list_all is_digit) same in absurd (cc))

values_say : (values : List ℕ) → 0 < length values → AllByRecursion (λ a. a ≤ greatest) values → are_values (map decimal values) ≡ Some (Values values)
values_say [] some all = absurd (omega arith)
values_say (a ∷ values) some all = rw (numbers (a ∷ values) all) refl

item_says : (item : Item) → IsSpelledLine (Node item) → line_of (words_of (Node item)) ≡ Some (Node item)
unfolding line_of line_by item_line node_line project_line extend_line lift_line value_line tuple_line split_line part_line
item_says (Makes (Project f i a m)) h = rw (number f (decimal i ∷ decimal a ∷ decimal m ∷ []) h.0, number i (decimal a ∷ decimal m ∷ []) h.1, number a (decimal m ∷ []) h.2, amount m [] h.3 h.4) refl
item_says (Makes (Extend f i a m)) h = rw (number f (decimal i ∷ decimal a ∷ decimal m ∷ []) h.0, number i (decimal a ∷ decimal m ∷ []) h.1, number a (decimal m ∷ []) h.2, amount m [] h.3 h.4) refl
item_says (Makes (Lift x m)) h = rw (number x (decimal m ∷ []) h.0, amount m [] h.1 h.2) refl
item_says (Makes (CutValue x a)) h = rw (number x (decimal a ∷ []) h.0, number a [] h.1) refl
item_says (Makes (CutTuple f c)) h = rw (number f (decimal c ∷ []) h.0, number c [] h.1) refl
item_says LeavesOpen h = refl
item_says Closes h = refl
item_says (Splits (Is x a)) h = rw (number x (decimal a ∷ []) h.0, number a [] h.1) refl
item_says (Splits (Most x v)) h = rw (number x (decimal v ∷ []) h.0, number v [] h.1) refl

pub says : (l : Line) → IsSpelledLine l → line_of (words_of l) ≡ Some l
unfolding line_of line_by item_line version_of version_line numbers_line lower_line best_line
says (Version First) h = refl
says (Version Second) h = refl
says (Numbers n e upper) h = rw (number n (decimal e ∷ decimal upper ∷ []) h.0, number e (decimal upper ∷ []) h.1, number upper [] h.2) refl
says (Lower lower) h = rw (number lower [] h) refl
says NoBest h = refl
says (Best cost) h = rw (not_none cost h, number cost [] h) refl
says (Values values) h = values_say values h.0 h.1
says Root h = refl
says (Node item) h = item_says item h
says End h = refl

-- words that say a line are its words
bound : {A B : Type 0} (o : Option A) (f : A → Option B) (v : B) → (o >>= f) ≡ Some v → (x : A) × (o ≡ Some x) × (f x ≡ Some v)
bound None f v e = absurd cc
bound (Some x) f v e = (x, refl, e)

ended : {A : Type 0} (x v : A) (words : List (List ℕ)) → at_end x words ≡ Some v → (words ≡ []) × (x ≡ v)
ended x v [] e = (refl, cc)
ended x v (word ∷ words) e = absurd cc

record Took (words : List (List ℕ)) (n : ℕ) (rest : List (List ℕ)) : Type 0 where
  first : words ≡ decimal n ∷ rest
  small : n ≤ greatest

took_number : (words : List (List ℕ)) (n : ℕ × List (List ℕ)) → number_from words ≡ Some n → Took words n.0 n.1
unfolding number_from
took_number [] n e = absurd cc
took_number (word ∷ words) n e = took (numeral word) refl e
  where
    took : (o : Option ℕ) → numeral word ≡ o → with_rest o words ≡ Some n → Took (word ∷ words) n.0 n.1
    took None is e = absurd cc
    took (Some m) is e =
        let same : m ≡ n.0 = cc in
        let rest : words ≡ n.1 = cc in
        let it = numeral_is word n.0 (is ∙ ap Some same) in
        record { first = ap (λ w. w ∷ words) it.spells ∙ ap (λ r. decimal n.0 ∷ r) rest; small = it.small }

took_amount : (words : List (List ℕ)) (n : ℕ × List (List ℕ)) → amount_from words ≡ Some n → Took words n.0 n.1 × (0 < n.0)
unfolding amount_from
took_amount words n e =
    let b = bound (number_from words) (λ x. if x.0 == 0 then None else Some x) n e in
    let c = chose_other (b.0.0 == 0) (Some b.0) n b.2 in
    let same : b.0 ≡ n = cc in
    let P : ℕ × List (List ℕ) → Type 0 = λ x. Took words x.0 x.1 in
    let Q : ℕ × List (List ℕ) → Type 0 = λ x. 0 < x.0 in
    let some : 0 < b.0.0 = positive b.0.0 (eqb-false b.0.0 0 c.0) in
    (subst P same (took_number words b.0 b.1), subst Q same some)
  where
    positive : (m : ℕ) → (m ≡ 0 → ⊥) → 0 < m
    positive zero ne = absurd (ne refl)
    positive (suc m) ne = omega arith

-- a word and the words behind it are those of a line
record Says (word : List ℕ) (rest : List (List ℕ)) (l : Line) : Type 0 where
  its : word ∷ rest ≡ words_of l
  spelled : IsSpelledLine l

said : (word : List ℕ) (rest : List (List ℕ)) (m l : Line) → m ≡ l → word ∷ rest ≡ words_of m → IsSpelledLine m → Says word rest l
said word rest m l same is spelled = let P : Line → Type 0 = λ x. Says word rest x in subst P same (record { its = is; spelled = spelled })

-- two, three and four numbers at the end of a line
two : (key : List ℕ) (words second third : List (List ℕ)) (a b : ℕ) → Took words a second → Took second b third → third ≡ [] → key ∷ words ≡ key ∷ decimal a ∷ decimal b ∷ []
two key words second third a b ta tb none = ap (λ w. key ∷ w) (ta.first ∙ ap (λ w. decimal a ∷ w) (tb.first ∙ ap (λ w. decimal b ∷ w) none))

three : (key : List ℕ) (words second third fourth : List (List ℕ)) (a b c : ℕ) → Took words a second → Took second b third → Took third c fourth → fourth ≡ [] → key ∷ words ≡ key ∷ decimal a ∷ decimal b ∷ decimal c ∷ []
three key words second third fourth a b c ta tb tc none = ap (λ w. key ∷ w) (ta.first ∙ ap (λ w. decimal a ∷ w) (tb.first ∙ ap (λ w. decimal b ∷ w) (tc.first ∙ ap (λ w. decimal c ∷ w) none)))

four : (key : List ℕ) (words second third fourth fifth : List (List ℕ)) (a b c d : ℕ) → Took words a second → Took second b third → Took third c fourth → Took fourth d fifth → fifth ≡ [] → key ∷ words ≡ key ∷ decimal a ∷ decimal b ∷ decimal c ∷ decimal d ∷ []
four key words second third fourth fifth a b c d ta tb tc td none = ap (λ w. key ∷ w) (ta.first ∙ ap (λ w. decimal a ∷ w) (tb.first ∙ ap (λ w. decimal b ∷ w) (tc.first ∙ ap (λ w. decimal c ∷ w) (td.first ∙ ap (λ w. decimal d ∷ w) none))))

version_named : (word : List ℕ) (version : versions.Version) → version_of word ≡ Some version → word ≡ version_word version
unfolding version_of
version_named word version e = elim (chose_either (bytes_eq word (codes "1")) (Some First) (if bytes_eq word (codes "2") then Some Second else None) version e) [
  | inl c ↦ named First c.0 c.1
  | inr c ↦ let d = chose (bytes_eq word (codes "2")) (Some Second) version c.1 in named Second d.0 d.1
]
  where
    named : (its : versions.Version) → bytes_eq word (version_word its) ≡ true → Some its ≡ Some version → word ≡ version_word version
    named its e is = let same : its ≡ version = cc in (bytes_eq-Decides word (version_word its)).0 e ∙ ap version_word same

version_says : (words : List (List ℕ)) (l : Line) → version_line words ≡ Some l → Says (codes "wcspcert") words l
unfolding version_line
version_says [] l e = absurd cc
version_says (word ∷ words) l e =
    let v = bound (version_of word) (λ version. at_end (Version version) words) l e in
    let none = ended (Version v.0) l words v.2 in
    said (codes "wcspcert") (word ∷ words) (Version v.0) l none.1 (ap (λ w. codes "wcspcert" ∷ w ∷ words) (version_named word v.0 v.1) ∙ ap (λ w. codes "wcspcert" ∷ version_word v.0 ∷ w) none.0) tt

numbers_say : (words : List (List ℕ)) (l : Line) → numbers_line words ≡ Some l → Says (codes "network") words l
unfolding numbers_line
numbers_say words l e =
    let n = bound (number_from words) (λ n. number_from n.1 >>= λ e. number_from e.1 >>= λ upper. at_end (Numbers n.0 e.0 upper.0) upper.1) l e in
    let m = bound (number_from n.0.1) (λ e. number_from e.1 >>= λ upper. at_end (Numbers n.0.0 e.0 upper.0) upper.1) l n.2 in
    let u = bound (number_from m.0.1) (λ upper. at_end (Numbers n.0.0 m.0.0 upper.0) upper.1) l m.2 in
    let none = ended (Numbers n.0.0 m.0.0 u.0.0) l u.0.1 u.2 in
    let tn = took_number words n.0 n.1 in
    let tm = took_number n.0.1 m.0 m.1 in
    let tu = took_number m.0.1 u.0 u.1 in
    said (codes "network") words (Numbers n.0.0 m.0.0 u.0.0) l none.1 (three (codes "network") words n.0.1 m.0.1 u.0.1 n.0.0 m.0.0 u.0.0 tn tm tu none.0) (tn.small, tm.small, tu.small)

one_number_says : (key : List ℕ) (line : ℕ → Line) → ((n : ℕ) → n ≤ greatest → IsSpelledLine (line n)) → ((n : ℕ) → words_of (line n) ≡ key ∷ decimal n ∷ []) → (words : List (List ℕ)) (l : Line) → (number_from words >>= λ n. at_end (line n.0) n.1) ≡ Some l → Says key words l
one_number_says key line spelled is words l e =
    let n = bound (number_from words) (λ n. at_end (line n.0) n.1) l e in
    let none = ended (line n.0.0) l n.0.1 n.2 in
    let tn = took_number words n.0 n.1 in
    said key words (line n.0.0) l none.1 (ap (λ w. key ∷ w) (tn.first ∙ ap (λ w. decimal n.0.0 ∷ w) none.0) ∙ sym (is n.0.0)) (spelled n.0.0 tn.small)

lower_says : (words : List (List ℕ)) (l : Line) → lower_line words ≡ Some l → Says (codes "lower") words l
unfolding lower_line
lower_says words l e = one_number_says (codes "lower") Lower (λ n h. h) (λ n. refl) words l e

best_says : (words : List (List ℕ)) (l : Line) → best_line words ≡ Some l → Says (codes "best") words l
unfolding best_line
best_says [] l e = absurd cc
best_says (word ∷ words) l e =
    elim (chose_either (bytes_eq word (codes "none")) (at_end NoBest words) (number_from (word ∷ words) >>= λ cost. at_end (Best cost.0) cost.1) l e) [
      | inl c ↦ let is = (bytes_eq-Decides word (codes "none")).0 c.0 in let none = ended NoBest l words c.1 in said (codes "best") (word ∷ words) NoBest l none.1 (ap (λ w. codes "best" ∷ w ∷ words) is ∙ ap (λ w. codes "best" ∷ codes "none" ∷ w) none.0) tt
      | inr c ↦ one_number_says (codes "best") Best (λ n h. h) (λ n. refl) (word ∷ words) l c.1
    ]

took_numbers : (words : List (List ℕ)) (values : List ℕ) → numbers_in words ≡ Some values → (words ≡ map decimal values) × AllByRecursion (λ a. a ≤ greatest) values × (length values ≡ length words)
unfolding numbers_in
took_numbers [] values e = let none : values ≡ [] = cc in let P : List ℕ → Type 0 = λ v. ([] ≡ map decimal v) × AllByRecursion (λ a. a ≤ greatest) v × (length v ≡ 0) in subst P (sym none) (refl, tt, refl)
took_numbers (word ∷ words) values e =
    let n = bound (numeral word) (λ n. numbers_in words >>= λ rest. Some (n ∷ rest)) values e in
    let r = bound (numbers_in words) (λ rest. Some (n.0 ∷ rest)) values n.2 in
    let same : n.0 ∷ r.0 ≡ values = cc in
    let it = numeral_is word n.0 n.1 in
    let more = took_numbers words r.0 r.1 in
    let P : List ℕ → Type 0 = λ v. (word ∷ words ≡ map decimal v) × AllByRecursion (λ a. a ≤ greatest) v × (length v ≡ length (word ∷ words)) in
    subst P same (ap (λ w. w ∷ words) it.spells ∙ ap (λ w. decimal n.0 ∷ w) more.0, (it.small, more.1), omega (arith, more.2))

values_said : (words : List (List ℕ)) (l : Line) → are_values words ≡ Some l → Says (codes "values") words l
values_said [] l e = absurd cc
values_said (word ∷ words) l e =
    let v = bound (numbers_in (word ∷ words)) (λ values. Some (Values values)) l e in
    let it = took_numbers (word ∷ words) v.0 v.1 in
    let same : Values v.0 ≡ l = cc in
    said (codes "values") (word ∷ words) (Values v.0) l same (ap (λ w. codes "values" ∷ w) it.0) (omega (arith, it.2), it.1)

end_says : (key : List ℕ) (line : Line) → words_of line ≡ key ∷ [] → IsSpelledLine line → (words : List (List ℕ)) (l : Line) → at_end line words ≡ Some l → Says key words l
end_says key line is spelled words l e = let none = ended line l words e in said key words line l none.1 (ap (λ w. key ∷ w) none.0 ∙ sym is) spelled

project_says : (words : List (List ℕ)) (l : Line) → project_line words ≡ Some l → Says (codes "p") words l
unfolding project_line
project_says words l e =
    let f = bound (number_from words) (λ f. number_from f.1 >>= λ i. number_from i.1 >>= λ a. amount_from a.1 >>= λ m. at_end (Node (Makes (Project f.0 i.0 a.0 m.0))) m.1) l e in
    let i = bound (number_from f.0.1) (λ i. number_from i.1 >>= λ a. amount_from a.1 >>= λ m. at_end (Node (Makes (Project f.0.0 i.0 a.0 m.0))) m.1) l f.2 in
    let a = bound (number_from i.0.1) (λ a. amount_from a.1 >>= λ m. at_end (Node (Makes (Project f.0.0 i.0.0 a.0 m.0))) m.1) l i.2 in
    let m = bound (amount_from a.0.1) (λ m. at_end (Node (Makes (Project f.0.0 i.0.0 a.0.0 m.0))) m.1) l a.2 in
    let none = ended (Node (Makes (Project f.0.0 i.0.0 a.0.0 m.0.0))) l m.0.1 m.2 in
    let tf = took_number words f.0 f.1 in
    let ti = took_number f.0.1 i.0 i.1 in
    let ta = took_number i.0.1 a.0 a.1 in
    let tm = took_amount a.0.1 m.0 m.1 in
    said (codes "p") words (Node (Makes (Project f.0.0 i.0.0 a.0.0 m.0.0))) l none.1 (four (codes "p") words f.0.1 i.0.1 a.0.1 m.0.1 f.0.0 i.0.0 a.0.0 m.0.0 tf ti ta tm.0 none.0) (tf.small, ti.small, ta.small, tm.1, tm.0.small)

extend_says : (words : List (List ℕ)) (l : Line) → extend_line words ≡ Some l → Says (codes "e") words l
unfolding extend_line
extend_says words l e =
    let f = bound (number_from words) (λ f. number_from f.1 >>= λ i. number_from i.1 >>= λ a. amount_from a.1 >>= λ m. at_end (Node (Makes (Extend f.0 i.0 a.0 m.0))) m.1) l e in
    let i = bound (number_from f.0.1) (λ i. number_from i.1 >>= λ a. amount_from a.1 >>= λ m. at_end (Node (Makes (Extend f.0.0 i.0 a.0 m.0))) m.1) l f.2 in
    let a = bound (number_from i.0.1) (λ a. amount_from a.1 >>= λ m. at_end (Node (Makes (Extend f.0.0 i.0.0 a.0 m.0))) m.1) l i.2 in
    let m = bound (amount_from a.0.1) (λ m. at_end (Node (Makes (Extend f.0.0 i.0.0 a.0.0 m.0))) m.1) l a.2 in
    let none = ended (Node (Makes (Extend f.0.0 i.0.0 a.0.0 m.0.0))) l m.0.1 m.2 in
    let tf = took_number words f.0 f.1 in
    let ti = took_number f.0.1 i.0 i.1 in
    let ta = took_number i.0.1 a.0 a.1 in
    let tm = took_amount a.0.1 m.0 m.1 in
    said (codes "e") words (Node (Makes (Extend f.0.0 i.0.0 a.0.0 m.0.0))) l none.1 (four (codes "e") words f.0.1 i.0.1 a.0.1 m.0.1 f.0.0 i.0.0 a.0.0 m.0.0 tf ti ta tm.0 none.0) (tf.small, ti.small, ta.small, tm.1, tm.0.small)

lift_says : (words : List (List ℕ)) (l : Line) → lift_line words ≡ Some l → Says (codes "u") words l
unfolding lift_line
lift_says words l e =
    let x = bound (number_from words) (λ x. amount_from x.1 >>= λ m. at_end (Node (Makes (Lift x.0 m.0))) m.1) l e in
    let m = bound (amount_from x.0.1) (λ m. at_end (Node (Makes (Lift x.0.0 m.0))) m.1) l x.2 in
    let none = ended (Node (Makes (Lift x.0.0 m.0.0))) l m.0.1 m.2 in
    let tx = took_number words x.0 x.1 in
    let tm = took_amount x.0.1 m.0 m.1 in
    said (codes "u") words (Node (Makes (Lift x.0.0 m.0.0))) l none.1 (two (codes "u") words x.0.1 m.0.1 x.0.0 m.0.0 tx tm.0 none.0) (tx.small, tm.1, tm.0.small)

two_numbers_say : (key : List ℕ) (line : ℕ → ℕ → Line) → ((x a : ℕ) → x ≤ greatest → a ≤ greatest → IsSpelledLine (line x a)) → ((x a : ℕ) → words_of (line x a) ≡ key ∷ decimal x ∷ decimal a ∷ [])
    → (words : List (List ℕ)) (l : Line) → (number_from words >>= λ x. number_from x.1 >>= λ a. at_end (line x.0 a.0) a.1) ≡ Some l → Says key words l
two_numbers_say key line spelled is words l e =
    let x = bound (number_from words) (λ x. number_from x.1 >>= λ a. at_end (line x.0 a.0) a.1) l e in
    let a = bound (number_from x.0.1) (λ a. at_end (line x.0.0 a.0) a.1) l x.2 in
    let none = ended (line x.0.0 a.0.0) l a.0.1 a.2 in
    let tx = took_number words x.0 x.1 in
    let ta = took_number x.0.1 a.0 a.1 in
    said key words (line x.0.0 a.0.0) l none.1 (two key words x.0.1 a.0.1 x.0.0 a.0.0 tx ta none.0 ∙ sym (is x.0.0 a.0.0)) (spelled x.0.0 a.0.0 tx.small ta.small)

value_says : (words : List (List ℕ)) (l : Line) → value_line words ≡ Some l → Says (codes "v") words l
unfolding value_line
value_says words l e = two_numbers_say (codes "v") (λ x a. Node (Makes (CutValue x a))) (λ x a h g. (h, g)) (λ x a. refl) words l e

tuple_says : (words : List (List ℕ)) (l : Line) → tuple_line words ≡ Some l → Says (codes "t") words l
unfolding tuple_line
tuple_says words l e = two_numbers_say (codes "t") (λ f c. Node (Makes (CutTuple f c))) (λ x a h g. (h, g)) (λ x a. refl) words l e

split_says : (words : List (List ℕ)) (l : Line) → split_line words ≡ Some l → Says (codes "split") words l
unfolding split_line
split_says words l e = two_numbers_say (codes "split") (λ x a. Node (Splits (Is x a))) (λ x a h g. (h, g)) (λ x a. refl) words l e

part_says : (words : List (List ℕ)) (l : Line) → part_line words ≡ Some l → Says (codes "part") words l
unfolding part_line
part_says words l e = two_numbers_say (codes "part") (λ x v. Node (Splits (Most x v))) (λ x v h g. (h, g)) (λ x v. refl) words l e

-- by the first word
keyed : (word key : List ℕ) (words : List (List ℕ)) (l : Line) → bytes_eq word key ≡ true → Says key words l → Says word words l
keyed word key words l e s = let P : List ℕ → Type 0 = λ w. Says w words l in subst P (sym ((bytes_eq-Decides word key).0 e)) s

by_key : (key word : List ℕ) (words : List (List ℕ)) (l : Line) (mine other : Option Line) → (mine ≡ Some l → Says key words l) → (other ≡ Some l → Says word words l) → (if bytes_eq word key then mine else other) ≡ Some l → Says word words l
by_key key word words l mine other if_mine if_other e = elim (chose_either (bytes_eq word key) mine other l e) [ inl c ↦ keyed word key words l c.0 (if_mine c.1) | inr c ↦ if_other c.1 ]

no_line : (word : List ℕ) (words : List (List ℕ)) (l : Line) → None ≡ Some l → Says word words l
no_line word words l e = absurd cc

node_says : (word : List ℕ) (words : List (List ℕ)) (l : Line) → node_line word words ≡ Some l → Says word words l
unfolding node_line
node_says word words l = by_key (codes "p") word words l (project_line words) (if bytes_eq word (codes "e") then extend_line words else (if bytes_eq word (codes "u") then lift_line words else (if bytes_eq word (codes "v") then value_line words else (if bytes_eq word (codes "t") then tuple_line words else (if bytes_eq word (codes "open") then at_end (Node LeavesOpen) words else (if bytes_eq word (codes "closed") then at_end (Node Closes) words else (if bytes_eq word (codes "split") then split_line words else (if bytes_eq word (codes "part") then part_line words else (None))))))))) (project_says words l) (by_key (codes "e") word words l (extend_line words) (if bytes_eq word (codes "u") then lift_line words else (if bytes_eq word (codes "v") then value_line words else (if bytes_eq word (codes "t") then tuple_line words else (if bytes_eq word (codes "open") then at_end (Node LeavesOpen) words else (if bytes_eq word (codes "closed") then at_end (Node Closes) words else (if bytes_eq word (codes "split") then split_line words else (if bytes_eq word (codes "part") then part_line words else (None)))))))) (extend_says words l) (by_key (codes "u") word words l (lift_line words) (if bytes_eq word (codes "v") then value_line words else (if bytes_eq word (codes "t") then tuple_line words else (if bytes_eq word (codes "open") then at_end (Node LeavesOpen) words else (if bytes_eq word (codes "closed") then at_end (Node Closes) words else (if bytes_eq word (codes "split") then split_line words else (if bytes_eq word (codes "part") then part_line words else (None))))))) (lift_says words l) (by_key (codes "v") word words l (value_line words) (if bytes_eq word (codes "t") then tuple_line words else (if bytes_eq word (codes "open") then at_end (Node LeavesOpen) words else (if bytes_eq word (codes "closed") then at_end (Node Closes) words else (if bytes_eq word (codes "split") then split_line words else (if bytes_eq word (codes "part") then part_line words else (None)))))) (value_says words l) (by_key (codes "t") word words l (tuple_line words) (if bytes_eq word (codes "open") then at_end (Node LeavesOpen) words else (if bytes_eq word (codes "closed") then at_end (Node Closes) words else (if bytes_eq word (codes "split") then split_line words else (if bytes_eq word (codes "part") then part_line words else (None))))) (tuple_says words l) (by_key (codes "open") word words l (at_end (Node LeavesOpen) words) (if bytes_eq word (codes "closed") then at_end (Node Closes) words else (if bytes_eq word (codes "split") then split_line words else (if bytes_eq word (codes "part") then part_line words else (None)))) (end_says (codes "open") (Node LeavesOpen) refl tt words l) (by_key (codes "closed") word words l (at_end (Node Closes) words) (if bytes_eq word (codes "split") then split_line words else (if bytes_eq word (codes "part") then part_line words else (None))) (end_says (codes "closed") (Node Closes) refl tt words l) (by_key (codes "split") word words l (split_line words) (if bytes_eq word (codes "part") then part_line words else (None)) (split_says words l) (by_key (codes "part") word words l (part_line words) (None) (part_says words l) (no_line word words l)))))))))

item_line_says : (word : List ℕ) (words : List (List ℕ)) (l : Line) → item_line word words ≡ Some l → Says word words l
unfolding item_line
item_line_says word words l = by_key (codes "wcspcert") word words l (version_line words) (if bytes_eq word (codes "network") then numbers_line words else (if bytes_eq word (codes "lower") then lower_line words else (if bytes_eq word (codes "best") then best_line words else (if bytes_eq word (codes "tree") then at_end Root words else (if bytes_eq word (codes "end") then at_end End words else (node_line word words)))))) (version_says words l) (by_key (codes "network") word words l (numbers_line words) (if bytes_eq word (codes "lower") then lower_line words else (if bytes_eq word (codes "best") then best_line words else (if bytes_eq word (codes "tree") then at_end Root words else (if bytes_eq word (codes "end") then at_end End words else (node_line word words))))) (numbers_say words l) (by_key (codes "lower") word words l (lower_line words) (if bytes_eq word (codes "best") then best_line words else (if bytes_eq word (codes "tree") then at_end Root words else (if bytes_eq word (codes "end") then at_end End words else (node_line word words)))) (lower_says words l) (by_key (codes "best") word words l (best_line words) (if bytes_eq word (codes "tree") then at_end Root words else (if bytes_eq word (codes "end") then at_end End words else (node_line word words))) (best_says words l) (by_key (codes "tree") word words l (at_end Root words) (if bytes_eq word (codes "end") then at_end End words else (node_line word words)) (end_says (codes "tree") Root refl tt words l) (by_key (codes "end") word words l (at_end End words) (node_line word words) (end_says (codes "end") End refl tt words l) (node_says word words l))))))

line_says : (word : List ℕ) (words : List (List ℕ)) (l : Line) → line_by word words ≡ Some l → Says word words l
unfolding line_by
line_says word words l = by_key (codes "values") word words l (are_values words) (item_line word words) (values_said words l) (item_line_says word words l)

pub record IsLineOf (words : List (List ℕ)) (l : Line) : Type 0 where
  pub its : words ≡ words_of l
  pub spelled : IsSpelledLine l

pub said_by : (words : List (List ℕ)) (l : Line) → line_of words ≡ Some l → IsLineOf words l
unfolding line_of
said_by [] l e = absurd cc
said_by (word ∷ words) l e = let s = line_says word words l e in record { its = s.its; spelled = s.spelled }
