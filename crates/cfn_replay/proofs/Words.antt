-- The lines that are a record's own, a number at a time.
use Rattle.std.proofs.Common.{◌≡◌, ℕ, List, [], ◌∷◌, refl, sym, ap, ◌∙◌}
use Rattle.std.specs.Prelude.{Option, Some, None}
use Rattle.cfn_fault.specs.Decoding.{◌>>=◌, numeral, number_from, numbers_in, at_end, word_from, with_rest}
use Rattle.cfn_record.specs.Lines.{RecordLine, Budget, Take, Give, Back, Sweep}
use Rattle.cfn_record.specs.Decoding.{budget_of, take_of, give_of, back_of, sweep_of, numbers_line, line_said, line_said_by}
use Rattle.cfn_replay.specs.Words.{budget_line, take_line, give_line, back_line, sweep_line, said_by}

-- a value that is made of two that are the same
same_made : {A B : Type 0} (o : Option A) (f g : A → Option B) → ((x : A) → f x ≡ g x) → (o >>= f) ≡ (o >>= g)
same_made None f g same = refl
same_made (Some x) f g same = same x

-- the numbers behind the first one
behind_first : (o : Option (List ℕ)) (n : ℕ) (f : List ℕ → Option RecordLine) → ((o >>= λ rest. Some (n ∷ rest)) >>= f) ≡ (o >>= λ rest. f (n ∷ rest))
behind_first None n f = refl
behind_first (Some rest) n f = refl

first_number : (o : Option ℕ) (words : List (List ℕ)) (f : List ℕ → Option RecordLine) → ((o >>= λ n. numbers_in words >>= λ rest. Some (n ∷ rest)) >>= f) ≡ (with_rest o words >>= λ n. numbers_line (λ ns. f (n.0 ∷ ns)) n.1)
first_number None words f = refl
first_number (Some n) words f = behind_first (numbers_in words) n f

pub peel : (f : List ℕ → Option RecordLine) → f [] ≡ None → (words : List (List ℕ)) → numbers_line f words ≡ (number_from words >>= λ n. numbers_line (λ ns. f (n.0 ∷ ns)) n.1)
unfolding number_from numbers_in
peel f none [] = none
peel f none (word ∷ words) = first_number (numeral word) words f

-- no number more
none_made : (o : Option (List ℕ)) (n : ℕ) (f : List ℕ → Option RecordLine) → ((m : ℕ) (ms : List ℕ) → f (m ∷ ms) ≡ None) → ((o >>= λ rest. Some (n ∷ rest)) >>= f) ≡ None
none_made None n f never = refl
none_made (Some rest) n f never = never n rest

one_too_many : (o : Option ℕ) (words : List (List ℕ)) (f : List ℕ → Option RecordLine) → ((m : ℕ) (ms : List ℕ) → f (m ∷ ms) ≡ None) → ((o >>= λ n. numbers_in words >>= λ rest. Some (n ∷ rest)) >>= f) ≡ None
one_too_many None words f never = refl
one_too_many (Some n) words f never = none_made (numbers_in words) n f never

pub last : (f : List ℕ → Option RecordLine) (l : RecordLine) → f [] ≡ Some l → ((m : ℕ) (ms : List ℕ) → f (m ∷ ms) ≡ None) → (words : List (List ℕ)) → numbers_line f words ≡ at_end l words
unfolding numbers_in
last f l is never [] = is
last f l is never (word ∷ words) = one_too_many (numeral word) words f never

-- each line
budget_is : (words : List (List ℕ)) → numbers_line budget_of words ≡ budget_line words
unfolding budget_line
budget_is words = peel budget_of refl words ∙ same_made (number_from words) _ _ (λ b. last (λ ns. budget_of (b.0 ∷ ns)) (Budget b.0) refl (λ m ms. refl) b.1)

sweep_is : (words : List (List ℕ)) → numbers_line sweep_of words ≡ sweep_line words
unfolding sweep_line
sweep_is words = peel sweep_of refl words ∙ same_made (number_from words) _ _ (λ s. last (λ ns. sweep_of (s.0 ∷ ns)) (Sweep s.0) refl (λ m ms. refl) s.1)

back_is : (words : List (List ℕ)) → numbers_line back_of words ≡ back_line words
unfolding back_line
back_is words =
    peel back_of refl words ∙ same_made (number_from words) _ _ (λ w.
    peel (λ ns. back_of (w.0 ∷ ns)) refl w.1 ∙ same_made (number_from w.1) _ _ (λ l.
    peel (λ ns. back_of (w.0 ∷ l.0 ∷ ns)) refl l.1 ∙ same_made (number_from l.1) _ _ (λ g.
    last (λ ns. back_of (w.0 ∷ l.0 ∷ g.0 ∷ ns)) (Back w.0 l.0 g.0) refl (λ m ms. refl) g.1)))

take_is : (words : List (List ℕ)) → numbers_line take_of words ≡ take_line words
unfolding take_line
take_is words =
    peel take_of refl words ∙ same_made (number_from words) _ _ (λ w.
    peel (λ ns. take_of (w.0 ∷ ns)) refl w.1 ∙ same_made (number_from w.1) _ _ (λ t.
    peel (λ ns. take_of (w.0 ∷ t.0 ∷ ns)) refl t.1 ∙ same_made (number_from t.1) _ _ (λ l.
    peel (λ ns. take_of (w.0 ∷ t.0 ∷ l.0 ∷ ns)) refl l.1 ∙ same_made (number_from l.1) _ _ (λ g.
    last (λ ns. take_of (w.0 ∷ t.0 ∷ l.0 ∷ g.0 ∷ ns)) (Take w.0 t.0 l.0 g.0) refl (λ m ms. refl) g.1))))

give_is : (words : List (List ℕ)) → numbers_line give_of words ≡ give_line words
unfolding give_line
give_is words =
    peel give_of refl words ∙ same_made (number_from words) _ _ (λ w.
    peel (λ ns. give_of (w.0 ∷ ns)) refl w.1 ∙ same_made (number_from w.1) _ _ (λ l.
    peel (λ ns. give_of (w.0 ∷ l.0 ∷ ns)) refl l.1 ∙ same_made (number_from l.1) _ _ (λ g.
    peel (λ ns. give_of (w.0 ∷ l.0 ∷ g.0 ∷ ns)) refl g.1 ∙ same_made (number_from g.1) _ _ (λ t.
    peel (λ ns. give_of (w.0 ∷ l.0 ∷ g.0 ∷ t.0 ∷ ns)) refl t.1 ∙ same_made (number_from t.1) _ _ (λ s.
    last (λ ns. give_of (w.0 ∷ l.0 ∷ g.0 ∷ t.0 ∷ s.0 ∷ ns)) (Give w.0 l.0 g.0 t.0 s.0) refl (λ m ms. refl) s.1)))))

-- the line that is said
pub said_by_is : (word : List ℕ) (words : List (List ℕ)) → said_by word words ≡ line_said_by word words
unfolding said_by line_said_by
said_by_is word words = rw (budget_is words, take_is words, give_is words, back_is words, sweep_is words) refl

pub line_said_from : (words : List (List ℕ)) (word : List ℕ) (rest : List (List ℕ)) → word_from words ≡ Some (word, rest) → line_said words ≡ said_by word rest
unfolding line_said
line_said_from words word rest from = ap (λ o. o >>= λ w. line_said_by w.0 w.1) from ∙ sym (said_by_is word rest)
