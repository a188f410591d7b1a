-- The values of a list of texts, read one after the other.
use Rattle.std.proofs.Common.{◌≡◌, ◌+◌, ◌≤◌, ◌<◌, ◌^◌, ◌++◌, ◌∷◌, ℕ, List, [], Some, None, true, false, zero, suc, refl, sym, ap, arith, length, map, take}
use Rattle.std.proofs.lemmas.Bool.{and_right}
use Rattle.std.proofs.lemmas.List.Elements.{All-nil, All-push}
use Rattle.std.specs.Borrow.{Bor}
use Rattle.std.specs.List.{All, list_all, slice_index_or}
use Rattle.std.proofs.lemmas.List.{map-append, take_more, take_all}
use Rattle.std.proofs.lemmas.List.Folds.{list_all-append}
use Rattle.clap.specs.Words.{Text}
use Rattle.cfn_cli.specs.Arguments.{number_in}
use Rattle.cfn_cli.specs.Request.Costing.{is_value, value_of, values_of}

abbrev pub texts : List (Bor Text) → List Text
texts = map (λ t. t.now)

-- Each text is a value, and the values are these.
pub record Reads (words : List (Bor Text)) (values : List ℕ) : Type 0 where
  pub same : values ≡ map value_of (texts words)
  pub pass : list_all is_value (texts words) ≡ true
  pub within : All (λ v. v < 2 ^ 32) values

pub reads_none : Reads [] []
reads_none = record { same = refl; pass = refl; within = All-nil (λ v. v < 2 ^ 32) }

reads_one : (words : List (Bor Text)) (word : Bor Text) (values : List ℕ) (v : ℕ) → Reads words values
    → Some v ≡ number_in 0 4294967295 word.now → v < 2 ^ 32 → Reads (words ++ word ∷ []) (values ++ v ∷ [])
reads_one words word values v reads is lt =
    let split : texts (words ++ word ∷ []) ≡ texts words ++ word.now ∷ [] = map-append (λ (t : Bor Text). t.now) words (word ∷ []) in
    record {
      same = rw split (rw (map-append value_of (texts words) (word.now ∷ []), ← is) (ap (λ vs. vs ++ v ∷ []) reads.same));
      pass = rw split (rw (list_all-append is_value (texts words) (word.now ∷ []), reads.pass, ← is) refl);
      within = All-push (λ v. v < 2 ^ 32) values v reads.within lt;
    }

pub reads_more : (words : List (Bor Text)) (i : ℕ) (d : Bor Text) (values : List ℕ) (v : ℕ) → i < length words
    → Reads (take i words) values → Some v ≡ number_in 0 4294967295 (slice_index_or words i d).now → v < 2 ^ 32
    → Reads (take (i + 1) words) (values ++ v ∷ [])
reads_more words i d values v lt reads is below =
    rw (take_more words i d lt) (reads_one (take i words) (slice_index_or words i d) values v reads is below)

pub values_none : (words : List (Bor Text)) → length words ≡ 0 → values_of (texts words) ≡ None
unfolding values_of
values_none [] e = refl
values_none (word ∷ words) e = absurd (omega arith)

pub values_read : (words : List (Bor Text)) (i : ℕ) (values : List ℕ) → 0 < length words → length words ≤ i → Reads (take i words) values
    → values_of (texts words) ≡ Some values
unfolding values_of
values_read [] i values some past reads = absurd (omega arith)
values_read (word ∷ words) i values some past reads =
    let all : Reads (word ∷ words) values = rw (take_all i (word ∷ words) past) at reads in
    rw all.pass (ap (λ (vs : List ℕ). Some vs) (sym all.same))

fails_at : (words : List (Bor Text)) (i : ℕ) (d : Bor Text) → i < length words → is_value (slice_index_or words i d).now ≡ false
    → list_all is_value (texts words) ≡ false
fails_at [] i d lt fails = absurd (omega arith)
fails_at (x ∷ xs) zero d lt fails = rw fails refl
fails_at (x ∷ xs) (suc i) d lt fails = and_right _ _ (fails_at xs i d (omega arith) fails)

pub values_refused : (words : List (Bor Text)) (i : ℕ) (d : Bor Text) → i < length words
    → None ≡ number_in 0 4294967295 (slice_index_or words i d).now → values_of (texts words) ≡ None
unfolding values_of
values_refused [] i d lt none = absurd (omega arith)
values_refused (word ∷ words) i d lt none =
    let fails : is_value (slice_index_or (word ∷ words) i d).now ≡ false = rw (← none) refl in
    rw (fails_at (word ∷ words) i d lt fails) refl
