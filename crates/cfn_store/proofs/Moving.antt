-- What a move and a lift make of the sums of a history.
use Rattle.std.proofs.Common.{◌≡◌, ℕ, ◌+◌, ◌-◌, ◌%◌, ◌<◌, ◌≤◌, ◌^◌, Bool, true, false, ◌&&◌, List, ◌∷◌, length, set, refl, sym, ap, subst, ◌∙◌, inl, inr, arith, get_or-set_same, get_or-set_other}
use Rattle.std.proofs.lemmas.Int.{ints}
use Rattle.std.proofs.lemmas.List.{length-set}
use Rattle.std.proofs.lemmas.Bool.{cases_eq}
use Rattle.cfn_model.proofs.CallerLemmas.{eqb_same, eqb_other}
use Rattle.std.specs.Prelude.{ℤ, pos, neg_ℤ, ◌+ℤ◌, ◌==◌, slice_index}
use Rattle.cfn_model.specs.declared.step.Step.TheVariants.{Project, Extend, Lift}
use Rattle.cfn_model.specs.declared.step.Event.{Event}
use Rattle.cfn_model.specs.declared.step.Event.TheVariants.{Did}
use Rattle.cfn_model.specs.Network.{Network, IsNetwork, dims_at, variable_at, scope_at, arity}
use Rattle.cfn_model.specs.Sums.{when, unary, unary_by, lifted}
use Rattle.cfn_model.specs.Steps.{IsValue, IsPlace}
use Rattle.cfn_net.proofs.CallerLemmas.{length-dims, get_or-dims}
use Rattle.cfn_rows.specs.Jagged.{row_at}
use Rattle.cfn_store.specs.declared.sums.Sums.{Sums}
use Rattle.cfn_scan.specs.Wrapped.{StandsFor}
use Rattle.cfn_scan.specs.Shifts.{shift, shift_by, offset}
use Rattle.cfn_store.specs.Sums.{has_more, has_less, given_word, lifted_word, shift_word, HasShape, IsSums, Moves, Lifts}
use Rattle.cfn_scan.proofs.CallerLemmas.{exchange, itself, plus_stands, less_stands, offset_below, offset_apart}
use Rattle.cfn_store.proofs.Debts.{when_pair}
use Rattle.cfn_store.proofs.Words.{more_here, less_here, word_stays, rows_length, row_length}

-- the place of a value in a function's row
abbrev slot : Network → ℕ → ℕ → ℕ → ℕ
slot P f i a = offset (dims_at P f) i + a

-- a place's value is one of its variable
pub value_there : (P : Network) (f i a : ℕ) → IsNetwork P → IsPlace P f i a → IsValue P (variable_at P f i) a
value_there P f i a net place = record {
  variable = (net.functions f place.function).variables i place.place;
  value = let v = place.value in let d = get_or-dims P.sizes (scope_at P f) i place.place in omega (arith, v, d);
}

pub slot_below : (P : Network) (s : Sums) (f i a : ℕ) → HasShape P s → IsPlace P f i a → slot P f i a < length (row_at s.shifts f)
slot_below P s f i a shape place =
    let l = length-dims P.sizes (scope_at P f) in
    let b = offset_below (dims_at P f) i a (omega (arith, place.place, l)) place.value in
    omega (arith, b, shape.shifts_row f place.function, ap (offset (dims_at P f)) l)

slot_apart : (P : Network) (f i a g j b : ℕ) → IsPlace P f i a → IsPlace P g j b → f ≡ g → slot P f i a ≡ slot P g j b → (i ≡ j) × (b ≡ a)
slot_apart P f i a g j b place other same e =
    let back = sym same in
    let j_place : j < arity P f = subst (λ n. j < arity P n) back other.place in
    let b_value : b < slice_index (dims_at P f) j = subst (λ n. b < slice_index (dims_at P n) j) back other.value in
    let e_here : slot P f i a ≡ slot P f j b = e ∙ ap (λ n. slot P n j b) back in
    let l = length-dims P.sizes (scope_at P f) in
    let r = offset_apart (dims_at P f) i j a b (omega (arith, place.place, l)) (omega (arith, j_place, l)) place.value b_value e_here in
    (r.0, sym r.1)

-- an amount that stands under a test of three equalities
when_three : (f g i j b a : ℕ) (z : ℤ) (Q : ℤ → Type 0) → (f ≡ g → i ≡ j → b ≡ a → Q z) → ((f ≡ g → i ≡ j → b ≡ a → ⊥) → Q (pos 0)) → Q (when ((f == g) && ((i == j) && (b == a))) z)
when_three f g i j b a z Q all none = elim (cases_eq f g) [
  | inl e ↦ subst Q (sym (ap (λ t. when (t && ((i == j) && (b == a))) z) (eqb_same f g e))) (when_pair i j b a z Q (λ d c. all e d c) (λ apart. none (λ u v w. apart v w)))
  | inr e ↦ subst Q (sym (ap (λ t. when (t && ((i == j) && (b == a))) z) (eqb_other f g e))) (none (λ u v w. e u))
]

-- the sums with an amount given, or taken
abbrev pub given_to : Network → Sums → ℕ → ℕ → ℕ → ℕ → Sums
given_to P s f i a m = record s { given = has_more s.given (variable_at P f i) a m; shifts = has_more s.shifts f (slot P f i a) m }

abbrev pub taken_from : Network → Sums → ℕ → ℕ → ℕ → ℕ → Sums
taken_from P s f i a m = record s { given = has_less s.given (variable_at P f i) a m; shifts = has_less s.shifts f (slot P f i a) m }

pub gives : (P : Network) (s : Sums) (f i a m : ℕ) → HasShape P s → IsPlace P f i a → IsValue P (variable_at P f i) a → Moves P f i a (pos m) s (given_to P s f i a m)
gives P s f i a m shape place value =
    let x = variable_at P f i in
    let there : x < length s.given = omega (arith, value.variable, shape.given) in
    let within : a < length (row_at s.given x) = omega (arith, value.value, shape.given_row x value.variable) in
    let function : f < length s.shifts = omega (arith, place.function, shape.shifts) in
    let slotted = slot_below P s f i a shape place in
    record {
      shape = record {
        lifted = shape.lifted;
        given = rows_length s.given x a ((slice_index (row_at s.given x) a + m) % 2 ^ 64) ∙ shape.given;
        given_row = λ y l. row_length s.given x a ((slice_index (row_at s.given x) a + m) % 2 ^ 64) y there ∙ shape.given_row y l;
        shifts = rows_length s.shifts f (slot P f i a) ((slice_index (row_at s.shifts f) (slot P f i a) + m) % 2 ^ 64) ∙ shape.shifts;
        shifts_row = λ g l. row_length s.shifts f (slot P f i a) ((slice_index (row_at s.shifts f) (slot P f i a) + m) % 2 ^ 64) g function ∙ shape.shifts_row g l;
      };
      floor = refl;
      lifted = refl;
      given = λ y b z there_b stands. when_pair x y a b (pos m) (λ t. StandsFor (given_word (given_to P s f i a m) y b) (t +ℤ z))
          (λ e d. subst (λ n. StandsFor (given_word (given_to P s f i a m) n b) ((pos m) +ℤ z)) e (subst (λ n. StandsFor (given_word (given_to P s f i a m) x n) ((pos m) +ℤ z)) d
          (more_here s.given x a m z there within (subst (λ n. StandsFor (given_word s x n) z) (sym d) (subst (λ n. StandsFor (given_word s n b) z) (sym e) stands)))))
          (λ apart. word_stays s.given x a ((slice_index (row_at s.given x) a + m) % 2 ^ 64) y b z there apart stands);
      shift = λ g j b z other stands. when_three f g i j b a (pos m) (λ t. StandsFor (shift_word P (given_to P s f i a m) g j b) (t +ℤ z))
          (λ e d c. (let same : slot P f i a ≡ slot P g j b = ap (λ n. offset (dims_at P n) i + a) e ∙ ap (λ n. offset (dims_at P g) n + a) d ∙ ap (λ n. offset (dims_at P g) j + n) (sym c) in
          subst (λ n. StandsFor (slice_index (row_at (given_to P s f i a m).shifts n) (slot P g j b)) ((pos m) +ℤ z)) e (subst (λ n. StandsFor (slice_index (row_at (given_to P s f i a m).shifts f) n) ((pos m) +ℤ z)) same
          (more_here s.shifts f (slot P f i a) m z function slotted (subst (λ n. StandsFor (slice_index (row_at s.shifts f) n) z) (sym same) (subst (λ n. StandsFor (slice_index (row_at s.shifts n) (slot P g j b)) z) (sym e) stands))))))
          (λ apart. word_stays s.shifts f (slot P f i a) ((slice_index (row_at s.shifts f) (slot P f i a) + m) % 2 ^ 64) g (slot P g j b) z function (λ e d. (let r = slot_apart P f i a g j b place other e d in apart e r.0 r.1)) stands);
    }

pub takes : (P : Network) (s : Sums) (f i a m : ℕ) → HasShape P s → IsPlace P f i a → IsValue P (variable_at P f i) a → m < 2 ^ 64 → Moves P f i a (neg_ℤ (pos m)) s (taken_from P s f i a m)
takes P s f i a m shape place value small =
    let x = variable_at P f i in
    let there : x < length s.given = omega (arith, value.variable, shape.given) in
    let within : a < length (row_at s.given x) = omega (arith, value.value, shape.given_row x value.variable) in
    let function : f < length s.shifts = omega (arith, place.function, shape.shifts) in
    let slotted = slot_below P s f i a shape place in
    record {
      shape = record {
        lifted = shape.lifted;
        given = rows_length s.given x a ((slice_index (row_at s.given x) a + (2 ^ 64 - m)) % 2 ^ 64) ∙ shape.given;
        given_row = λ y l. row_length s.given x a ((slice_index (row_at s.given x) a + (2 ^ 64 - m)) % 2 ^ 64) y there ∙ shape.given_row y l;
        shifts = rows_length s.shifts f (slot P f i a) ((slice_index (row_at s.shifts f) (slot P f i a) + (2 ^ 64 - m)) % 2 ^ 64) ∙ shape.shifts;
        shifts_row = λ g l. row_length s.shifts f (slot P f i a) ((slice_index (row_at s.shifts f) (slot P f i a) + (2 ^ 64 - m)) % 2 ^ 64) g function ∙ shape.shifts_row g l;
      };
      floor = refl;
      lifted = refl;
      given = λ y b z there_b stands. when_pair x y a b (neg_ℤ (pos m)) (λ t. StandsFor (given_word (taken_from P s f i a m) y b) (t +ℤ z))
          (λ e d. subst (λ n. StandsFor (given_word (taken_from P s f i a m) n b) ((neg_ℤ (pos m)) +ℤ z)) e (subst (λ n. StandsFor (given_word (taken_from P s f i a m) x n) ((neg_ℤ (pos m)) +ℤ z)) d
          (less_here s.given x a m z there within small (subst (λ n. StandsFor (given_word s x n) z) (sym d) (subst (λ n. StandsFor (given_word s n b) z) (sym e) stands)))))
          (λ apart. word_stays s.given x a ((slice_index (row_at s.given x) a + (2 ^ 64 - m)) % 2 ^ 64) y b z there apart stands);
      shift = λ g j b z other stands. when_three f g i j b a (neg_ℤ (pos m)) (λ t. StandsFor (shift_word P (taken_from P s f i a m) g j b) (t +ℤ z))
          (λ e d c. (let same : slot P f i a ≡ slot P g j b = ap (λ n. offset (dims_at P n) i + a) e ∙ ap (λ n. offset (dims_at P g) n + a) d ∙ ap (λ n. offset (dims_at P g) j + n) (sym c) in
          subst (λ n. StandsFor (slice_index (row_at (taken_from P s f i a m).shifts n) (slot P g j b)) ((neg_ℤ (pos m)) +ℤ z)) e (subst (λ n. StandsFor (slice_index (row_at (taken_from P s f i a m).shifts f) n) ((neg_ℤ (pos m)) +ℤ z)) same
          (less_here s.shifts f (slot P f i a) m z function slotted small (subst (λ n. StandsFor (slice_index (row_at s.shifts f) n) z) (sym same) (subst (λ n. StandsFor (slice_index (row_at s.shifts n) (slot P g j b)) z) (sym e) stands))))))
          (λ apart. word_stays s.shifts f (slot P f i a) ((slice_index (row_at s.shifts f) (slot P f i a) + (2 ^ 64 - m)) % 2 ^ 64) g (slot P g j b) z function (λ e d. (let r = slot_apart P f i a g j b place other e d in apart e r.0 r.1)) stands);
    }

-- a move with the sums of a history gives those of one event more, or of one less
cancels : (test : Bool) (z y : ℤ) → (z +ℤ y) ≡ pos 0 → (when test z +ℤ when test y) ≡ pos 0
cancels true z y e = e
cancels false z y e = omega (arith, ints)

after_move : (P : Network) (f i a : ℕ) (z : ℤ) (history : List Event) (event : Event) (old new : Sums) → ((x b : ℕ) → unary_by P event x b ≡ when ((variable_at P f i == x) && (a == b)) z) → ((g j b : ℕ) → shift_by event g j b ≡ when ((f == g) && ((i == j) && (b == a))) z) → lifted event ≡ 0 → Moves P f i a z old new → IsSums P history old → IsSums P (event ∷ history) new
after_move P f i a z history event old new by_unary by_shift no_lift moves sums = record {
  shape = moves.shape;
  floor = let l = moves.floor in let s = sums.floor in omega (arith, l, s, no_lift);
  unary = λ x b value. (let l = ap (λ v. slice_index v.items x) moves.lifted in
      let u = by_unary x b in
      let t = when ((variable_at P f i == x) && (a == b)) z in
      let same : (t +ℤ (unary P history x b +ℤ pos (lifted_word old x))) ≡ ((unary_by P event x b +ℤ unary P history x b) +ℤ pos (lifted_word new x)) = omega (arith, ints, l, u) in
      subst (StandsFor (given_word new x b)) same (moves.given x b (unary P history x b +ℤ pos (lifted_word old x)) value (sums.unary x b value)));
  shift = λ g j b place. subst (λ t. StandsFor (shift_word P new g j b) (t +ℤ shift history g j b)) (sym (by_shift g j b)) (moves.shift g j b (shift history g j b) place (sums.shift g j b place));
}

before_move : (P : Network) (f i a : ℕ) (z y : ℤ) (history : List Event) (event : Event) (old new : Sums) → (z +ℤ y) ≡ pos 0 → ((x b : ℕ) → unary_by P event x b ≡ when ((variable_at P f i == x) && (a == b)) y) → ((g j b : ℕ) → shift_by event g j b ≡ when ((f == g) && ((i == j) && (b == a))) y) → lifted event ≡ 0 → Moves P f i a z old new → IsSums P (event ∷ history) old → IsSums P history new
before_move P f i a z y history event old new against by_unary by_shift no_lift moves sums = record {
  shape = moves.shape;
  floor = let l = moves.floor in let s = sums.floor in omega (arith, l, s, no_lift);
  unary = λ x b value. (let l = ap (λ v. slice_index v.items x) moves.lifted in
      let u = by_unary x b in
      let c = cancels ((variable_at P f i == x) && (a == b)) z y against in
      let same : (when ((variable_at P f i == x) && (a == b)) z +ℤ (unary P (event ∷ history) x b +ℤ pos (lifted_word old x))) ≡ (unary P history x b +ℤ pos (lifted_word new x)) = omega (arith, ints, l, u, c) in
      subst (StandsFor (given_word new x b)) same (moves.given x b (unary P (event ∷ history) x b +ℤ pos (lifted_word old x)) value (sums.unary x b value)));
  shift = λ g j b place. (let u = by_shift g j b in
      let c = cancels ((f == g) && ((i == j) && (b == a))) z y against in
      let same : (when ((f == g) && ((i == j) && (b == a))) z +ℤ shift (event ∷ history) g j b) ≡ shift history g j b = omega (arith, ints, u, c) in
      subst (StandsFor (shift_word P new g j b)) same (moves.shift g j b (shift (event ∷ history) g j b) place (sums.shift g j b place)));
}

pub after_project : (P : Network) (f i a m : ℕ) (history : List Event) (old new : Sums) → Moves P f i a (pos m) old new → IsSums P history old → IsSums P (Did (Project f i a m) ∷ history) new
after_project P f i a m history old new moves sums = after_move P f i a (pos m) history (Did (Project f i a m)) old new (λ x b. refl) (λ g j b. refl) refl moves sums

pub after_extend : (P : Network) (f i a m : ℕ) (history : List Event) (old new : Sums) → Moves P f i a (neg_ℤ (pos m)) old new → IsSums P history old → IsSums P (Did (Extend f i a m) ∷ history) new
after_extend P f i a m history old new moves sums = after_move P f i a (neg_ℤ (pos m)) history (Did (Extend f i a m)) old new (λ x b. refl) (λ g j b. refl) refl moves sums

pub before_project : (P : Network) (f i a m : ℕ) (history : List Event) (old new : Sums) → Moves P f i a (neg_ℤ (pos m)) old new → IsSums P (Did (Project f i a m) ∷ history) old → IsSums P history new
before_project P f i a m history old new moves sums = before_move P f i a (neg_ℤ (pos m)) (pos m) history (Did (Project f i a m)) old new (omega (arith, ints)) (λ x b. refl) (λ g j b. refl) refl moves sums

pub before_extend : (P : Network) (f i a m : ℕ) (history : List Event) (old new : Sums) → Moves P f i a (pos m) old new → IsSums P (Did (Extend f i a m) ∷ history) old → IsSums P history new
before_extend P f i a m history old new moves sums = before_move P f i a (pos m) (neg_ℤ (pos m)) history (Did (Extend f i a m)) old new (omega (arith, ints)) (λ x b. refl) (λ g j b. refl) refl moves sums

-- an amount that stands under a test of one equality
when_apart : (x y : ℕ) (z : ℤ) (Q : ℤ → Type 0) → (x ≡ y → Q z) → ((x ≡ y → ⊥) → Q (pos 0)) → Q (when (x == y) z)
when_apart x y z Q same none = elim (cases_eq x y) [
  | inl e ↦ subst Q (sym (ap (λ t. when t z) (eqb_same x y e))) (same e)
  | inr e ↦ subst Q (sym (ap (λ t. when t z) (eqb_other x y e))) (none e)
]

written_here : (words : List ℕ) (x y w : ℕ) → x < length words → x ≡ y → slice_index (set words x w) y ≡ w
written_here words x y w l e = ap (slice_index (set words x w)) (sym e) ∙ get_or-set_same words x w 0 l

-- lifts
pub after_lift : (P : Network) (x m : ℕ) (history : List Event) (old new : Sums) → Lifts P x (pos m) old new → IsSums P history old → IsSums P (Did (Lift x m) ∷ history) new
after_lift P x m history old new lifts sums = record {
  shape = lifts.shape;
  floor = let l = lifts.floor in let s = sums.floor in omega (arith, ints, l, s);
  unary = λ y b value. subst (λ w. StandsFor w (unary P (Did (Lift x m) ∷ history) y b +ℤ pos (lifted_word new y))) (sym (ap (λ rows. slice_index (row_at rows y) b) lifts.given))
      (exchange (given_word old y b) (lifted_word old y) (lifted_word new y) (unary P history y b) (when (x == y) (pos m)) (when (x == y) (neg_ℤ (pos m))) (cancels (x == y) (pos m) (neg_ℤ (pos m)) (omega (arith, ints))) (sums.unary y b value) (lifts.lifted y (pos (lifted_word old y)) value.variable (itself (lifted_word old y))));
  shift = λ g j b place. (let e = ap (λ rows. slice_index (row_at rows g) (slot P g j b)) lifts.shifts in
      let same : shift history g j b ≡ shift (Did (Lift x m) ∷ history) g j b = omega (arith, ints) in
      subst (λ w. StandsFor w (shift (Did (Lift x m) ∷ history) g j b)) (sym e) (subst (StandsFor (shift_word P old g j b)) same (sums.shift g j b place)));
}

pub before_lift : (P : Network) (x m : ℕ) (history : List Event) (old new : Sums) → Lifts P x (neg_ℤ (pos m)) old new → IsSums P (Did (Lift x m) ∷ history) old → IsSums P history new
before_lift P x m history old new lifts sums = record {
  shape = lifts.shape;
  floor = let l = lifts.floor in let s = sums.floor in omega (arith, ints, l, s);
  unary = λ y b value. (let c = cancels (x == y) (pos m) (neg_ℤ (pos m)) (omega (arith, ints)) in
      let same : ((when (x == y) (pos m) +ℤ unary P (Did (Lift x m) ∷ history) y b) +ℤ pos (lifted_word new y)) ≡ (unary P history y b +ℤ pos (lifted_word new y)) = omega (arith, ints, c) in
      subst (λ w. StandsFor w (unary P history y b +ℤ pos (lifted_word new y))) (sym (ap (λ rows. slice_index (row_at rows y) b) lifts.given))
      (subst (StandsFor (given_word old y b)) same
      (exchange (given_word old y b) (lifted_word old y) (lifted_word new y) (unary P (Did (Lift x m) ∷ history) y b) (when (x == y) (neg_ℤ (pos m))) (when (x == y) (pos m)) (omega (arith, ints, c)) (sums.unary y b value) (lifts.lifted y (pos (lifted_word old y)) value.variable (itself (lifted_word old y))))));
  shift = λ g j b place. (let e = ap (λ rows. slice_index (row_at rows g) (slot P g j b)) lifts.shifts in
      let same : shift (Did (Lift x m) ∷ history) g j b ≡ shift history g j b = omega (arith, ints) in
      subst (λ w. StandsFor w (shift history g j b)) (sym e) (subst (StandsFor (shift_word P old g j b)) same (sums.shift g j b place)));
}

-- an event that moves nothing
pub after_still : (P : Network) (history : List Event) (event : Event) (s : Sums) → lifted event ≡ 0 → ((x a : ℕ) → unary_by P event x a ≡ pos 0) → ((f i a : ℕ) → shift_by event f i a ≡ pos 0) → IsSums P history s → IsSums P (event ∷ history) s
after_still P history event s no_lift no_unary no_shift sums = record {
  shape = sums.shape;
  floor = let f = sums.floor in omega (arith, f, no_lift);
  unary = λ x a value. (let u = no_unary x a in
      let same : (unary P history x a +ℤ pos (lifted_word s x)) ≡ (unary P (event ∷ history) x a +ℤ pos (lifted_word s x)) = omega (arith, ints, u) in
      subst (StandsFor (given_word s x a)) same (sums.unary x a value));
  shift = λ f i a place. (let u = no_shift f i a in
      let same : shift history f i a ≡ shift (event ∷ history) f i a = omega (arith, ints, u) in
      subst (StandsFor (shift_word P s f i a)) same (sums.shift f i a place));
}

pub before_still : (P : Network) (history : List Event) (event : Event) (s : Sums) → lifted event ≡ 0 → ((x a : ℕ) → unary_by P event x a ≡ pos 0) → ((f i a : ℕ) → shift_by event f i a ≡ pos 0) → IsSums P (event ∷ history) s → IsSums P history s
before_still P history event s no_lift no_unary no_shift sums = record {
  shape = sums.shape;
  floor = let f = sums.floor in omega (arith, f, no_lift);
  unary = λ x a value. (let u = no_unary x a in
      let same : (unary P (event ∷ history) x a +ℤ pos (lifted_word s x)) ≡ (unary P history x a +ℤ pos (lifted_word s x)) = omega (arith, ints, u) in
      subst (StandsFor (given_word s x a)) same (sums.unary x a value));
  shift = λ f i a place. (let u = no_shift f i a in
      let same : shift (event ∷ history) f i a ≡ shift history f i a = omega (arith, ints, u) in
      subst (StandsFor (shift_word P s f i a)) same (sums.shift f i a place));
}

-- a lift, and one that is taken back, writes one word
lifted_moves : (P : Network) (old new : Sums) (x : ℕ) (z : ℤ) (w : ℕ) → HasShape P old → x < length P.sizes → ((t : ℤ) → StandsFor (lifted_word old x) t → StandsFor w (z +ℤ t)) → pos new.floor ≡ (z +ℤ pos old.floor) → new.given ≡ old.given → new.shifts ≡ old.shifts → new.lifted.items ≡ set old.lifted.items x w → Lifts P x z old new
lifted_moves P old new x z w shape there changes floors givens shift_rows words = record {
  shape = record {
    lifted = ap length words ∙ length-set old.lifted.items x w ∙ shape.lifted;
    given = ap length givens ∙ shape.given;
    given_row = λ y l. ap (λ rows. length (row_at rows y)) givens ∙ shape.given_row y l;
    shifts = ap length shift_rows ∙ shape.shifts;
    shifts_row = λ f l. ap (λ rows. length (row_at rows f)) shift_rows ∙ shape.shifts_row f l;
  };
  floor = floors;
  given = givens;
  shifts = shift_rows;
  lifted = λ y t l stands. when_apart x y z (λ u. StandsFor (lifted_word new y) (u +ℤ t))
      (λ e. subst (λ v. StandsFor v (z +ℤ t)) (sym (ap (λ ws. slice_index ws y) words ∙ written_here old.lifted.items x y w (omega (arith, there, shape.lifted)) e)) (changes t (subst (λ n. StandsFor (lifted_word old n) t) (sym e) stands)))
      (λ apart. (let same : t ≡ (pos 0 +ℤ t) = omega (arith, ints) in
      subst (λ v. StandsFor v (pos 0 +ℤ t)) (sym (ap (λ ws. slice_index ws y) words ∙ get_or-set_other old.lifted.items x y w 0 (λ e. apart (sym e)))) (subst (StandsFor (lifted_word old y)) same stands)));
}

pub lifts_up : (P : Network) (old new : Sums) (x m : ℕ) → HasShape P old → x < length P.sizes → new.floor ≡ old.floor + m → new.given ≡ old.given → new.shifts ≡ old.shifts → new.lifted.items ≡ set old.lifted.items x ((lifted_word old x + m) % 2 ^ 64) → Lifts P x (pos m) old new
lifts_up P old new x m shape there floors givens shift_rows words =
    lifted_moves P old new x (pos m) ((lifted_word old x + m) % 2 ^ 64) shape there
    (λ t stands. (let swap : (t +ℤ pos m) ≡ (pos m +ℤ t) = omega (arith, ints) in subst (StandsFor ((lifted_word old x + m) % 2 ^ 64)) swap (plus_stands (lifted_word old x) m t stands)))
    (omega (arith, ints, floors)) givens shift_rows words

pub lifts_down : (P : Network) (old new : Sums) (x m : ℕ) → HasShape P old → x < length P.sizes → m < 2 ^ 64 → m ≤ old.floor → new.floor ≡ old.floor - m → new.given ≡ old.given → new.shifts ≡ old.shifts → new.lifted.items ≡ set old.lifted.items x ((lifted_word old x + (2 ^ 64 - m)) % 2 ^ 64) → Lifts P x (neg_ℤ (pos m)) old new
lifts_down P old new x m shape there small enough floors givens shift_rows words =
    lifted_moves P old new x (neg_ℤ (pos m)) ((lifted_word old x + (2 ^ 64 - m)) % 2 ^ 64) shape there
    (λ t stands. (let swap : (t +ℤ neg_ℤ (pos m)) ≡ (neg_ℤ (pos m) +ℤ t) = omega (arith, ints) in subst (StandsFor ((lifted_word old x + (2 ^ 64 - m)) % 2 ^ 64)) swap (less_stands (lifted_word old x) m t small stands)))
    (omega (arith, ints, floors, enough)) givens shift_rows words
