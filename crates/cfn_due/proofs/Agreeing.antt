-- Where an event takes values or a tuple, what does not go with it is as it was.
use Rattle.std.proofs.Common.{◌≡◌, ℕ, suc, ◌<◌, inl, inr, List, [], ◌∷◌, length, refl, sym, ap, ◌∙◌, subst, arith}
use Rattle.std.proofs.lemmas.Bool.{and_parts, and_from, cases_eq}
use Rattle.std.proofs.lemmas.Int.{ints}
use Rattle.std.specs.Prelude.{ℤ, pos, ◌+ℤ◌, Bool, false, not, ◌&&◌, ◌||◌, ◌==◌, nat_lt, slice_index, IsTrue}
use Rattle.cfn_model.specs.declared.step.Step.TheVariants.{Project, Extend, Lift, CutValue, CutTuple}
use Rattle.cfn_model.specs.declared.step.Event.{Event}
use Rattle.cfn_model.specs.declared.step.Event.TheVariants.{Did, Took, Refused}
use Rattle.cfn_model.specs.Decisions.{variable_of, keeps}
use Rattle.cfn_model.specs.Network.{Network, arity, scope_at, variable_at, dims_at, entry_at, cell}
use Rattle.cfn_model.specs.Sums.{unary, unary_by, residual, residual_by, removes, cuts, is_live, is_cut, all_live, is_live_tuple}
use Rattle.cfn_model.proofs.CallerLemmas.{eqb_other}
use Rattle.cfn_consistency.specs.Agreement.{AgreeOnValues, AgreeOnUnaries, AgreeOnFunction, AgreeAround, AgreeNear}
use Rattle.cfn_due.specs.Going.{IsOn, GoesBy, GoesArc, GoesFull, GoesExisting}

-- an event that moves no costs
abbrev pub MovesNothing : Event → Type 0
MovesNothing (Did (Project g i a m)) = ⊥
MovesNothing (Did (Extend g i a m)) = ⊥
MovesNothing (Did (Lift x m)) = ⊥
MovesNothing (Did (CutValue x a)) = Unit {0}
MovesNothing (Did (CutTuple g c)) = Unit {0}
MovesNothing (Took d) = Unit {0}
MovesNothing (Refused d) = Unit {0}

pub same_unaries : (P : Network) (event : Event) (x a : ℕ) → MovesNothing event → unary_by P event x a ≡ pos 0
same_unaries P (Did (Project g i b m)) x a still = absurd still
same_unaries P (Did (Extend g i b m)) x a still = absurd still
same_unaries P (Did (Lift y m)) x a still = absurd still
same_unaries P (Did (CutValue y b)) x a still = refl
same_unaries P (Did (CutTuple g c)) x a still = refl
same_unaries P (Took d) x a still = refl
same_unaries P (Refused d) x a still = refl

pub same_costs : (event : Event) (f : ℕ) (tuple : List ℕ) → MovesNothing event → residual_by event f tuple ≡ pos 0
same_costs (Did (Project g i b m)) f tuple still = absurd still
same_costs (Did (Extend g i b m)) f tuple still = absurd still
same_costs (Did (Lift y m)) f tuple still = absurd still
same_costs (Did (CutValue y b)) f tuple still = refl
same_costs (Did (CutTuple g c)) f tuple still = refl
same_costs (Took d) f tuple still = refl
same_costs (Refused d) f tuple still = refl

-- an event takes no value of a variable
abbrev pub SparesValues : Event → ℕ → Type 0
SparesValues event x = (a : ℕ) → removes event x a ≡ false

-- it takes no value of a function's variables, and cuts no tuple of it
record Spares (P : Network) (event : Event) (f : ℕ) : Type 0 where
  pub values : (i : ℕ) → i < arity P f → SparesValues event (variable_at P f i)
  pub tuples : (c : ℕ) → cuts event f c ≡ false

pub live_same : (event : Event) (history : List Event) (x a : ℕ) → removes event x a ≡ false → is_live (event ∷ history) x a ≡ is_live history x a
live_same event history x a e = ap (λ b. not b && is_live history x a) e

pub all_same : (event : Event) (history : List Event) (scope tuple : List ℕ) → ((i : ℕ) → i < length scope → SparesValues event (slice_index scope i)) → all_live (event ∷ history) scope tuple ≡ all_live history scope tuple
all_same event history [] tuple spares = refl
all_same event history (x ∷ scope) [] spares = refl
all_same event history (x ∷ scope) (a ∷ tuple) spares =
    ap (λ b. b && all_live (event ∷ history) scope tuple) (live_same event history x a (spares 0 (omega arith) a))
    ∙ ap (λ b. is_live history x a && b) (all_same event history scope tuple (λ i h. spares (suc i) (omega arith)))

tuple_same : (P : Network) (history : List Event) (event : Event) (f : ℕ) (tuple : List ℕ) → Spares P event f → is_live_tuple P (event ∷ history) f tuple ≡ is_live_tuple P history f tuple
tuple_same P history event f tuple spares =
    let below = nat_lt (entry_at P f tuple) P.upper in
    let c = cell (dims_at P f) tuple in
    ap (λ b. b && below && not (is_cut (event ∷ history) f c)) (all_same event history (scope_at P f) tuple spares.values)
    ∙ ap (λ b. all_live history (scope_at P f) tuple && below && not (b || is_cut history f c)) (spares.tuples c)

plus_none : (z w : ℤ) → z ≡ pos 0 → (z +ℤ w) ≡ w
plus_none z w e = omega (arith, ints, e)

values_agree : (P : Network) (history : List Event) (event : Event) (x : ℕ) → SparesValues event x → AgreeOnValues P (event ∷ history) history x
values_agree P history event x spares a h = live_same event history x a (spares a)

unaries_agree : (P : Network) (history : List Event) (event : Event) (x : ℕ) → MovesNothing event → AgreeOnUnaries P (event ∷ history) history x
unaries_agree P history event x still a h live = plus_none (unary_by P event x a) (unary P history x a) (same_unaries P event x a still)

function_agrees : (P : Network) (history : List Event) (event : Event) (f : ℕ) → MovesNothing event → Spares P event f → AgreeOnFunction P (event ∷ history) history f
function_agrees P history event f still spares = record {
  values = λ i h. values_agree P history event (variable_at P f i) (spares.values i h);
  tuples = λ tuple fits. tuple_same P history event f tuple spares;
  costs = λ tuple fits live. plus_none (residual_by event f tuple) (residual P history f tuple) (same_costs event f tuple still);
}

-- a test on different numbers fails
pub first_false : (a b : ℕ) (c : Bool) → (a ≡ b → ⊥) → ((a == b) && c) ≡ false
first_false a b c other = ap (λ t. t && c) (eqb_other a b other)

-- it takes no value of a variable by which f would end, and cuts no tuple of it
pub record SparesBy (Ends : Network → ℕ → ℕ → Type 0) (P : Network) (event : Event) (f : ℕ) : Type 0 where
  pub values : (x : ℕ) → Ends P x f → SparesValues event x
  pub tuples : (c : ℕ) → cuts event f c ≡ false

pub spares_by : (Ends : Network → ℕ → ℕ → Type 0) (P : Network) (event : Event) (f : ℕ) → MovesNothing event → (GoesBy Ends P event f → ⊥) → SparesBy Ends P event f
spares_by Ends P (Did (Project g i a m)) f still stays = absurd still
spares_by Ends P (Did (Extend g i a m)) f still stays = absurd still
spares_by Ends P (Did (Lift x m)) f still stays = absurd still
spares_by Ends P (Did (CutValue y a)) f still stays = record {
  values = λ x ends b. first_false y x (a == b) (λ e. stays (subst (λ z. Ends P z f) (sym e) ends));
  tuples = λ c. refl;
}
spares_by Ends P (Did (CutTuple g d)) f still stays = record {
  values = λ x ends b. refl;
  tuples = λ c. first_false g f (d == c) stays;
}
spares_by Ends P (Took d) f still stays = record {
  values = λ x ends b. first_false (variable_of d) x (not (keeps d b)) (λ e. stays (subst (λ z. Ends P z f) (sym e) ends));
  tuples = λ c. refl;
}
spares_by Ends P (Refused d) f still stays = record {
  values = λ x ends b. first_false (variable_of d) x (keeps d b) (λ e. stays (subst (λ z. Ends P z f) (sym e) ends));
  tuples = λ c. refl;
}

spares_function : (P : Network) (event : Event) (f : ℕ) → MovesNothing event → (GoesFull P event f → ⊥) → Spares P event f
spares_function P event f still stays = let spares = spares_by IsOn P event f still stays in record {
  values = λ i h. spares.values (variable_at P f i) (i, h, refl);
  tuples = spares.tuples;
}

-- where no costs are moved the arc consistency of a function goes as its full supports do
arc_goes : (P : Network) (event : Event) (f : ℕ) → MovesNothing event → GoesFull P event f → GoesArc P event f
arc_goes P (Did (Project g i a m)) f still goes = absurd still
arc_goes P (Did (Extend g i a m)) f still goes = absurd still
arc_goes P (Did (Lift x m)) f still goes = absurd still
arc_goes P (Did (CutValue x a)) f still goes = goes
arc_goes P (Did (CutTuple g c)) f still goes = goes
arc_goes P (Took d) f still goes = goes
arc_goes P (Refused d) f still goes = goes

pub arcs_agree : (P : Network) (history : List Event) (event : Event) (f : ℕ) → MovesNothing event → (GoesArc P event f → ⊥) → AgreeOnFunction P (event ∷ history) history f
arcs_agree P history event f still stays = function_agrees P history event f still (spares_function P event f still (λ goes. stays (arc_goes P event f still goes)))

pub full_agree : (P : Network) (history : List Event) (event : Event) (f : ℕ) → MovesNothing event → (GoesFull P event f → ⊥) → AgreeAround P (event ∷ history) history f
full_agree P history event f still stays = record {
  function = function_agrees P history event f still (spares_function P event f still stays);
  unaries = λ i h. unaries_agree P history event (variable_at P f i) still;
}

-- an event that takes nothing of a function
pub around_agrees : (P : Network) (history : List Event) (event : Event) (f : ℕ) → MovesNothing event → ((i : ℕ) → i < arity P f → SparesValues event (variable_at P f i)) → ((c : ℕ) → cuts event f c ≡ false) → AgreeAround P (event ∷ history) history f
around_agrees P history event f still values tuples = record {
  function = function_agrees P history event f still (record { values = values; tuples = tuples });
  unaries = λ i h. unaries_agree P history event (variable_at P f i) still;
}

-- where that of a function goes, the existential one of its variables goes, too
existing_goes : (P : Network) (event : Event) (f x : ℕ) → MovesNothing event → IsOn P x f → GoesFull P event f → GoesExisting P event x
existing_goes P (Did (Project g i a m)) f x still on goes = absurd still
existing_goes P (Did (Extend g i a m)) f x still on goes = absurd still
existing_goes P (Did (Lift y m)) f x still on goes = absurd still
existing_goes P (Did (CutValue y a)) f x still on goes = inr (f, goes, on)
existing_goes P (Did (CutTuple g c)) f x still on goes = subst (IsOn P x) (sym goes) on
existing_goes P (Took d) f x still on goes = inr (f, goes, on)
existing_goes P (Refused d) f x still on goes = inr (f, goes, on)

spares_values : (P : Network) (event : Event) (x : ℕ) → MovesNothing event → (GoesExisting P event x → ⊥) → SparesValues event x
spares_values P (Did (Project g i a m)) x still stays b = refl
spares_values P (Did (Extend g i a m)) x still stays b = refl
spares_values P (Did (Lift y m)) x still stays b = refl
spares_values P (Did (CutValue y a)) x still stays b = first_false y x (a == b) (λ e. stays (inl e))
spares_values P (Did (CutTuple g c)) x still stays b = refl
spares_values P (Took d) x still stays b = first_false (variable_of d) x (not (keeps d b)) (λ e. stays (inl e))
spares_values P (Refused d) x still stays b = first_false (variable_of d) x (keeps d b) (λ e. stays (inl e))

pub existing_agree : (P : Network) (history : List Event) (event : Event) (x : ℕ) → MovesNothing event → (GoesExisting P event x → ⊥) → AgreeNear P (event ∷ history) history x
existing_agree P history event x still stays = record {
  values = values_agree P history event x (spares_values P event x still stays);
  unaries = unaries_agree P history event x still;
  functions = λ f i there h is. full_agree P history event f still (λ goes. stays (existing_goes P event f x still (i, h, is) goes));
}

-- a tuple of a function with which an event does not go stays live
pub tuple_stays : (P : Network) (history : List Event) (event : Event) (f : ℕ) (tuple : List ℕ) → MovesNothing event → (GoesFull P event f → ⊥) → is_live_tuple P (event ∷ history) f tuple ≡ is_live_tuple P history f tuple
tuple_stays P history event f tuple still stays = tuple_same P history event f tuple (spares_function P event f still stays)

-- what is live stays so
all_kept : (event : Event) (history : List Event) (scope tuple : List ℕ) → ((j : ℕ) → j < length scope → IsTrue (is_live history (slice_index scope j) (slice_index tuple j)) → IsTrue (is_live (event ∷ history) (slice_index scope j) (slice_index tuple j))) → IsTrue (all_live history scope tuple) → IsTrue (all_live (event ∷ history) scope tuple)
all_kept event history [] tuple stays all = refl
all_kept event history (x ∷ scope) [] stays all = refl
all_kept event history (x ∷ scope) (a ∷ tuple) stays all =
    let both = and_parts (is_live history x a) (all_live history scope tuple) all in
    and_from (is_live (event ∷ history) x a) (all_live (event ∷ history) scope tuple) (stays 0 (omega arith) both.0)
    (all_kept event history scope tuple (λ j l live. stays (suc j) (omega (arith, l)) live) both.1)

-- a tuple stays live whose value at one place does, where no other place loses values
pub tuple_kept : (P : Network) (history : List Event) (event : Event) (f i a : ℕ) (tuple : List ℕ) → ((c : ℕ) → cuts event f c ≡ false) → ((j v : ℕ) → j < arity P f → (j ≡ i → ⊥) → removes event (variable_at P f j) v ≡ false) → slice_index tuple i ≡ a → IsTrue (is_live (event ∷ history) (variable_at P f i) a) → IsTrue (is_live_tuple P history f tuple) → IsTrue (is_live_tuple P (event ∷ history) f tuple)
tuple_kept P history event f i a tuple uncut others at live was =
    let below = nat_lt (entry_at P f tuple) P.upper in
    let c = cell (dims_at P f) tuple in
    let first = and_parts (all_live history (scope_at P f) tuple && below) (not (is_cut history f c)) was in
    let second = and_parts (all_live history (scope_at P f) tuple) below first.0 in
    and_from (all_live (event ∷ history) (scope_at P f) tuple && below) (not (is_cut (event ∷ history) f c))
    (and_from (all_live (event ∷ history) (scope_at P f) tuple) below (all_kept event history (scope_at P f) tuple each second.0) second.1)
    (ap (λ b. not (b || is_cut history f c)) (uncut c) ∙ first.1)
  where
    each : (j : ℕ) → j < arity P f → IsTrue (is_live history (variable_at P f j) (slice_index tuple j)) → IsTrue (is_live (event ∷ history) (variable_at P f j) (slice_index tuple j))
    each j l there = elim (cases_eq j i) [
      | inl e ↦ subst (λ k. IsTrue (is_live (event ∷ history) (variable_at P f k) (slice_index tuple k))) (sym e) (subst (λ v. IsTrue (is_live (event ∷ history) (variable_at P f i) v)) (sym at) live)
      | inr other ↦ live_same event history (variable_at P f j) (slice_index tuple j) (others j (slice_index tuple j) l other) ∙ there
    ]
