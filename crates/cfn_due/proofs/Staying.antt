-- What does not go with an event goes on over it.
use Rattle.std.proofs.Common.{◌≡◌, ℕ, ◌<◌, inl, inr, List, [], ◌∷◌, length, refl, sym, ap, ◌∙◌, subst, arith}
use Rattle.std.proofs.lemmas.Bool.{false≢true}
use Rattle.std.proofs.lemmas.Int.{ints}
use Rattle.std.specs.Prelude.{ℤ, pos, ◌≤ℤ◌, Bool, false, ◌&&◌, ◌==◌, ◌≤◌, nat_le, slice_index, IsTrue}
use Rattle.cfn_model.specs.declared.step.Step.{Step}
use Rattle.cfn_model.specs.declared.step.Step.TheVariants.{Project, Extend, Lift, CutValue, CutTuple}
use Rattle.cfn_model.specs.declared.step.Event.{Event}
use Rattle.cfn_model.specs.declared.step.Event.TheVariants.{Did, Took, Refused}
use Rattle.cfn_model.specs.Network.{Network, IsNetwork, arity, variable_at}
use Rattle.cfn_model.specs.Sums.{when, is_live, residual_by, unary_by}
use Rattle.cfn_model.specs.Steps.{after}
use Rattle.cfn_model.proofs.CallerLemmas.{eqb_other, when_false}
use Rattle.cfn_scan.specs.Exact.{InPlace, HasNoDebts, IsExactAlong}
use Rattle.cfn_scan.proofs.CallerLemmas.{exact_here}
use Rattle.cfn_consistency.specs.Openness.{count_below, IsActive, TakesPart, HasOpenPair}
use Rattle.cfn_consistency.specs.Consistency.{HasFullSupport, IsArcConsistent, IsDirectional, IsFirst, IsExistential}
use Rattle.cfn_consistency.proofs.CallerLemmas.{part_is_local, arc_is_local, existential_is_local}
use Rattle.cfn_queue.specs.Waiting.{Waiting}
use Rattle.cfn_due.specs.Dues.{Dues, waits, HasSizes}
use Rattle.cfn_due.specs.Going.{IsOn, GoesArc, GoesFull, GoesDirected, GoesExisting, ArePut, IsNoted, GoesWithOne}
use Rattle.cfn_due.specs.Laws.{ArcGoesOn, DirectedGoesOn, ExistingGoesOn, HoldingGoesOn, HoldingGoesAlong, NothingWaitsIsFull}
use Rattle.cfn_due.proofs.Agreeing.{MovesNothing, same_unaries, same_costs, tuple_stays, arcs_agree, existing_agree}
use Rattle.cfn_due.proofs.Upper.{upper_is, falls_none, directed_agrees}
use Rattle.cfn_due.proofs.Falling.{takes, CostsFall, UnariesFall, support_stays, full_stays, free_stays}

-- what an event does not add does not rise
no_rise : (test : Bool) (m : ℤ) → test ≡ false → when test m ≤ℤ pos 0
no_rise test m is = let e = when_false test m is in omega (arith, ints, e)

other_first : (a b : ℕ) (c : Bool) → (a ≡ b → ⊥) → ((a == b) && c) ≡ false
other_first a b c other = ap (λ t. t && c) (eqb_other a b other)

pub extend_falls : (f g i a m : ℕ) → (g ≡ f → ⊥) → CostsFall (Did (Extend g i a m)) f
extend_falls f g i a m other tuple = no_rise ((g == f) && (slice_index tuple i == a)) (pos m) (other_first g f (slice_index tuple i == a) other)

project_falls : (P : Network) (g i a m x : ℕ) → (variable_at P g i ≡ x → ⊥) → UnariesFall P (Did (Project g i a m)) x
project_falls P g i a m x other b = no_rise ((variable_at P g i == x) && (a == b)) (pos m) (other_first (variable_at P g i) x (a == b) other)

pub function_of_part : (P : Network) (history : List Event) (f : ℕ) → TakesPart P history f → f < length P.functions
function_of_part P history f (inl active) = active.function
function_of_part P history f (inr small) = small.function

-- where the same values are live the same variables are open
same_live : (one other : List Event) → ((x a : ℕ) → is_live one x a ≡ is_live other x a) → is_live one ≡ is_live other
same_live one other same = λ i x a. same x a i

-- how many values and how many variables pass, by which values are live
abbrev open_by : Network → (ℕ → ℕ → Bool) → ℕ → Bool
open_by P live x = nat_le 2 (count_below (live x) (slice_index P.sizes x))

abbrev few_by : Network → ℕ → (ℕ → ℕ → Bool) → Type 0
few_by P f live = count_below (λ i. open_by P live (variable_at P f i)) (arity P f) ≤ 2

active_same : (P : Network) (one other : List Event) (f : ℕ) → ((x a : ℕ) → is_live one x a ≡ is_live other x a) → IsActive P one f → IsActive P other f
active_same P one other f same active = record { function = active.function; some = active.some; few = subst (few_by P f) (same_live one other same) active.few }

part_same : (P : Network) (one other : List Event) (f : ℕ) → ((x a : ℕ) → is_live one x a ≡ is_live other x a) → TakesPart P one f → TakesPart P other f
part_same P one other f same (inl active) = inl (active_same P one other f same active)
part_same P one other f same (inr small) = inr small

pair_same : (P : Network) (one other : List Event) (f i j : ℕ) → ((x a : ℕ) → is_live one x a ≡ is_live other x a) → HasOpenPair P one f i j → HasOpenPair P other f i j
pair_same P one other f i j same pair = record {
  active = active_same P one other f same pair.active;
  one = (pair.one.0, subst (λ live. IsTrue (open_by P live (variable_at P f i))) (same_live one other same) pair.one.1);
  other = (pair.other.0, subst (λ live. IsTrue (open_by P live (variable_at P f j))) (same_live one other same) pair.other.1);
  different = pair.different;
}

first_same : (P : Network) (one other : List Event) (f i j : ℕ) → ((x a : ℕ) → is_live one x a ≡ is_live other x a) → IsFirst P one f i j → IsFirst P other f i j
first_same P one other f i j same first g p q pair = first g p q (pair_same P other one g p q (λ x a. sym (same x a)) pair)

-- arc consistency
arc_agrees : (P : Network) (history : List Event) (event : Event) (f : ℕ) → MovesNothing event → (GoesArc P event f → ⊥) → (TakesPart P history f → IsArcConsistent P history f) → TakesPart P (event ∷ history) f → IsArcConsistent P (event ∷ history) f
arc_agrees P history event f still stays was part =
    let agree = arcs_agree P history event f still stays in
    (arc_is_local P (event ∷ history) history f agree).1 (was ((part_is_local P (event ∷ history) history f agree).0 part))

pub arc_goes_on : ArcGoesOn
arc_goes_on P history (Did (Project g p b m)) f debts stays was part =
    λ i a place live. support_stays P history (Did (Project g p b m)) f i a (function_of_part P (Did (Project g p b m) ∷ history) f part) debts
    (λ tuple. takes ((g == f) && (slice_index tuple p == b)) m) (λ tuple l. l) (was (part_same P (Did (Project g p b m) ∷ history) history f (λ y c. refl) part) i a place live)
arc_goes_on P history (Did (Extend g p b m)) f debts stays was part =
    λ i a place live. support_stays P history (Did (Extend g p b m)) f i a (function_of_part P (Did (Extend g p b m) ∷ history) f part) debts
    (extend_falls f g p b m stays) (λ tuple l. l) (was (part_same P (Did (Extend g p b m) ∷ history) history f (λ y c. refl) part) i a place live)
arc_goes_on P history (Did (Lift x m)) f debts stays was part =
    λ i a place live. support_stays P history (Did (Lift x m)) f i a (function_of_part P (Did (Lift x m) ∷ history) f part) debts
    (λ tuple. omega (arith, ints)) (λ tuple l. l) (was (part_same P (Did (Lift x m) ∷ history) history f (λ y c. refl) part) i a place live)
arc_goes_on P history (Did (CutValue x a)) f debts stays was part = arc_agrees P history (Did (CutValue x a)) f tt stays was part
arc_goes_on P history (Did (CutTuple g c)) f debts stays was part = arc_agrees P history (Did (CutTuple g c)) f tt stays was part
arc_goes_on P history (Took d) f debts stays was part = arc_agrees P history (Took d) f tt stays was part
arc_goes_on P history (Refused d) f debts stays was part = arc_agrees P history (Refused d) f tt stays was part

-- directional arc consistency
pub directed_goes_on : DirectedGoesOn
directed_goes_on P history (Did (Project g p b m)) f net at debts stays was =
    λ i j a pair lower place live. full_stays P history (Did (Project g p b m)) f i j a net pair.active.function pair.other.0 debts
    (λ tuple. takes ((g == f) && (slice_index tuple p == b)) m)
    (project_falls P g p b m (variable_at P f j) (λ e. stays (upper_is P f i j (variable_at P g p) pair.one.0 pair.other.0 pair.different lower e)))
    (λ tuple l. l) (was i j a (pair_same P (Did (Project g p b m) ∷ history) history f i j (λ y c. refl) pair) lower place live)
directed_goes_on P history (Did (Extend g p b m)) f net at debts stays was =
    λ i j a pair lower place live. full_stays P history (Did (Extend g p b m)) f i j a net pair.active.function pair.other.0 debts
    (extend_falls f g p b m stays)
    (λ c. takes ((variable_at P g p == variable_at P f j) && (b == c)) m)
    (λ tuple l. l) (was i j a (pair_same P (Did (Extend g p b m) ∷ history) history f i j (λ y c. refl) pair) lower place live)
directed_goes_on P history (Did (Lift x m)) f net at debts stays was =
    λ i j a pair lower place live. full_stays P history (Did (Lift x m)) f i j a net pair.active.function pair.other.0 debts
    (λ tuple. omega (arith, ints))
    (λ c. takes (x == variable_at P f j) m)
    (λ tuple l. l) (was i j a (pair_same P (Did (Lift x m) ∷ history) history f i j (λ y c. refl) pair) lower place live)
directed_goes_on P history (Did (CutValue x a)) f net at debts stays was = directed_agrees P history (Did (CutValue x a)) f tt net debts stays was
directed_goes_on P history (Did (CutTuple g c)) f net at debts stays was = directed_agrees P history (Did (CutTuple g c)) f tt net debts stays was
directed_goes_on P history (Took d) f net at debts stays was = directed_agrees P history (Took d) f tt net debts stays was
directed_goes_on P history (Refused d) f net at debts stays was = directed_agrees P history (Refused d) f tt net debts stays was

-- one full support
full_agrees : (P : Network) (history : List Event) (event : Event) (f i j a : ℕ) → MovesNothing event → IsNetwork P → f < length P.functions → j < arity P f → HasNoDebts P (event ∷ history) → (GoesFull P event f → ⊥) → HasFullSupport P history f i j a → HasFullSupport P (event ∷ history) f i j a
full_agrees P history event f i j a still net there place debts stays has =
    full_stays P history event f i j a net there place debts
    (λ tuple. falls_none (residual_by event f tuple) (same_costs event f tuple still))
    (λ b. falls_none (unary_by P event (variable_at P f j) b) (same_unaries P event (variable_at P f j) b still))
    (λ tuple live. tuple_stays P history event f tuple still stays ∙ live) has

pub full_goes_on : (P : Network) (history : List Event) (event : Event) (f i j a : ℕ) → IsNetwork P → f < length P.functions → j < arity P f → HasNoDebts P (event ∷ history) → (GoesFull P event f → ⊥) → HasFullSupport P history f i j a → HasFullSupport P (event ∷ history) f i j a
full_goes_on P history (Did (Project g p b m)) f i j a net there place debts stays has =
    full_stays P history (Did (Project g p b m)) f i j a net there place debts
    (λ tuple. takes ((g == f) && (slice_index tuple p == b)) m)
    (project_falls P g p b m (variable_at P f j) (λ e. stays (j, place, sym e)))
    (λ tuple l. l) has
full_goes_on P history (Did (Extend g p b m)) f i j a net there place debts stays has =
    full_stays P history (Did (Extend g p b m)) f i j a net there place debts
    (extend_falls f g p b m stays)
    (λ c. takes ((variable_at P g p == variable_at P f j) && (b == c)) m)
    (λ tuple l. l) has
full_goes_on P history (Did (Lift x m)) f i j a net there place debts stays has =
    full_stays P history (Did (Lift x m)) f i j a net there place debts
    (λ tuple. omega (arith, ints))
    (λ c. takes (x == variable_at P f j) m)
    (λ tuple l. l) has
full_goes_on P history (Did (CutValue x b)) f i j a net there place debts stays has = full_agrees P history (Did (CutValue x b)) f i j a tt net there place debts stays has
full_goes_on P history (Did (CutTuple g c)) f i j a net there place debts stays has = full_agrees P history (Did (CutTuple g c)) f i j a tt net there place debts stays has
full_goes_on P history (Took d) f i j a net there place debts stays has = full_agrees P history (Took d) f i j a tt net there place debts stays has
full_goes_on P history (Refused d) f i j a net there place debts stays has = full_agrees P history (Refused d) f i j a tt net there place debts stays has

-- existential arc consistency
existing_agrees : (P : Network) (history : List Event) (event : Event) (x : ℕ) → MovesNothing event → (GoesExisting P event x → ⊥) → IsExistential P history x → IsExistential P (event ∷ history) x
existing_agrees P history event x still stays was = (existential_is_local P (event ∷ history) history x (existing_agree P history event x still stays)).1 was

pub existing_goes_on : ExistingGoesOn
existing_goes_on P history (Did (Project g p b m)) x net at debts stays was = record {
  value = was.value;
  free = free_stays P history (Did (Project g p b m)) x was.value debts (project_falls P g p b m x (λ e. stays (inl e))) (λ l. l) was.free;
  supports = λ f i j pair is first. full_stays P history (Did (Project g p b m)) f i j was.value net pair.active.function pair.other.0 debts
      (λ tuple. takes ((g == f) && (slice_index tuple p == b)) m)
      (project_falls P g p b m (variable_at P f j) (λ e. stays (inr (f, (j, pair.other.0, sym e), (i, pair.one.0, is)))))
      (λ tuple l. l) (was.supports f i j (pair_same P (Did (Project g p b m) ∷ history) history f i j (λ z c. refl) pair) is (first_same P (Did (Project g p b m) ∷ history) history f i j (λ z c. refl) first));
}
existing_goes_on P history (Did (Extend g p b m)) x net at debts stays was = record {
  value = was.value;
  free = free_stays P history (Did (Extend g p b m)) x was.value debts (λ c. takes ((variable_at P g p == x) && (b == c)) m) (λ l. l) was.free;
  supports = λ f i j pair is first. full_stays P history (Did (Extend g p b m)) f i j was.value net pair.active.function pair.other.0 debts
      (extend_falls f g p b m (λ e. stays (subst (IsOn P x) (sym e) (i, pair.one.0, is))))
      (λ c. takes ((variable_at P g p == variable_at P f j) && (b == c)) m)
      (λ tuple l. l) (was.supports f i j (pair_same P (Did (Extend g p b m) ∷ history) history f i j (λ z c. refl) pair) is (first_same P (Did (Extend g p b m) ∷ history) history f i j (λ z c. refl) first));
}
existing_goes_on P history (Did (Lift y m)) x net at debts stays was = record {
  value = was.value;
  free = free_stays P history (Did (Lift y m)) x was.value debts (λ c. takes (y == x) m) (λ l. l) was.free;
  supports = λ f i j pair is first. full_stays P history (Did (Lift y m)) f i j was.value net pair.active.function pair.other.0 debts
      (λ tuple. omega (arith, ints))
      (λ c. takes (y == variable_at P f j) m)
      (λ tuple l. l) (was.supports f i j (pair_same P (Did (Lift y m) ∷ history) history f i j (λ z c. refl) pair) is (first_same P (Did (Lift y m) ∷ history) history f i j (λ z c. refl) first));
}
existing_goes_on P history (Did (CutValue y a)) x net at debts stays was = existing_agrees P history (Did (CutValue y a)) x tt stays was
existing_goes_on P history (Did (CutTuple g c)) x net at debts stays was = existing_agrees P history (Did (CutTuple g c)) x tt stays was
existing_goes_on P history (Took d) x net at debts stays was = existing_agrees P history (Took d) x tt stays was
existing_goes_on P history (Refused d) x net at debts stays was = existing_agrees P history (Refused d) x tt stays was

-- what does not wait did not go, and did not wait
not_gone : (old new : Waiting) (Goes : ℕ → Type 0) (i : ℕ) → ArePut old new Goes → waits new i ≡ false → Goes i → ⊥
not_gone old new Goes i put not goes = false≢true (sym not ∙ put.put i goes)

not_waited : (old new : Waiting) (Goes : ℕ → Type 0) (i : ℕ) → ArePut old new Goes → waits new i ≡ false → waits old i ≡ false
not_waited old new Goes i put not = sym (put.left i (not_gone old new Goes i put not)) ∙ not

pub sizes_go_on : (P : Network) (event : Event) (old new : Dues) → IsNoted P event old new → HasSizes P old → HasSizes P new
sizes_go_on P event old new noted sizes = record {
  arcs = noted.arcs.size ∙ sizes.arcs;
  directed = noted.directed.size ∙ sizes.directed;
  existing = noted.existing.size ∙ sizes.existing;
}

pub holding_goes_on : HoldingGoesOn
holding_goes_on P history event old new net at debts noted holds = record {
  arcs = λ f not part. arc_goes_on P history event f debts (not_gone old.arcs new.arcs (GoesArc P event) f noted.arcs not)
      (holds.arcs f (not_waited old.arcs new.arcs (GoesArc P event) f noted.arcs not)) part;
  directed = λ f not. directed_goes_on P history event f net at debts (not_gone old.directed new.directed (GoesDirected P event) f noted.directed not)
      (holds.directed f (not_waited old.directed new.directed (GoesDirected P event) f noted.directed not));
  existing = λ x h not. existing_goes_on P history event x net at debts (not_gone old.existing new.existing (GoesExisting P event) x noted.existing not)
      (holds.existing x h (not_waited old.existing new.existing (GoesExisting P event) x noted.existing not));
}

-- the same along steps
pub exact_after : (P : Network) (history : List Event) (steps : List Step) → IsExactAlong P (after steps history) → IsExactAlong P history
exact_after P history [] exact = exact
exact_after P history (step ∷ steps) exact = (exact_after P (Did step ∷ history) steps exact).1

pub first_debts : (P : Network) (history : List Event) (step : Step) (steps : List Step) → IsExactAlong P (after steps (Did step ∷ history)) → HasNoDebts P (Did step ∷ history)
first_debts P history step steps exact = (exact_here P (Did step ∷ history) (exact_after P (Did step ∷ history) steps exact)).no_debts

first_place : (P : Network) (history : List Event) (step : Step) (steps : List Step) → IsExactAlong P (after steps (Did step ∷ history)) → InPlace P (Did step)
first_place P history step steps exact = (exact_here P (Did step ∷ history) (exact_after P (Did step ∷ history) steps exact)).range.0

arc_goes_along : (P : Network) (history : List Event) (steps : List Step) (f : ℕ) → IsExactAlong P (after steps history) → (GoesWithOne (GoesArc P) steps f → ⊥) → (TakesPart P history f → IsArcConsistent P history f) → TakesPart P (after steps history) f → IsArcConsistent P (after steps history) f
arc_goes_along P history [] f exact stays was = was
arc_goes_along P history (step ∷ steps) f exact stays was =
    arc_goes_along P (Did step ∷ history) steps f exact (λ goes. stays (inr goes)) (arc_goes_on P history (Did step) f (first_debts P history step steps exact) (λ goes. stays (inl goes)) was)

directed_goes_along : (P : Network) (history : List Event) (steps : List Step) (f : ℕ) → IsNetwork P → IsExactAlong P (after steps history) → (GoesWithOne (GoesDirected P) steps f → ⊥) → IsDirectional P history f → IsDirectional P (after steps history) f
directed_goes_along P history [] f net exact stays was = was
directed_goes_along P history (step ∷ steps) f net exact stays was =
    directed_goes_along P (Did step ∷ history) steps f net exact (λ goes. stays (inr goes))
    (directed_goes_on P history (Did step) f net (first_place P history step steps exact) (first_debts P history step steps exact) (λ goes. stays (inl goes)) was)

pub full_goes_along : (P : Network) (history : List Event) (steps : List Step) (f i j a : ℕ) → IsNetwork P → f < length P.functions → j < arity P f → IsExactAlong P (after steps history) → (GoesWithOne (GoesFull P) steps f → ⊥) → HasFullSupport P history f i j a → HasFullSupport P (after steps history) f i j a
full_goes_along P history [] f i j a net there place exact stays has = has
full_goes_along P history (step ∷ steps) f i j a net there place exact stays has =
    full_goes_along P (Did step ∷ history) steps f i j a net there place exact (λ goes. stays (inr goes))
    (full_goes_on P history (Did step) f i j a net there place (first_debts P history step steps exact) (λ goes. stays (inl goes)) has)

existing_goes_along : (P : Network) (history : List Event) (steps : List Step) (x : ℕ) → IsNetwork P → IsExactAlong P (after steps history) → (GoesWithOne (GoesExisting P) steps x → ⊥) → IsExistential P history x → IsExistential P (after steps history) x
existing_goes_along P history [] x net exact stays was = was
existing_goes_along P history (step ∷ steps) x net exact stays was =
    existing_goes_along P (Did step ∷ history) steps x net exact (λ goes. stays (inr goes))
    (existing_goes_on P history (Did step) x net (first_place P history step steps exact) (first_debts P history step steps exact) (λ goes. stays (inl goes)) was)

pub holding_goes_along : HoldingGoesAlong
holding_goes_along P history steps old new net exact noted holds = record {
  arcs = λ f not. arc_goes_along P history steps f exact (not_gone old.arcs new.arcs (GoesWithOne (GoesArc P) steps) f noted.arcs not)
      (holds.arcs f (not_waited old.arcs new.arcs (GoesWithOne (GoesArc P) steps) f noted.arcs not));
  directed = λ f not. directed_goes_along P history steps f net exact (not_gone old.directed new.directed (GoesWithOne (GoesDirected P) steps) f noted.directed not)
      (holds.directed f (not_waited old.directed new.directed (GoesWithOne (GoesDirected P) steps) f noted.directed not));
  existing = λ x h not. existing_goes_along P history steps x net exact (not_gone old.existing new.existing (GoesWithOne (GoesExisting P) steps) x noted.existing not)
      (holds.existing x h (not_waited old.existing new.existing (GoesWithOne (GoesExisting P) steps) x noted.existing not));
}

-- where nothing waits all of it is consistent
pub nothing_waits_is_full : NothingWaitsIsFull
nothing_waits_is_full P history k due holds none nodes = record {
  arc = record { nodes = nodes; functions = λ f. holds.arcs f (nowhere due.arcs f none.arcs) };
  directional = record { nodes = nodes; functions = λ f. holds.directed f (nowhere due.directed f none.directed) };
  existential = record { nodes = nodes; variables = λ x h. holds.existing x h (nowhere due.existing x none.existing) };
}
  where
    nowhere : (queue : Waiting) (i : ℕ) → queue.items ≡ [] → waits queue i ≡ false
    nowhere queue i none = ap (λ items. waits (record { size = queue.size; items = items }) i) none
