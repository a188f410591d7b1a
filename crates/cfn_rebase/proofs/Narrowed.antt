-- What is kept of a tree whose numbers were narrowed is what is kept of the tree.
use Rattle.std.proofs.Common.{◌≡◌, ℕ, Bool, true, false, inl, inr, List, [], ◌∷◌, ◌++◌, length, refl, sym, ap, ◌∙◌, subst, arith, append_assoc, if◌then◌else◌, ◌&&◌}
use Rattle.std.proofs.lemmas.List.{length-append}
use Rattle.cfn_model.specs.declared.step.Step.{Step}
use Rattle.cfn_model.specs.declared.step.Step.TheVariants.{Project, Extend, Lift, CutValue, CutTuple}
use Rattle.cfn_model.specs.declared.step.Decision.{Decision}
use Rattle.cfn_model.specs.declared.step.Event.{Event}
use Rattle.cfn_model.specs.declared.step.Event.TheVariants.{Took, Refused}
use Rattle.cfn_model.specs.Network.{Network, IsNetwork}
use Rattle.cfn_model.specs.Steps.{Allowed, InRange, after}
use Rattle.cfn_model.specs.Tree.{Tree, Open, Closed, Split}
use Rattle.cfn_mending.specs.Keeping.{IsFront, Kept, Stops}
use Rattle.cfn_certread.specs.Narrowing.{is_small_step, is_small_decision, small_front, are_small, narrowed}
use Rattle.cfn_rebase.proofs.Small.{small_step, small_decision}

not_both : (b : Bool) → b ≡ true → b ≡ false → ⊥
not_both b on off = true_false (sym on ∙ off)
  where
    true_false : true ≡ false → ⊥
    true_false e = cc

in_range : (P : Network) (history : List Event) (k : ℕ) (step : Step) → Allowed P history k step → InRange P step
in_range P history k (Project f i a m) is = is.0
in_range P history k (Extend f i a m) is = is.0
in_range P history k (Lift x m) is = is.0
in_range P history k (CutValue x a) is = is.0
in_range P history k (CutTuple f c) is = is.0

-- a block's front of small steps, and what stands behind it, which begins with a step that is not small where not all are
record Parts (block front : List Step) (all : Bool) : Type 0 where
  tail : List Step
  split : block ≡ front ++ tail
  whole : all ≡ true → tail ≡ []
  cut : all ≡ false → (step : Step) × (more : List Step) × (tail ≡ step ∷ more) × (is_small_step step ≡ false)

parts_by : (step : Step) (block : List Step) (b : Bool) → is_small_step step ≡ b → Parts block (small_front block) (are_small block) → Parts (step ∷ block) (if b then step ∷ small_front block else []) (if b then are_small block else false)
parts_by step block true e p = record { tail = p.tail; split = ap (λ l. step ∷ l) p.split; whole = p.whole; cut = p.cut }
parts_by step block false e p = record { tail = step ∷ block; split = refl; whole = λ on. absurd (not_both false on refl); cut = λ off. (step, block, refl, e) }

parts : (block : List Step) → Parts block (small_front block) (are_small block)
parts [] = record { tail = []; split = refl; whole = λ on. refl; cut = λ off. absurd (not_both true refl off) }
parts (step ∷ block) = parts_by step block (is_small_step step) refl (parts block)

module _ (P : Network) (network : IsNetwork P) where
  stops_behind : (history : List Event) (k : ℕ) (tail : List Step) (all : Bool) → (all ≡ true → tail ≡ []) → (all ≡ false → (step : Step) × (more : List Step) × (tail ≡ step ∷ more) × (is_small_step step ≡ false)) → Stops P history k tail
  stops_behind history k tail true whole cut = subst (Stops P history k) (sym (whole refl)) tt
  stops_behind history k tail false whole cut =
      let c = cut refl in
      subst (Stops P history k) (sym c.2) (λ ok. not_both (is_small_step c.0) (small_step P c.0 network (in_range P history k c.0 ok.0)) c.3)

  stops_on : (history : List Event) (k : ℕ) (rest tail : List Step) → Stops P history k rest → Stops P history k tail → Stops P history k (rest ++ tail)
  stops_on history k [] tail stops behind = behind
  stops_on history k (step ∷ rest) tail stops behind = stops

  -- the front that is kept of the small front is that of the block
  front_of : (history : List Event) (k : ℕ) (block small front rest : List Step) (all : Bool) (p : Parts block small all) → IsFront P history k small front rest → IsFront P history k block front (rest ++ p.tail)
  front_of history k block small front rest all p is = record {
    split = p.split ∙ ap (λ l. l ++ p.tail) is.split ∙ append_assoc front rest p.tail;
    runs = is.runs;
    tame = is.tame;
    stops = stops_on (after front history) k rest p.tail is.stops (stops_behind (after front history) k p.tail all p.whole p.cut);
  }

  not_whole : (rest tail more : List Step) (step : Step) → tail ≡ step ∷ more → rest ++ tail ≡ [] → ⊥
  not_whole rest tail more step is none =
      let a = ap length none in
      let b = length-append rest tail in
      let c = ap length is in
      omega (arith, a, b, c)

  closed_by : (history : List Event) (k : ℕ) (block : List Step) (new : Tree) (b : Bool) → Parts block (small_front block) b → Kept P history k (if b then Closed block else Open (small_front block)) new → Kept P history k (Closed block) new
  closed_by history k block new true p kept = kept
  closed_by history k block new false p kept =
      let c = p.cut refl in
      (kept.0, kept.1 ++ p.tail, front_of history k block (small_front block) kept.0 kept.1 false p kept.2, inr ((λ w. not_whole kept.1 p.tail c.1 c.0 c.2 w.0), kept.3))

  split_by : (history : List Event) (k : ℕ) (block : List Step) (d : Decision) (first second new : Tree) (b c : Bool) → is_small_decision d ≡ c → Parts block (small_front block) b →
      ((h : List Event) (one : Tree) → Kept P h k (narrowed first) one → Kept P h k first one) → ((h : List Event) (two : Tree) → Kept P h k (narrowed second) two → Kept P h k second two) →
      Kept P history k (if b && c then Split block d (narrowed first) (narrowed second) else Open (small_front block)) new → Kept P history k (Split block d first second) new
  split_by history k block d first second new true true e p left right kept = (
    kept.0,
    kept.1,
    kept.2,
    elim kept.3 [
      | inl w ↦ inl (w.0, w.1, w.2, (w.3.0, w.3.1, left (Took d ∷ after kept.0 history) w.3.0 w.3.2, right (Refused d ∷ after kept.0 history) w.3.1 w.3.3, w.3.4))
      | inr w ↦ inr w
    ],
  )
  split_by history k block d first second new true false e p left right kept =
      (kept.0, kept.1 ++ p.tail, front_of history k block (small_front block) kept.0 kept.1 true p kept.2, inr ((λ w. not_both (is_small_decision d) (small_decision P d network w.1) e), kept.3))
  split_by history k block d first second new false c e p left right kept =
      let s = p.cut refl in
      (kept.0, kept.1 ++ p.tail, front_of history k block (small_front block) kept.0 kept.1 false p kept.2, inr ((λ w. not_whole kept.1 p.tail s.1 s.0 s.2 w.0), kept.3))

  pub kept_of_narrowed : (history : List Event) (k : ℕ) (old new : Tree) → Kept P history k (narrowed old) new → Kept P history k old new
  kept_of_narrowed history k (Open block) new kept =
      let p = parts block in
      (kept.0, kept.1 ++ p.tail, front_of history k block (small_front block) kept.0 kept.1 (are_small block) p kept.2, kept.3)
  kept_of_narrowed history k (Closed block) new kept = closed_by history k block new (are_small block) (parts block) kept
  kept_of_narrowed history k (Split block d first second) new kept =
      split_by history k block d first second new (are_small block) (is_small_decision d) refl (parts block)
      (λ h one part. kept_of_narrowed h k first one part) (λ h two part. kept_of_narrowed h k second two part) kept
