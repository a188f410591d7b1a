-- Where a path parts into its legs: in one way alone.
use Rattle.std.proofs.Common.{◌≡◌, List, [], ◌∷◌, ◌++◌, reverse, refl, sym, ap, ◌∙◌, append_assoc}
use Rattle.std.proofs.lemmas.List.{reverse-append, reverse-reverse, append-nil}
use mathlib.Core.List.{reverse-cons}
use Rattle.cfn_model.specs.declared.step.Step.{Step}
use Rattle.cfn_model.specs.declared.step.Event.{Event}
use Rattle.cfn_model.specs.declared.step.Event.TheVariants.{Did}
use Rattle.cfn_model.specs.Steps.{after}
use Rattle.cfn_proof.specs.declared.path.Side.{Side}
use Rattle.cfn_proof.specs.declared.path.Side.TheVariants.{Holds, Fails}
use Rattle.cfn_proof.specs.declared.path.Leg.{Leg}
use Rattle.cfn_proof.specs.Legs.{event_of, did, events_of, path_of}

did_append : (steps more : List Step) → did (steps ++ more) ≡ did steps ++ did more
did_append [] more = refl
did_append (step ∷ steps) more = ap (λ l. Did step ∷ l) (did_append steps more)

turned : (block : List Step) → reverse (did block) ≡ did (reverse block)
turned [] = refl
turned (step ∷ block) =
    reverse-cons (Did step) (did block) ∙ ap (λ l. l ++ Did step ∷ []) (turned block) ∙ sym (did_append (reverse block) (step ∷ [])) ∙ ap did (sym (reverse-cons step block))

after_is : (block : List Step) (history : List Event) → after block history ≡ reverse (did block) ++ history
after_is [] history = refl
after_is (step ∷ block) history =
    after_is block (Did step ∷ history) ∙ sym (append_assoc (reverse (did block)) (Did step ∷ []) history) ∙ ap (λ l. l ++ history) (sym (reverse-cons (Did step) (did block)))

newest_first : (block : List Step) (history : List Event) → after block history ≡ did (reverse block) ++ history
newest_first block history = after_is block history ∙ ap (λ l. l ++ history) (turned block)

events_append : (legs more : List Leg) → events_of (legs ++ more) ≡ events_of legs ++ events_of more
events_append [] more = refl
events_append (leg ∷ legs) more =
    ap (λ l. event_of leg.side ∷ (did leg.block ++ l)) (events_append legs more)
    ∙ ap (λ l. event_of leg.side ∷ l) (sym (append_assoc (did leg.block) (events_of legs) (events_of more)))

-- a path that goes on by a leg, and the root's
pub with_leg : (root : List Step) (legs : List Leg) (leg : Leg) → path_of root (legs ++ leg ∷ []) ≡ after leg.block (event_of leg.side ∷ path_of root legs)
with_leg root legs leg =
    ap (λ l. reverse (did root ++ l)) (events_append legs (leg ∷ []))
    ∙ ap reverse (sym (append_assoc (did root) (events_of legs) (events_of (leg ∷ []))))
    ∙ reverse-append (did root ++ events_of legs) (events_of (leg ∷ []))
    ∙ ap (λ l. reverse (event_of leg.side ∷ l) ++ path_of root legs) (append-nil (did leg.block))
    ∙ ap (λ l. l ++ path_of root legs) (reverse-cons (event_of leg.side) (did leg.block))
    ∙ append_assoc (reverse (did leg.block)) (event_of leg.side ∷ []) (path_of root legs)
    ∙ sym (after_is leg.block (event_of leg.side ∷ path_of root legs))

pub at_block : (block : List Step) → path_of block [] ≡ after block []
at_block block = ap reverse (append-nil (did block)) ∙ sym (append-nil (reverse (did block))) ∙ sym (after_is block [])

-- lists that are the same
heads : {a b : Event} {xs ys : List Event} → a ∷ xs ≡ b ∷ ys → a ≡ b
heads h = cc

tails : {a b : Event} {xs ys : List Event} → a ∷ xs ≡ b ∷ ys → xs ≡ ys
tails h = cc

step_is : {x y : Step} → Did x ≡ Did y → x ≡ y
step_is h = cc

side_is : (s t : Side) → event_of s ≡ event_of t → s ≡ t
side_is (Holds c) (Holds d) h = cc
side_is (Holds c) (Fails d) h = absurd (cc)
side_is (Fails c) (Holds d) h = absurd (cc)
side_is (Fails c) (Fails d) h = cc

no_step : (s : Side) (step : Step) → event_of s ≡ Did step → ⊥
no_step (Holds d) step h = cc
no_step (Fails d) step h = cc

both : {x y : Step} {xs ys : List Step} → x ≡ y → xs ≡ ys → x ∷ xs ≡ y ∷ ys
both h k = cc

-- legs at a path's end that are the same
pub record AreSame (one two : List Step) (s t : Side) (above below : List Event) : Type 0 where
  pub blocks_are : one ≡ two
  pub sides_are : s ≡ t
  pub aboves_are : above ≡ below

same_front : (xs ys : List Step) (s t : Side) (above below : List Event) → did xs ++ event_of s ∷ above ≡ did ys ++ event_of t ∷ below → AreSame xs ys s t above below
same_front [] [] s t above below h = record { blocks_are = refl; sides_are = side_is s t (heads h); aboves_are = tails h }
same_front [] (y ∷ ys) s t above below h = absurd (no_step s y (heads h))
same_front (x ∷ xs) [] s t above below h = absurd (no_step t x (sym (heads h)))
same_front (x ∷ xs) (y ∷ ys) s t above below h =
    let rest = same_front xs ys s t above below (tails h) in
    record { blocks_are = both (step_is (heads h)) rest.blocks_are; sides_are = rest.sides_are; aboves_are = rest.aboves_are }

pub parts : (one two : List Step) (s t : Side) (above below : List Event) → after one (event_of s ∷ above) ≡ after two (event_of t ∷ below) → AreSame one two s t above below
parts one two s t above below h =
    let front = same_front (reverse one) (reverse two) s t above below (sym (newest_first one (event_of s ∷ above)) ∙ h ∙ newest_first two (event_of t ∷ below)) in
    record { blocks_are = sym (reverse-reverse one) ∙ ap reverse front.blocks_are ∙ reverse-reverse two; sides_are = front.sides_are; aboves_are = front.aboves_are }

-- what stands before a block
pub same_above : (block : List Step) (above below : List Event) → after block above ≡ after block below → above ≡ below
same_above [] above below h = h
same_above (step ∷ block) above below h = tails (same_above block (Did step ∷ above) (Did step ∷ below) h)

-- a block of the root has no side
no_side : (xs ys : List Step) (s : Side) (above : List Event) → did xs ++ event_of s ∷ above ≡ did ys → ⊥
no_side [] [] s above h = cc
no_side [] (y ∷ ys) s above h = no_step s y (heads h)
no_side (x ∷ xs) [] s above h = cc
no_side (x ∷ xs) (y ∷ ys) s above h = no_side xs ys s above (tails h)

pub no_root : (one two : List Step) (s : Side) (above : List Event) → after one (event_of s ∷ above) ≡ after two [] → ⊥
no_root one two s above h =
    no_side (reverse one) (reverse two) s above (sym (newest_first one (event_of s ∷ above)) ∙ h ∙ newest_first two [] ∙ append-nil (did (reverse two)))

same_steps : (xs ys : List Step) → did xs ≡ did ys → xs ≡ ys
same_steps [] [] h = refl
same_steps [] (y ∷ ys) h = absurd (cc)
same_steps (x ∷ xs) [] h = absurd (cc)
same_steps (x ∷ xs) (y ∷ ys) h = both (step_is (heads h)) (same_steps xs ys (tails h))

pub root_is : (one two : List Step) → after one [] ≡ after two [] → one ≡ two
root_is one two h =
    let turned_are = same_steps (reverse one) (reverse two) (sym (append-nil (did (reverse one))) ∙ sym (newest_first one []) ∙ h ∙ newest_first two [] ∙ append-nil (did (reverse two))) in
    sym (reverse-reverse one) ∙ ap reverse turned_are ∙ reverse-reverse two

-- a path with no event
none_left : (root : List Step) (legs : List Leg) → did root ++ events_of legs ≡ [] → (root ≡ []) × (legs ≡ [])
none_left [] [] h = (refl, refl)
none_left [] (leg ∷ legs) h = absurd (cc)
none_left (step ∷ root) legs h = absurd (cc)

pub none_of : (root : List Step) (legs : List Leg) → path_of root legs ≡ [] → (root ≡ []) × (legs ≡ [])
none_of root legs h = none_left root legs (sym (reverse-reverse (did root ++ events_of legs)) ∙ ap reverse h)

-- a path that is a block of the root
pub no_legs : (root block : List Step) (legs : List Leg) → path_of root legs ≡ after block [] → legs ≡ []
no_legs root block [] h = refl
no_legs root block (leg ∷ legs) h =
    absurd (no_side root block leg.side (did leg.block ++ events_of legs) (sym (reverse-reverse (did root ++ events_of (leg ∷ legs))) ∙ ap reverse (h ∙ after_is block [] ∙ append-nil (reverse (did block))) ∙ reverse-reverse (did block)))
