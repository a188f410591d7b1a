-- What is kept of a tree is one tree, and well formed.
use Rattle.std.proofs.Common.{◌≡◌, ℕ, inl, inr, List, [], ◌∷◌, ◌++◌, refl, sym, ap, ap₂, ◌∙◌, subst}
use Rattle.std.proofs.lemmas.List.{append-nil}
use Rattle.cfn_model.specs.declared.step.Step.{Step}
use Rattle.cfn_model.specs.declared.step.Event.{Event}
use Rattle.cfn_model.specs.declared.step.Event.TheVariants.{Did, Took, Refused}
use Rattle.cfn_model.specs.Network.{Network}
use Rattle.cfn_model.specs.Paths.{HasSmallCosts, TameBlock, Tame}
use Rattle.cfn_model.specs.Steps.{Run, after}
use Rattle.cfn_model.specs.Tree.{Tree, Open, Closed, Split, CanClose, IsStrictSplit, Valid, Strict}
use Rattle.cfn_mending.specs.Keeping.{Stops, IsFront, Kept}
use Rattle.cfn_mending.specs.Laws.{IsWell, KeptIsWell, KeptOnce, KeepsAll}

tame_head : (P : Network) (history : List Event) (block : List Step) → TameBlock P history block → HasSmallCosts P history
tame_head P history [] t = t
tame_head P history (step ∷ block) t = t.0

head_of : (step other : Step) (xs ys : List Step) → step ∷ xs ≡ other ∷ ys → step ≡ other
head_of step other xs ys e = cc

tail_of : (step other : Step) (xs ys : List Step) → step ∷ xs ≡ other ∷ ys → xs ≡ ys
tail_of step other xs ys e = cc

-- a block's front is one
fronts : (P : Network) (k : ℕ) (history : List Event) (front rest other left : List Step) → front ++ rest ≡ other ++ left →
    Run P history front k → TameBlock P history front → Stops P (after front history) k rest →
    Run P history other k → TameBlock P history other → Stops P (after other history) k left → (front ≡ other) × (rest ≡ left)
fronts P k history [] rest [] left same runs tame stops runs' tame' stops' = (refl, same)
fronts P k history [] rest (step ∷ other) left same runs tame stops runs' tame' stops' =
    absurd (let s : Stops P history k (step ∷ (other ++ left)) = subst (Stops P history k) same stops in s (runs'.0, tame_head P (Did step ∷ history) other tame'.1))
fronts P k history (step ∷ front) rest [] left same runs tame stops runs' tame' stops' =
    absurd (let s : Stops P history k (step ∷ (front ++ rest)) = subst (Stops P history k) (sym same) stops' in s (runs.0, tame_head P (Did step ∷ history) front tame.1))
fronts P k history (step ∷ front) rest (step' ∷ other) left same runs tame stops runs' tame' stops' =
    let heads : step ≡ step' = head_of step step' (front ++ rest) (other ++ left) same in
    let tails : front ++ rest ≡ other ++ left = tail_of step step' (front ++ rest) (other ++ left) same in
    let r = subst (λ (s : Step). Run P (Did s ∷ history) other k) (sym heads) runs'.1 in
    let t = subst (λ (s : Step). TameBlock P (Did s ∷ history) other) (sym heads) tame'.1 in
    let z = subst (λ (s : Step). Stops P (after other (Did s ∷ history)) k left) (sym heads) stops' in
    let more = fronts P k (Did step ∷ history) front rest other left tails runs.1 tame.1 stops r t z in
    (ap₂ ◌∷◌ heads more.0, more.1)

one_front : (P : Network) (history : List Event) (k : ℕ) (block front rest other left : List Step) → IsFront P history k block front rest → IsFront P history k block other left → (front ≡ other) × (rest ≡ left)
one_front P history k block front rest other left a b = fronts P k history front rest other left (sym a.split ∙ b.split) a.runs a.tame a.stops b.runs b.tame b.stops

pub kept_is_well : KeptIsWell
kept_is_well P history k (Open block) new (front, rest, is, at) =
    subst (IsWell P history k) (sym at) (record { valid = is.runs; strict = tt; tame = is.tame })
kept_is_well P history k (Closed block) new (front, rest, is, inl (none, can, at)) =
    subst (IsWell P history k) (sym at) (record { valid = (is.runs, can); strict = tt; tame = is.tame })
kept_is_well P history k (Closed block) new (front, rest, is, inr (bars, at)) =
    subst (IsWell P history k) (sym at) (record { valid = is.runs; strict = tt; tame = is.tame })
kept_is_well P history k (Split block d first second) new (front, rest, is, inl (none, range, strict, (one, two, a, b, at))) =
    let l = kept_is_well P (Took d ∷ after front history) k first one a in
    let r = kept_is_well P (Refused d ∷ after front history) k second two b in
    subst (IsWell P history k) (sym at) (record { valid = (is.runs, range, l.valid, r.valid); strict = (strict, l.strict, r.strict); tame = (is.tame, l.tame, r.tame) })
kept_is_well P history k (Split block d first second) new (front, rest, is, inr (bars, at)) =
    subst (IsWell P history k) (sym at) (record { valid = is.runs; strict = tt; tame = is.tame })

pub kept_once : KeptOnce
kept_once P history k (Open block) new other (front, rest, is, at) (front', rest', is', at') =
    let f = one_front P history k block front rest front' rest' is is' in at ∙ ap Open f.0 ∙ sym at'
kept_once P history k (Closed block) new other (front, rest, is, inl (none, can, at)) (front', rest', is', inl (none', can', at')) =
    let f = one_front P history k block front rest front' rest' is is' in at ∙ ap Closed f.0 ∙ sym at'
kept_once P history k (Closed block) new other (front, rest, is, inl (none, can, at)) (front', rest', is', inr (bars', at')) =
    let f = one_front P history k block front rest front' rest' is is' in
    absurd (bars' (sym f.1 ∙ none, subst (λ b. CanClose P (after b history) k) f.0 can))
kept_once P history k (Closed block) new other (front, rest, is, inr (bars, at)) (front', rest', is', inl (none', can', at')) =
    let f = one_front P history k block front rest front' rest' is is' in
    absurd (bars (f.1 ∙ none', subst (λ b. CanClose P (after b history) k) (sym f.0) can'))
kept_once P history k (Closed block) new other (front, rest, is, inr (bars, at)) (front', rest', is', inr (bars', at')) =
    let f = one_front P history k block front rest front' rest' is is' in at ∙ ap Open f.0 ∙ sym at'
kept_once P history k (Split block d first second) new other (front, rest, is, inl (none, range, strict, (one, two, a, b, at))) (front', rest', is', inl (none', range', strict', (one', two', a', b', at'))) =
    let f = one_front P history k block front rest front' rest' is is' in
    let a'' = subst (λ c. Kept P (Took d ∷ after c history) k first one') (sym f.0) a' in
    let b'' = subst (λ c. Kept P (Refused d ∷ after c history) k second two') (sym f.0) b' in
    let l = kept_once P (Took d ∷ after front history) k first one one' a a'' in
    let r = kept_once P (Refused d ∷ after front history) k second two two' b b'' in
    at ∙ ap (λ c. Split c d one two) f.0 ∙ ap₂ (λ x y. Split front' d x y) l r ∙ sym at'
kept_once P history k (Split block d first second) new other (front, rest, is, inl (none, range, strict, both)) (front', rest', is', inr (bars', at')) =
    let f = one_front P history k block front rest front' rest' is is' in
    absurd (bars' (sym f.1 ∙ none, range, subst (λ b. IsStrictSplit P (after b history) d) f.0 strict))
kept_once P history k (Split block d first second) new other (front, rest, is, inr (bars, at)) (front', rest', is', inl (none', range', strict', both)) =
    let f = one_front P history k block front rest front' rest' is is' in
    absurd (bars (f.1 ∙ none', range', subst (λ b. IsStrictSplit P (after b history) d) (sym f.0) strict'))
kept_once P history k (Split block d first second) new other (front, rest, is, inr (bars, at)) (front', rest', is', inr (bars', at')) =
    let f = one_front P history k block front rest front' rest' is is' in at ∙ ap Open f.0 ∙ sym at'

whole_front : (P : Network) (history : List Event) (k : ℕ) (block : List Step) → Run P history block k → TameBlock P history block → IsFront P history k block block []
whole_front P history k block runs tame = record { split = sym (append-nil block); runs = runs; tame = tame; stops = tt }

-- a tree that is well formed is kept as it is
itself : (P : Network) (history : List Event) (k : ℕ) (tree : Tree) → Valid P history tree k → Strict P history tree → Tame P history tree → Kept P history k tree tree
itself P history k (Open block) valid strict tame = (block, [], whole_front P history k block valid tame, refl)
itself P history k (Closed block) valid strict tame = (block, [], whole_front P history k block valid.0 tame, inl (refl, valid.1, refl))
itself P history k (Split block d first second) valid strict tame =
    let l = itself P (Took d ∷ after block history) k first valid.2 strict.1 tame.1 in
    let r = itself P (Refused d ∷ after block history) k second valid.3 strict.2 tame.2 in
    (block, [], whole_front P history k block valid.0 tame.0, inl (refl, valid.1, strict.0, (first, second, l, r, refl)))

pub keeps_all : KeepsAll
keeps_all P history k old new well kept = kept_once P history k old new old kept (itself P history k old well.valid well.strict well.tame)
