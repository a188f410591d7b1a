-- The numbers of what is in range are below 2^32 - 1, so each stands as it is with 32 bits.
use Rattle.std.proofs.Common.{◌≡◌, ◌⊎◌, ℕ, ◌<◌, inl, inr, List, [], ◌∷◌, refl, ap, ap₂, ◌∙◌, arith, slice_index}
use Rattle.std.specs.List.{AllByRecursion}
use Rattle.cfn_model.specs.declared.step.Step.{Step}
use Rattle.cfn_model.specs.declared.step.Step.TheVariants.{Project, Extend, Lift, CutValue, CutTuple}
use Rattle.cfn_model.specs.declared.step.Decision.{Decision}
use Rattle.cfn_model.specs.declared.step.Decision.TheVariants.{Is, Most}
use Rattle.cfn_model.specs.declared.step.Event.{Event}
use Rattle.cfn_model.specs.declared.step.Event.TheVariants.{Did, Took, Refused}
use Rattle.cfn_model.specs.Network.{Network, IsNetwork, arity, dims_at, scope_at}
use Rattle.cfn_model.specs.Steps.{IsValue, IsPlace, InRange, IsDecision, Allowed, Run, after}
use Rattle.cfn_model.specs.Tree.{Tree, Open, Closed, Split, Valid}
use Rattle.cfn_net.proofs.CallerLemmas.{get_or-dims}
use Rattle.cfn_certread.proofs.CallerLemmas.{few_places}
use Rattle.cfn_replay.specs.Capping.{cap, cap_step, cap_decision, cap_block, cap_tree}

-- ---- numbers in range

abbrev IsLow : ℕ → Type 0
IsLow n = n < 4294967295

abbrev AreLow : Step → Type 0
AreLow (Project f i a m) = IsLow f × IsLow i × IsLow a
AreLow (Extend f i a m) = IsLow f × IsLow i × IsLow a
AreLow (Lift x m) = IsLow x
AreLow (CutValue x a) = IsLow x × IsLow a
AreLow (CutTuple f c) = IsLow f × IsLow c

abbrev IsLowDecision : Decision → Type 0
IsLowDecision (Is x a) = IsLow x × IsLow a
IsLowDecision (Most x v) = IsLow x × IsLow v

low_value : (P : Network) (x a : ℕ) → IsNetwork P → IsValue P x a → IsLow x × IsLow a
low_value P x a network is =
    let v = is.variable in
    let w = is.value in
    let few = network.few in
    let most = (network.sizes x is.variable).1 in
    (omega (arith, v, few), omega (arith, w, most))

low_place : (P : Network) (f i a : ℕ) → IsNetwork P → IsPlace P f i a → IsLow f × IsLow i × IsLow a
low_place P f i a network is =
    let scope = scope_at P f in
    let there = is.function in
    let functions = network.few_functions in
    let place = is.place in
    let places = few_places P f network is.function in
    let few = network.few in
    let size : slice_index (dims_at P f) i ≡ slice_index P.sizes (slice_index scope i) = get_or-dims P.sizes scope i is.place in
    let most = (network.sizes (slice_index scope i) ((network.functions f is.function).variables i is.place)).1 in
    let value = is.value in
    (omega (arith, there, functions), omega (arith, place, places, few), omega (arith, value, size, most))

low_step : (P : Network) (step : Step) → IsNetwork P → InRange P step → AreLow step
low_step P (Project f i a m) network is = low_place P f i a network is
low_step P (Extend f i a m) network is = low_place P f i a network is
low_step P (Lift x m) network is = let few = network.few in omega (arith, is, few)
low_step P (CutValue x a) network is = low_value P x a network is
low_step P (CutTuple f c) network is =
    let there = is.function in
    let functions = network.few_functions in
    let cell = is.cell in
    let few = (network.functions f is.function).few in
    (omega (arith, there, functions), omega (arith, cell, few))

low_decision : (P : Network) (d : Decision) → IsNetwork P → IsDecision P d → IsLowDecision d
low_decision P (Is x a) network is = low_value P x a network is
low_decision P (Most x v) network is = low_value P x v network is

-- ---- a valid tree has such numbers alone

abbrev AreAllLow : List Step → Type 0
AreAllLow block = AllByRecursion AreLow block

abbrev IsLowTree : Tree → Type 0
IsLowTree (Open block) = AreAllLow block
IsLowTree (Closed block) = AreAllLow block
IsLowTree (Split block d first second) = AreAllLow block × IsLowDecision d × IsLowTree first × IsLowTree second

in_range : (P : Network) (history : List Event) (k : ℕ) (step : Step) → Allowed P history k step → InRange P step
in_range P history k (Project f i a m) is = is.0
in_range P history k (Extend f i a m) is = is.0
in_range P history k (Lift x m) is = is.0
in_range P history k (CutValue x a) is = is.0
in_range P history k (CutTuple f c) is = is.0

low_block : (P : Network) (history : List Event) (block : List Step) (k : ℕ) → IsNetwork P → Run P history block k → AreAllLow block
low_block P history [] k network run = tt
low_block P history (step ∷ block) k network run = (low_step P step network (in_range P history k step run.0), low_block P (Did step ∷ history) block k network run.1)

low_tree : (P : Network) (history : List Event) (tree : Tree) (k : ℕ) → IsNetwork P → Valid P history tree k → IsLowTree tree
low_tree P history (Open block) k network valid = low_block P history block k network valid
low_tree P history (Closed block) k network valid = low_block P history block k network valid.0
low_tree P history (Split block d first second) k network valid = (
  low_block P history block k network valid.0,
  low_decision P d network valid.1,
  low_tree P (Took d ∷ after block history) first k network valid.2,
  low_tree P (Refused d ∷ after block history) second k network valid.3,
)

-- ---- so it stands as it is

-- a number that is low, or stands as one that is low
abbrev Stays : ℕ → Type 0
Stays n = IsLow n ⊎ IsLow (cap n)

stays : (n : ℕ) → Stays n → cap n ≡ n
stays n (inl low) = omega (arith, low)
stays n (inr low) = omega (arith, low)

abbrev StaysStep : Step → Type 0
StaysStep step = AreLow step ⊎ AreLow (cap_step step)

stays_three : (make : ℕ → ℕ → ℕ → Step) (f i a : ℕ) → (IsLow f × IsLow i × IsLow a) ⊎ (IsLow (cap f) × IsLow (cap i) × IsLow (cap a)) → make (cap f) (cap i) (cap a) ≡ make f i a
stays_three make f i a (inl low) = ap (λ x. make x (cap i) (cap a)) (stays f (inl low.0)) ∙ ap₂ (λ x y. make f x y) (stays i (inl low.1)) (stays a (inl low.2))
stays_three make f i a (inr low) = ap (λ x. make x (cap i) (cap a)) (stays f (inr low.0)) ∙ ap₂ (λ x y. make f x y) (stays i (inr low.1)) (stays a (inr low.2))

stays_two : {T : Type 0} (make : ℕ → ℕ → T) (x a : ℕ) → (IsLow x × IsLow a) ⊎ (IsLow (cap x) × IsLow (cap a)) → make (cap x) (cap a) ≡ make x a
stays_two make x a (inl low) = ap₂ make (stays x (inl low.0)) (stays a (inl low.1))
stays_two make x a (inr low) = ap₂ make (stays x (inr low.0)) (stays a (inr low.1))

stays_step : (step : Step) → StaysStep step → cap_step step ≡ step
stays_step (Project f i a m) low = stays_three (λ x y z. Project x y z m) f i a low
stays_step (Extend f i a m) low = stays_three (λ x y z. Extend x y z m) f i a low
stays_step (Lift x m) low = ap (λ y. Lift y m) (stays x low)
stays_step (CutValue x a) low = stays_two (λ y z. CutValue y z) x a low
stays_step (CutTuple f c) low = stays_two (λ y z. CutTuple y z) f c low

stays_decision : (d : Decision) → IsLowDecision d ⊎ IsLowDecision (cap_decision d) → cap_decision d ≡ d
stays_decision (Is x a) low = stays_two (λ y z. Is y z) x a low
stays_decision (Most x v) low = stays_two (λ y z. Most y z) x v low

stays_block : (block : List Step) → AreAllLow block ⊎ AreAllLow (cap_block block) → cap_block block ≡ block
stays_block [] low = refl
stays_block (step ∷ block) (inl low) = ap₂ (λ s b. s ∷ b) (stays_step step (inl low.0)) (stays_block block (inl low.1))
stays_block (step ∷ block) (inr low) = ap₂ (λ s b. s ∷ b) (stays_step step (inr low.0)) (stays_block block (inr low.1))

same_split : (block more : List Step) (d e : Decision) (first first' second second' : Tree) → block ≡ more → d ≡ e → first ≡ first' → second ≡ second' → Split block d first second ≡ Split more e first' second'
same_split block more d e first first' second second' b s f g = ap₂ (λ x y. Split x y first second) b s ∙ ap₂ (λ x y. Split more e x y) f g

stays_tree : (tree : Tree) → IsLowTree tree ⊎ IsLowTree (cap_tree tree) → cap_tree tree ≡ tree
stays_tree (Open block) low = ap (λ b. Open b) (stays_block block low)
stays_tree (Closed block) low = ap (λ b. Closed b) (stays_block block low)
stays_tree (Split block d first second) (inl low) =
    same_split (cap_block block) block (cap_decision d) d (cap_tree first) first (cap_tree second) second (stays_block block (inl low.0)) (stays_decision d (inl low.1)) (stays_tree first (inl low.2)) (stays_tree second (inl low.3))
stays_tree (Split block d first second) (inr low) =
    same_split (cap_block block) block (cap_decision d) d (cap_tree first) first (cap_tree second) second (stays_block block (inr low.0)) (stays_decision d (inr low.1)) (stays_tree first (inr low.2)) (stays_tree second (inr low.3))

-- a tree that is valid stands as it is, and so does one that is valid with 32 bits for each number
pub valid_stays : (P : Network) (tree : Tree) (k : ℕ) → IsNetwork P → Valid P [] tree k → cap_tree tree ≡ tree
valid_stays P tree k network valid = stays_tree tree (inl (low_tree P [] tree k network valid))

pub valid_is_own : (P : Network) (tree : Tree) (k : ℕ) → IsNetwork P → Valid P [] (cap_tree tree) k → cap_tree tree ≡ tree
valid_is_own P tree k network valid = stays_tree tree (inr (low_tree P [] (cap_tree tree) k network valid))
