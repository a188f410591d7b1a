-- Trees whose blocks begin with small steps, narrowed.
use Rattle.std.proofs.Common.{◌≡◌, List, [], ◌∷◌, ◌++◌, true, false, inl, inr, refl, ap, append_assoc, append-nil}
use Rattle.std.proofs.lemmas.Bool.{cases_Bool}
use Rattle.cfn_model.specs.declared.step.Step.{Step}
use Rattle.cfn_model.specs.declared.step.Decision.{Decision}
use Rattle.cfn_model.specs.Tree as trees
use Rattle.cfn_model.specs.Tree.{Tree}
use Rattle.cfn_certread.specs.Narrowing.{is_small_step, is_small_decision, small_front, are_small, narrowed}
use Rattle.cfn_certread.specs.Making.{behind}

-- the first step of small ones is small, and the others are
first_small : (step : Step) (block : List Step) → are_small (step ∷ block) ≡ true → is_small_step step ≡ true
first_small step block small = elim (cases_Bool (is_small_step step)) [ inl e ↦ e | inr e ↦ absurd (let none = rw e at small in cc) ]

others_small : (step : Step) (block : List Step) → are_small (step ∷ block) ≡ true → are_small block ≡ true
others_small step block small = rw (first_small step block small) at small

pub all_small : (block : List Step) → are_small block ≡ true → small_front block ≡ block
all_small [] small = refl
all_small (step ∷ block) small = rw (first_small step block small) (ap (λ b. step ∷ b) (all_small block (others_small step block small)))

pub one_more_small : (block : List Step) (step : Step) → are_small block ≡ true → is_small_step step ≡ true → are_small (block ++ step ∷ []) ≡ true
one_more_small [] step small is = rw is refl
one_more_small (first ∷ block) step small is = rw (first_small first block small) (one_more_small block step (others_small first block small) is)

front_ends : (block : List Step) (step : Step) (more : List Step) → are_small block ≡ true → is_small_step step ≡ false → small_front (block ++ step ∷ more) ≡ block
front_ends [] step more small is = rw is refl
front_ends (first ∷ block) step more small is = rw (first_small first block small) (ap (λ b. first ∷ b) (front_ends block step more (others_small first block small) is))

not_small : (block : List Step) (step : Step) (more : List Step) → are_small block ≡ true → is_small_step step ≡ false → are_small (block ++ step ∷ more) ≡ false
not_small [] step more small is = rw is refl
not_small (first ∷ block) step more small is = rw (first_small first block small) (not_small block step more (others_small first block small) is)

-- blocks that go on
pub behind_none : (tree : Tree) → behind [] tree ≡ tree
behind_none (trees.Open steps) = refl
behind_none (trees.Closed steps) = refl
behind_none (trees.Split steps d first second) = refl

pub behind_one_more : (block : List Step) (step : Step) (tree : Tree) → behind (block ++ step ∷ []) tree ≡ behind block (behind (step ∷ []) tree)
behind_one_more block step (trees.Open steps) = ap trees.Open (append_assoc block (step ∷ []) steps)
behind_one_more block step (trees.Closed steps) = ap trees.Closed (append_assoc block (step ∷ []) steps)
behind_one_more block step (trees.Split steps d first second) = ap (λ b. trees.Split b d first second) (append_assoc block (step ∷ []) steps)

-- what a node becomes behind small steps, by the line that is next
module _ (block : List Step) (small : are_small block ≡ true) where
  pub stops_at_step : (step : Step) (tree : Tree) → is_small_step step ≡ false → narrowed (behind block (behind (step ∷ []) tree)) ≡ trees.Open block
  stops_at_step step (trees.Open steps) is = ap trees.Open (front_ends block step steps small is)
  stops_at_step step (trees.Closed steps) is = rw (not_small block step steps small is) (ap trees.Open (front_ends block step steps small is))
  stops_at_step step (trees.Split steps d first second) is = rw (not_small block step steps small is) (ap trees.Open (front_ends block step steps small is))

  pub stays_open : narrowed (behind block (trees.Open [])) ≡ trees.Open block
  stays_open = rw (append-nil block) (ap trees.Open (all_small block small))

  pub stays_closed : narrowed (behind block (trees.Closed [])) ≡ trees.Closed block
  stays_closed = rw (append-nil block, small) refl

  pub stays_split : (d : Decision) (first second : Tree) → is_small_decision d ≡ true → narrowed (behind block (trees.Split [] d first second)) ≡ trees.Split block d (narrowed first) (narrowed second)
  stays_split d first second is = rw (append-nil block, small, is) refl

  pub stops_at_split : (d : Decision) (first second : Tree) → is_small_decision d ≡ false → narrowed (behind block (trees.Split [] d first second)) ≡ trees.Open block
  stops_at_split d first second is = rw (append-nil block, small, is) (ap trees.Open (all_small block small))
