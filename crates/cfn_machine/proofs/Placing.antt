-- What a tree keeps where another takes the place of one of its leaves, where its leaves are called back, and where
-- its free leaves are closed.
use Rattle.std.proofs.Common.{◌≡◌, ℕ, ◌+◌, ◌≤◌, inl, inr, List, [], ◌∷◌, ◌++◌, refl, sym, ap₂, subst, arith, true, false, Bool, nat_le, if◌then◌else◌, leb-true}
use Rattle.cfn_model.specs.declared.step.Step.{Step}
use Rattle.cfn_model.specs.declared.step.Event.{Event}
use Rattle.cfn_model.specs.declared.step.Event.TheVariants.{Did, Took, Refused}
use Rattle.cfn_model.specs.Network.{Network}
use Rattle.cfn_model.specs.Sums.{floor}
use Rattle.cfn_model.specs.Steps.{Run, after}
use Rattle.cfn_model.specs.Tree.{Tree, Open, Closed, Split, count, splits, open_leaves, CanClose, Valid, IsStrictSplit, Strict}
use Rattle.cfn_model.specs.Paths.{TameBlock, Tame}
use Rattle.cfn_machine.specs.Pool.{Mark, Free, Out, PoolTree, Leaf, Shut, Fork, tree_of, Replaced, grant_of, granted, numbered, recalled, swept, behind}

-- blocks one behind another
pub after_append : (block more : List Step) (history : List Event) → after (block ++ more) history ≡ after more (after block history)
after_append [] more history = refl
after_append (step ∷ block) more history = after_append block more (Did step ∷ history)

run_append : (P : Network) (k : ℕ) (block more : List Step) (history : List Event) → Run P history block k → Run P (after block history) more k → Run P history (block ++ more) k
run_append P k [] more history run more_run = more_run
run_append P k (step ∷ block) more history run more_run = (run.0, run_append P k block more (Did step ∷ history) run.1 more_run)

tame_append : (P : Network) (block more : List Step) (history : List Event) → TameBlock P history block → TameBlock P (after block history) more → TameBlock P history (block ++ more)
tame_append P [] more history tame more_tame = more_tame
tame_append P (step ∷ block) more history tame more_tame = (tame.0, tame_append P block more (Did step ∷ history) tame.1 more_tame)

-- a tree behind a block
module _ (P : Network) (block : List Step) (history : List Event) where
  behind_valid : (k : ℕ) (tree : PoolTree) → Run P history block k → Valid P (after block history) (tree_of tree) k → Valid P history (tree_of (behind block tree)) k
  behind_valid k (Leaf n m more) run valid = run_append P k block more history run valid
  behind_valid k (Shut more) run valid = (run_append P k block more history run valid.0, subst (λ h. CanClose P h k) (sym (after_append block more history)) valid.1)
  behind_valid k (Fork more d first second) run valid = (
    run_append P k block more history run valid.0,
    valid.1,
    subst (λ h. Valid P (Took d ∷ h) (tree_of first) k) (sym (after_append block more history)) valid.2,
    subst (λ h. Valid P (Refused d ∷ h) (tree_of second) k) (sym (after_append block more history)) valid.3,
  )

  behind_strict : (tree : PoolTree) → Strict P (after block history) (tree_of tree) → Strict P history (tree_of (behind block tree))
  behind_strict (Leaf n m more) strict = tt
  behind_strict (Shut more) strict = tt
  behind_strict (Fork more d first second) strict = subst (λ h. IsStrictSplit P h d × Strict P (Took d ∷ h) (tree_of first) × Strict P (Refused d ∷ h) (tree_of second)) (sym (after_append block more history)) strict

  behind_tame : (tree : PoolTree) → TameBlock P history block → Tame P (after block history) (tree_of tree) → Tame P history (tree_of (behind block tree))
  behind_tame (Leaf n m more) along tame = tame_append P block more history along tame
  behind_tame (Shut more) along tame = tame_append P block more history along tame
  behind_tame (Fork more d first second) along tame = (
    tame_append P block more history along tame.0,
    subst (λ h. Tame P (Took d ∷ h) (tree_of first)) (sym (after_append block more history)) tame.1,
    subst (λ h. Tame P (Refused d ∷ h) (tree_of second)) (sym (after_append block more history)) tame.2,
  )

behind_count : (block : List Step) (tree : PoolTree) → count (tree_of (behind block tree)) ≡ count (tree_of tree)
behind_count block (Leaf n m more) = refl
behind_count block (Shut more) = refl
behind_count block (Fork more d first second) = refl

behind_splits : (block : List Step) (tree : PoolTree) → splits (tree_of (behind block tree)) ≡ splits (tree_of tree)
behind_splits block (Leaf n m more) = refl
behind_splits block (Shut more) = refl
behind_splits block (Fork more d first second) = refl

behind_granted : (block : List Step) (tree : PoolTree) → granted (behind block tree) ≡ granted tree
behind_granted block (Leaf n m more) = refl
behind_granted block (Shut more) = refl
behind_granted block (Fork more d first second) = refl

-- a tree in the place of one leaf
module _ (n : ℕ) (mark : Mark) (path : List Event) (place : PoolTree) where
  pub replaced_valid : (P : Network) (k : ℕ) (tree : PoolTree) (history : List Event) (new : PoolTree) → Replaced tree history n mark path place new →
      Valid P path (tree_of place) k → Valid P history (tree_of tree) k → Valid P history (tree_of new) k
  replaced_valid P k (Leaf number m block) history new at in_place valid =
      subst (λ t. Valid P history (tree_of t) k) (sym at.3) (behind_valid P block history k place valid (subst (λ h. Valid P h (tree_of place) k) at.2 in_place))
  replaced_valid P k (Shut block) history new at in_place valid = absurd at
  replaced_valid P k (Fork block d first second) history new (inl at) in_place valid =
      subst (λ t. Valid P history (tree_of t) k) (sym at.2) (valid.0, valid.1, replaced_valid P k first (Took d ∷ after block history) at.0 at.1 in_place valid.2, valid.3)
  replaced_valid P k (Fork block d first second) history new (inr at) in_place valid =
      subst (λ t. Valid P history (tree_of t) k) (sym at.2) (valid.0, valid.1, valid.2, replaced_valid P k second (Refused d ∷ after block history) at.0 at.1 in_place valid.3)

  pub replaced_strict : (P : Network) (tree : PoolTree) (history : List Event) (new : PoolTree) → Replaced tree history n mark path place new →
      Strict P path (tree_of place) → Strict P history (tree_of tree) → Strict P history (tree_of new)
  replaced_strict P (Leaf number m block) history new at in_place strict =
      subst (λ t. Strict P history (tree_of t)) (sym at.3) (behind_strict P block history place (subst (λ h. Strict P h (tree_of place)) at.2 in_place))
  replaced_strict P (Shut block) history new at in_place strict = absurd at
  replaced_strict P (Fork block d first second) history new (inl at) in_place strict =
      subst (λ t. Strict P history (tree_of t)) (sym at.2) (strict.0, replaced_strict P first (Took d ∷ after block history) at.0 at.1 in_place strict.1, strict.2)
  replaced_strict P (Fork block d first second) history new (inr at) in_place strict =
      subst (λ t. Strict P history (tree_of t)) (sym at.2) (strict.0, strict.1, replaced_strict P second (Refused d ∷ after block history) at.0 at.1 in_place strict.2)

  pub replaced_tame : (P : Network) (tree : PoolTree) (history : List Event) (new : PoolTree) → Replaced tree history n mark path place new →
      Tame P path (tree_of place) → Tame P history (tree_of tree) → Tame P history (tree_of new)
  replaced_tame P (Leaf number m block) history new at in_place tame =
      subst (λ t. Tame P history (tree_of t)) (sym at.3) (behind_tame P block history place tame (subst (λ h. Tame P h (tree_of place)) at.2 in_place))
  replaced_tame P (Shut block) history new at in_place tame = absurd at
  replaced_tame P (Fork block d first second) history new (inl at) in_place tame =
      subst (λ t. Tame P history (tree_of t)) (sym at.2) (tame.0, replaced_tame P first (Took d ∷ after block history) at.0 at.1 in_place tame.1, tame.2)
  replaced_tame P (Fork block d first second) history new (inr at) in_place tame =
      subst (λ t. Tame P history (tree_of t)) (sym at.2) (tame.0, tame.1, replaced_tame P second (Refused d ∷ after block history) at.0 at.1 in_place tame.2)

  pub replaced_count : (tree : PoolTree) (history : List Event) (new : PoolTree) → Replaced tree history n mark path place new →
      count (tree_of new) ≡ count (tree_of tree) + count (tree_of place)
  replaced_count (Leaf number m block) history new at = rw at.3 (omega (arith, behind_count block place))
  replaced_count (Shut block) history new at = absurd at
  replaced_count (Fork block d first second) history new (inl at) =
      let below = replaced_count first (Took d ∷ after block history) at.0 at.1 in rw at.2 (omega (arith, below))
  replaced_count (Fork block d first second) history new (inr at) =
      let below = replaced_count second (Refused d ∷ after block history) at.0 at.1 in rw at.2 (omega (arith, below))

  pub replaced_splits : (tree : PoolTree) (history : List Event) (new : PoolTree) → Replaced tree history n mark path place new →
      splits (tree_of new) ≡ splits (tree_of tree) + splits (tree_of place)
  replaced_splits (Leaf number m block) history new at = rw at.3 (omega (arith, behind_splits block place))
  replaced_splits (Shut block) history new at = absurd at
  replaced_splits (Fork block d first second) history new (inl at) =
      let below = replaced_splits first (Took d ∷ after block history) at.0 at.1 in rw at.2 (omega (arith, below))
  replaced_splits (Fork block d first second) history new (inr at) =
      let below = replaced_splits second (Refused d ∷ after block history) at.0 at.1 in rw at.2 (omega (arith, below))

  pub replaced_granted : (tree : PoolTree) (history : List Event) (new : PoolTree) → Replaced tree history n mark path place new →
      granted new + grant_of mark ≡ granted tree + granted place
  replaced_granted (Leaf number m block) history new at = rw at.3 (rw at.1 (omega (arith, behind_granted block place)))
  replaced_granted (Shut block) history new at = absurd at
  replaced_granted (Fork block d first second) history new (inl at) =
      let below = replaced_granted first (Took d ∷ after block history) at.0 at.1 in rw at.2 (omega (arith, below))
  replaced_granted (Fork block d first second) history new (inr at) =
      let below = replaced_granted second (Refused d ∷ after block history) at.0 at.1 in rw at.2 (omega (arith, below))

-- a tree with its leaves numbered is the tree, and nothing of it is granted
pub numbered_is : (tree : Tree) (next : ℕ) → tree_of (numbered next tree) ≡ tree
numbered_is (Open block) next = refl
numbered_is (Closed block) next = refl
numbered_is (Split block d first second) next =
    ap₂ (λ f s. Split block d f s) (numbered_is first next) (numbered_is second (next + open_leaves first))

pub numbered_granted : (tree : Tree) (next : ℕ) → granted (numbered next tree) ≡ 0
numbered_granted (Open block) next = refl
numbered_granted (Closed block) next = refl
numbered_granted (Split block d first second) next =
    omega (arith, numbered_granted first next, numbered_granted second (next + open_leaves first))

-- a tree with its leaves called back is the tree, and nothing of it is granted
pub recalled_is : (tree : PoolTree) → tree_of (recalled tree) ≡ tree_of tree
recalled_is (Leaf number mark block) = refl
recalled_is (Shut block) = refl
recalled_is (Fork block d first second) = ap₂ (λ f s. Split block d f s) (recalled_is first) (recalled_is second)

pub recalled_granted : (tree : PoolTree) → granted (recalled tree) ≡ 0
recalled_granted (Leaf number mark block) = refl
recalled_granted (Shut block) = refl
recalled_granted (Fork block d first second) = omega (arith, recalled_granted first, recalled_granted second)

-- a tree whose free leaves are closed where their floor is at least k
module _ (P : Network) (k : ℕ) where
  -- a free leaf, by the test of its floor
  leaf_valid : (b : Bool) (n : ℕ) (block : List Step) (history : List Event) → nat_le k (floor P (after block history)) ≡ b → Run P history block k →
      Valid P history (tree_of (if b then Shut block else Leaf n Free block)) k
  leaf_valid true n block history test run = (run, inl (leb-true _ _ test))
  leaf_valid false n block history test run = run

  pub swept_valid : (tree : PoolTree) (history : List Event) → Valid P history (tree_of tree) k → Valid P history (tree_of (swept P k tree history)) k
  swept_valid (Leaf n Free block) history valid = leaf_valid (nat_le k (floor P (after block history))) n block history refl valid
  swept_valid (Leaf n (Out w g) block) history valid = valid
  swept_valid (Shut block) history valid = valid
  swept_valid (Fork block d first second) history valid =
      (valid.0, valid.1, swept_valid first (Took d ∷ after block history) valid.2, swept_valid second (Refused d ∷ after block history) valid.3)

  leaf_strict : (b : Bool) (n : ℕ) (block : List Step) (history : List Event) → Strict P history (tree_of (if b then Shut block else Leaf n Free block))
  leaf_strict true n block history = tt
  leaf_strict false n block history = tt

  pub swept_strict : (tree : PoolTree) (history : List Event) → Strict P history (tree_of tree) → Strict P history (tree_of (swept P k tree history))
  swept_strict (Leaf n Free block) history strict = leaf_strict (nat_le k (floor P (after block history))) n block history
  swept_strict (Leaf n (Out w g) block) history strict = strict
  swept_strict (Shut block) history strict = strict
  swept_strict (Fork block d first second) history strict =
      (strict.0, swept_strict first (Took d ∷ after block history) strict.1, swept_strict second (Refused d ∷ after block history) strict.2)

  leaf_tame : (b : Bool) (n : ℕ) (block : List Step) (history : List Event) → TameBlock P history block → Tame P history (tree_of (if b then Shut block else Leaf n Free block))
  leaf_tame true n block history tame = tame
  leaf_tame false n block history tame = tame

  pub swept_tame : (tree : PoolTree) (history : List Event) → Tame P history (tree_of tree) → Tame P history (tree_of (swept P k tree history))
  swept_tame (Leaf n Free block) history tame = leaf_tame (nat_le k (floor P (after block history))) n block history tame
  swept_tame (Leaf n (Out w g) block) history tame = tame
  swept_tame (Shut block) history tame = tame
  swept_tame (Fork block d first second) history tame =
      (tame.0, swept_tame first (Took d ∷ after block history) tame.1, swept_tame second (Refused d ∷ after block history) tame.2)

  leaf_granted : (b : Bool) (n : ℕ) (block : List Step) → granted (if b then Shut block else Leaf n Free block) ≡ 0
  leaf_granted true n block = refl
  leaf_granted false n block = refl

  pub swept_granted : (tree : PoolTree) (history : List Event) → granted (swept P k tree history) ≡ granted tree
  swept_granted (Leaf n Free block) history = leaf_granted (nat_le k (floor P (after block history))) n block
  swept_granted (Leaf n (Out w g) block) history = refl
  swept_granted (Shut block) history = refl
  swept_granted (Fork block d first second) history =
      ap₂ (λ f s. f + s) (swept_granted first (Took d ∷ after block history)) (swept_granted second (Refused d ∷ after block history))

  pub swept_count : (tree : PoolTree) (history : List Event) → count (tree_of tree) ≤ count (tree_of (swept P k tree history))
  swept_count (Leaf n Free block) history = omega arith
  swept_count (Leaf n (Out w g) block) history = omega arith
  swept_count (Shut block) history = omega arith
  swept_count (Fork block d first second) history =
      omega (arith, swept_count first (Took d ∷ after block history), swept_count second (Refused d ∷ after block history))

  leaf_splits : (b : Bool) (n : ℕ) (block : List Step) → splits (tree_of (if b then Shut block else Leaf n Free block)) ≡ 0
  leaf_splits true n block = refl
  leaf_splits false n block = refl

  pub swept_splits : (tree : PoolTree) (history : List Event) → splits (tree_of (swept P k tree history)) ≡ splits (tree_of tree)
  swept_splits (Leaf n Free block) history = leaf_splits (nat_le k (floor P (after block history))) n block
  swept_splits (Leaf n (Out w g) block) history = refl
  swept_splits (Shut block) history = refl
  swept_splits (Fork block d first second) history =
      omega (arith, swept_splits first (Took d ∷ after block history), swept_splits second (Refused d ∷ after block history))

-- no tree has more splits than splits and closed leaves
pub splits_count : (tree : Tree) → splits tree ≤ count tree
splits_count (Open block) = omega arith
splits_count (Closed block) = omega arith
splits_count (Split block d first second) = omega (arith, splits_count first, splits_count second)
