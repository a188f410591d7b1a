-- Where a block began, and which blocks are parts of it.
use Rattle.std.specs.Prelude.{◌≡◌, ◌+◌, ◌⊎◌, List, [], ◌∷◌, length}
use Rattle.cfn_model.specs.declared.step.Step.{Step}
use Rattle.cfn_store.specs.Standing.{Standing}

-- A mark stands where a store's block began.
pub record IsBegin (mark s : Standing) : Type 0 where
  pub network : mark.network ≡ s.network
  pub base : mark.base ≡ s.base
  pub none : mark.block ≡ []

-- Steps are some of others, in their order.
abbrev pub AreSome : List Step → List Step → Type 0
AreSome part [] = part ≡ []
AreSome part (step ∷ whole) = AreSome part whole ⊎ ((rest : List Step) × (part ≡ step ∷ rest) × AreSome rest whole)

-- Two standings are behind one base, and there is room for as long a block.
pub record IsBeside (before now : Standing) : Type 0 where
  pub network : now.network ≡ before.network
  pub base : now.base ≡ before.base
  pub room : now.spare + length now.block ≡ before.spare + length before.block
