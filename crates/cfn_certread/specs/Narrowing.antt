-- A tree of a text as far as its numbers have 32 bits: no network has a number of 2^32 or more in range.
use Rattle.std.specs.Prelude.{ℕ, List, [], ◌∷◌, Bool, true, false, ◌&&◌, if◌then◌else◌, nat_lt}
use Rattle.cfn_model.specs.declared.step.Step.{Step}
use Rattle.cfn_model.specs.declared.step.Step.TheVariants.{Project, Extend, Lift, CutValue, CutTuple}
use Rattle.cfn_model.specs.declared.step.Decision.{Decision}
use Rattle.cfn_model.specs.declared.step.Decision.TheVariants.{Is, Most}
use Rattle.cfn_model.specs.Tree as trees
use Rattle.cfn_model.specs.Tree.{Tree}

-- A number below 2^32.
abbrev pub is_small : ℕ → Bool
is_small n = nat_lt n 4294967296

-- A step all of whose numbers but its amount are small, and a decision all of whose numbers are.
abbrev pub is_small_step : Step → Bool
is_small_step (Project f i a m) = is_small f && (is_small i && is_small a)
is_small_step (Extend f i a m) = is_small f && (is_small i && is_small a)
is_small_step (Lift x m) = is_small x
is_small_step (CutValue x a) = is_small x && is_small a
is_small_step (CutTuple f c) = is_small f && is_small c

abbrev pub is_small_decision : Decision → Bool
is_small_decision (Is x a) = is_small x && is_small a
is_small_decision (Most x v) = is_small x && is_small v

-- The steps of a block before the first that is not small, and whether all are small.
abbrev pub small_front : List Step → List Step
small_front [] = []
small_front (step ∷ block) = if is_small_step step then step ∷ small_front block else []

abbrev pub are_small : List Step → Bool
are_small [] = true
are_small (step ∷ block) = if is_small_step step then are_small block else false

-- The same tree, but that at the first step or decision that is not small a block ends, and its node is an open leaf.
abbrev pub narrowed : Tree → Tree
narrowed (trees.Open block) = trees.Open (small_front block)
narrowed (trees.Closed block) = if are_small block then trees.Closed block else trees.Open (small_front block)
narrowed (trees.Split block d first second) =
    if are_small block && is_small_decision d then trees.Split block d (narrowed first) (narrowed second) else trees.Open (small_front block)
