-- Two lists of actions with their answers, at any network in which they are legal: its upper bound is at most 10, and its
-- variable 0 has two values or more. A worker takes the root with one node to make, and gives it back split at the value 0
-- of the variable 0.
use Rattle.std.specs.Prelude.{◌≡◌, ◌≤◌, List, [], ◌∷◌, slice_index}
use Rattle.cfn_model.specs.declared.step.Decision.TheVariants.{Is}
use Rattle.cfn_model.specs.Network.{Network, IsNetwork}
use Rattle.cfn_model.specs.Sums.{floor}
use Rattle.cfn_model.specs.Tree.{Open, Split}
use Rattle.cfn_machine.specs.Pool.{Free, Leaf, Fork, Task, Piece}
use Rattle.cfn_core.specs.World.{World, opening}
use Rattle.cfn_core.specs.Actions.{Action, Take, Note, Give, Recall, Given, Noted, Done, Gone, Spent, AreActions, Runs}

pub record IsSplittable (P : Network) : Type 0 where
  pub network : IsNetwork P
  pub low : P.upper ≤ 10
  pub values : 2 ≤ slice_index P.sizes 0

-- A network of this kind: one variable of two values, and no function.
abbrev pub one_variable : Network
one_variable = record { name = 120 ∷ []; sizes = 2 ∷ []; upper = 10; functions = [] }

abbrev pub root_task : Network → Task
root_task P = record { leaf = 0; worker = 0; grant = 1; floor = floor P []; path = [] }

abbrev pub root_split : Network → Piece
root_split P = record { task = root_task P; tree = Split [] (Is 0 0) (Open []) (Open []); threshold = 10 }

abbrev pub splitting : Network → List Action
splitting P = Take 0 1 ∷ Note 0 ∷ Give (root_split P) 0 ∷ Take 0 1 ∷ []

abbrev pub recalling : Network → List Action
recalling P = Take 0 1 ∷ Note 0 ∷ Recall ∷ Give (root_split P) 0 ∷ []

-- With a budget of 1 the split spends it: the next taker is told so. The new leaves have the numbers 1 and 2.
abbrev pub SplitSpends : Type 0
SplitSpends = (P : Network) → IsSplittable P → AreActions P (splitting P)
    × ((w : World)
    × Runs P (opening P 1 1) (splitting P) (Given (root_task P) ∷ Noted 0 ∷ Done ∷ Spent ∷ []) w
    × (w.pool.tree ≡ Fork [] (Is 0 0) (Leaf 1 Free []) (Leaf 2 Free [])))

-- Where the root was called back before, the split is refused, and the next taker gets the root again.
abbrev pub RecallRefuses : Type 0
RecallRefuses = (P : Network) → IsSplittable P → AreActions P (recalling P)
    × ((between w : World)
    × Runs P (opening P 1 2) (recalling P) (Given (root_task P) ∷ Noted 0 ∷ Done ∷ Gone ∷ []) between
    × (between.pool.tree ≡ Leaf 0 Free [])
    × Runs P between (Take 0 1 ∷ []) (Given (root_task P) ∷ []) w)
