-- How many backtracks a depth-first search has made to make a tree.
use Rattle.std.specs.Prelude.{ℕ, zero, suc, ◌+◌}
use Rattle.cfn_model.specs.Tree.{Tree, Open, Closed, Split, open_leaves}

-- One where a number is 0, and else none.
abbrev pub one_if_none : ℕ → ℕ
one_if_none zero = 1
one_if_none (suc n) = 0

-- The splits whose first subtree has no open leaf: there the search has gone back to the second child.
abbrev pub backtracks : Tree → ℕ
backtracks (Open block) = 0
backtracks (Closed block) = 0
backtracks (Split block d first second) = one_if_none (open_leaves first) + (backtracks first + backtracks second)
