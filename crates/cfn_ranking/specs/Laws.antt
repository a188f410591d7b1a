-- What a whole tree with listed leaves has where each of its nodes has it.
use Rattle.std.specs.Prelude.{◌≡◌, ℕ, ◌+◌, ◌<◌, ◌≤◌, List, [], length, Option, Some, None}
use Rattle.std.specs.List.{AllByRecursion}
use Rattle.cfn_model.specs.declared.step.Event.{Event}
use Rattle.cfn_model.specs.Words.{greatest}
use Rattle.cfn_model.specs.Network.{Network}
use Rattle.cfn_model.specs.Sums.{floor}
use Rattle.cfn_model.specs.Steps.{after}
use Rattle.cfn_model.specs.Certificate.{Solution}
use Rattle.cfn_proof.specs.declared.tree.Node.{Node}
use Rattle.cfn_proof.specs.Nodes.{node_at, tree_of, IsLinked, IsTree, IsFree, Before}
use Rattle.cfn_proof.specs.Local.{ValidNodes}
use Rattle.cfn_best.specs.Tree.{ListTree, IsLeafOf, IsValid, bound}
use Rattle.cfn_best.specs.Lines.{IsSpelledLine, lines_of_tree}
use Rattle.cfn_ranking.specs.Trees.{number_at, NumbersAreThere, listed_of, plain, open_leaves, OpenBelow}

-- Each open leaf that has a number is the leaf of the listed assignment with that number.
abbrev pub LeavesAreListed : Network → List Solution → List Node → List (Option ℕ) → Type 0
LeavesAreListed P list nodes numbers =
    (i j : ℕ) (history : List Event) → i < length nodes → IsFree nodes i → number_at numbers i ≡ Some j → Before nodes i history → IsLeafOf P list (after (node_at nodes i).block history) j

-- Each open leaf without a number has a floor of at least a number, or below it.
abbrev pub FloorsFrom : Network → List Node → List (Option ℕ) → ℕ → Type 0
FloorsFrom P nodes numbers low =
    (i : ℕ) (history : List Event) → i < length nodes → IsFree nodes i → number_at numbers i ≡ None → Before nodes i history → low ≤ floor P (after (node_at nodes i).block history)

abbrev pub FloorsBelow : Network → List Node → List (Option ℕ) → ℕ → Type 0
FloorsBelow P nodes numbers k =
    (i : ℕ) (history : List Event) → i < length nodes → IsFree nodes i → number_at numbers i ≡ None → Before nodes i history → floor P (after (node_at nodes i).block history) < k

-- Where each listed leaf is taken for an open one, the tree is that of its nodes.
abbrev pub PlainLaw : Type 0
PlainLaw = (nodes : List Node) (numbers : List (Option ℕ)) → IsLinked nodes → plain (listed_of nodes numbers) ≡ tree_of nodes

-- The tree is valid where each node is, and each numbered leaf is that of its assignment.
abbrev pub ValidLaw : Type 0
ValidLaw = (P : Network) (list : List Solution) (nodes : List Node) (numbers : List (Option ℕ)) (k : ℕ) → IsLinked nodes → ValidNodes P nodes k → LeavesAreListed P list nodes numbers → IsValid P list [] (listed_of nodes numbers) k

-- The bound is at least a number where the threshold and the floor of each open leaf without a number are.
abbrev pub BoundFromLaw : Type 0
BoundFromLaw = (P : Network) (nodes : List Node) (numbers : List (Option ℕ)) (low k : ℕ) → IsLinked nodes → low ≤ k → FloorsFrom P nodes numbers low → low ≤ bound P [] (listed_of nodes numbers) k

-- The bound is at most the floor of each open leaf without a number, and at most the threshold.
abbrev pub BoundAtLaw : Type 0
BoundAtLaw = (P : Network) (nodes : List Node) (numbers : List (Option ℕ)) (k i : ℕ) (history : List Event) → IsLinked nodes → i < length nodes → IsFree nodes i → number_at numbers i ≡ None → Before nodes i history → bound P [] (listed_of nodes numbers) k ≤ floor P (after (node_at nodes i).block history)

abbrev pub BoundMostLaw : Type 0
BoundMostLaw = (P : Network) (history : List Event) (tree : ListTree) (k : ℕ) → bound P history tree k ≤ k

-- The tree's open leaves are below a threshold where each open leaf without a number is.
abbrev pub OpenBelowLaw : Type 0
OpenBelowLaw = (P : Network) (nodes : List Node) (numbers : List (Option ℕ)) (k : ℕ) → IsLinked nodes → FloorsBelow P nodes numbers k → OpenBelow P [] (listed_of nodes numbers) k

-- The tree has no open leaf where each one of the nodes has a number, and some where one has none.
abbrev pub NoneOpenLaw : Type 0
NoneOpenLaw = (nodes : List Node) (numbers : List (Option ℕ)) → IsLinked nodes → ((i : ℕ) → i < length nodes → IsFree nodes i → number_at numbers i ≡ None → ⊥) → open_leaves (listed_of nodes numbers) ≡ 0

abbrev pub SomeOpenLaw : Type 0
SomeOpenLaw = (nodes : List Node) (numbers : List (Option ℕ)) (i : ℕ) → IsLinked nodes → i < length nodes → IsFree nodes i → number_at numbers i ≡ None → 0 < open_leaves (listed_of nodes numbers)

-- The lines of the whole tree have a spelling where its nodes and its numbers have.
abbrev pub SpelledLaw : Type 0
SpelledLaw = (nodes : List Node) (numbers : List (Option ℕ)) → IsTree nodes → NumbersAreThere nodes numbers (greatest + 1) → AllByRecursion IsSpelledLine (lines_of_tree (listed_of nodes numbers))

-- The numbers beside open leaves are those of listed assignments where each leaf that has one is that of its assignment.
abbrev pub NumbersLaw : Type 0
NumbersLaw = (P : Network) (list : List Solution) (nodes : List Node) (numbers : List (Option ℕ)) → IsLinked nodes → LeavesAreListed P list nodes numbers → NumbersAreThere nodes numbers (length list)
