-- Lists of the cheapest assignments, and what makes one good.
use Rattle.std.specs.Prelude.{◌≡◌, ℕ, ◌<◌, ◌≤◌, Bool, List, [], ◌∷◌, length, if◌then◌else◌, ◌==◌}
use Rattle.std.specs.List.{AllByRecursion}
use Rattle.std.specs.Ordering.{nat_cmp}
use Rattle.std.specs.declared.cmp.Ordering.{Ordering}
use Rattle.std.specs.declared.cmp.Ordering.TheVariants.{Less}
use Rattle.std.specs.Cmp.Lexicographic.{slice_cmp}
use Rattle.cfn_model.specs.Network.{Network}
use Rattle.cfn_model.specs.Certificate.{Solution, IsSolution}
use Rattle.cfn_best.specs.Tree.{ListTree, IsValid, bound}

-- How many variables and functions the network has, its upper bound, how many assignments were asked for, a lower bound of
-- all that are not listed, the assignments, and the tree that shows it.
pub record ListCertificate : Type 0 where
  pub variables : ℕ
  pub functions : ℕ
  pub upper : ℕ
  pub count : ℕ
  pub lower : ℕ
  pub list : List Solution
  pub tree : ListTree

-- The cost of the last assignment of a list, or another number where it has none.
abbrev pub last_cost : ℕ → List Solution → ℕ
last_cost none [] = none
last_cost none (s ∷ list) = last_cost s.cost list

-- The threshold: the last cost of a list that has as many as were asked for, and else the upper bound.
abbrev pub threshold_of : ℕ → ℕ → List Solution → ℕ
threshold_of upper count list = if length list == count then last_cost upper list else upper

-- Whether a list is complete: its lower bound is its threshold.
abbrev pub is_complete : Network → ListCertificate → Bool
is_complete P c = c.lower == threshold_of P.upper c.count c.list

-- One assignment comes before another: it costs less, or as much, and then the first value in which they differ is less.
abbrev pub order : Solution → Solution → Ordering
order s t = slice_cmp nat_cmp (s.cost ∷ s.values) (t.cost ∷ t.values)

abbrev pub IsBefore : Solution → Solution → Type 0
IsBefore s t = order s t ≡ Less

-- Each one comes before the next.
abbrev pub IsOrdered : List Solution → Type 0
IsOrdered [] = Unit {0}
IsOrdered (s ∷ []) = Unit {0}
IsOrdered (s ∷ t ∷ list) = IsBefore s t × IsOrdered (t ∷ list)

-- A good list of a network.
pub record GoodList (P : Network) (c : ListCertificate) : Type 0 where
  pub variables : c.variables ≡ length P.sizes
  pub functions : c.functions ≡ length P.functions
  pub upper : c.upper ≡ P.upper
  pub few : length c.list ≤ c.count
  pub solutions : AllByRecursion (IsSolution P) c.list
  pub ordered : IsOrdered c.list
  pub valid : IsValid P c.list [] c.tree (threshold_of P.upper c.count c.list)
  pub lower : c.lower ≤ bound P [] c.tree (threshold_of P.upper c.count c.list)
