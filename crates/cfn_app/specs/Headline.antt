-- What a run of `solve` promises.
use Rattle.std.specs.Prelude.{◌≡◌, ◌↔◌, true, false, ℕ, ◌+◌, ◌<◌, ◌≤◌, List, [], Contains, None, IsSomeAnd}
use Rattle.cfn_model.specs.declared.report.Row.{Row}
use Rattle.cfn_model.specs.declared.step.Event.{Event}
use Rattle.cfn_model.specs.declared.report.ResultWord.{ResultWord}
use Rattle.cfn_model.specs.declared.report.ResultWord.TheVariants.{Optimum, Nothing, Budget, Time, Part, Memory}
use Rattle.cfn_model.specs.Network.{Network, IsNetwork, Fits, Least, cost}
use Rattle.cfn_model.specs.Tree.{count, splits, open_leaves, Strict, OpenBelow, bound}
use Rattle.cfn_model.specs.Paths.{Tame}
use Rattle.cfn_model.specs.Certificate.{Certificate, Good, threshold}
use Rattle.cfn_model.specs.Text.{IsSpelled}
use Rattle.cfn_machine.specs.Parts.{EndsAt, HasOwn, AllOthers}
use Rattle.cfn_low.specs.Outcome.{Limits, RowsHold, Start}

-- The best is an optimum: there is one, and the lower bound is its cost.
abbrev pub HasOptimum : Certificate → Type 0
HasOptimum c = IsSomeAnd c.best (λ best. c.lower ≡ best.cost)

-- No assignment is below the upper bound: there is no best, and the lower bound is the upper bound.
abbrev pub HasNone : Certificate → Type 0
HasNone c = (c.best ≡ None) × (c.lower ≡ c.upper)

-- Each result comes with its cause, where the leaves with these paths were left to others. An optimum, that there is none, that all
-- leaves which are open were left to others, and a spent budget come exactly with theirs: of the last, that a leaf is open which was
-- not left to others. Where such a leaf is open and nodes are left, time is past under a limit of time, or memory was refused, and
-- else memory alone.
pub record HasCauses (limits : Limits) (aside : List (List Event)) (nodes : ℕ) (c : Certificate) (word : ResultWord) : Type 0 where
  pub optimum : (word ≡ Optimum) ↔ HasOptimum c
  pub none : (word ≡ Nothing) ↔ HasNone c
  pub left_to_others : (word ≡ Part) ↔ ((0 < open_leaves c.tree) × AllOthers aside c.tree)
  pub budget_spent : (word ≡ Budget) ↔ (HasOwn aside c.tree × (nodes ≡ limits.budget))
  pub time_past : word ≡ Time → (limits.timed ≡ true) × HasOwn aside c.tree × (nodes < limits.budget)
  pub memory_refused : word ≡ Memory → HasOwn aside c.tree × (nodes < limits.budget)
  pub memory_alone : limits.timed ≡ false → HasOwn aside c.tree → nodes < limits.budget → word ≡ Memory

-- What a search promises, by what it began with: the certificate is good and has a spelling, its lower bound is its tree's
-- bound, and its open leaves have floors below the threshold; the rows hold; the nodes spent are, with those that it began
-- with, at least the tree's splits and at most its splits and closed leaves, and at most the budget; none was spent on a split
-- that leaves all as it was, and costs stay small along the tree; each leaf that was left to others is there still, open or closed,
-- with no step and no split more; and the result comes with its cause. So the lower bound is at
-- most the cost of every assignment; an optimum is one; and without one every assignment costs the upper bound.
pub record Promise (P : Network) (start : Start) (limits : Limits) (nodes : ℕ) (c : Certificate) (rows : List Row) (word : ResultWord) : Type 0 where
  pub good : Good P c
  pub spelled : IsSpelled c
  pub lower : c.lower ≡ bound P [] c.tree (threshold c)
  pub below : OpenBelow P [] c.tree (threshold c)
  pub rows_hold : RowsHold P start c rows
  pub allowed : nodes ≤ limits.budget
  pub expanded : splits c.tree ≤ start.begun + nodes
  pub counted : start.begun + nodes ≤ count c.tree
  pub strict : Strict P [] c.tree
  pub tame : Tame P [] c.tree
  pub others : (path : List Event) → Contains start.aside path → EndsAt c.tree [] path
  pub causes : HasCauses limits start.aside nodes c word
  pub network : IsNetwork P
  pub bounds : (values : List ℕ) → Fits P.sizes values → c.lower ≤ cost P values
  pub least : word ≡ Optimum → IsSomeAnd c.best (λ best. Least P best.cost)
  pub none_below : word ≡ Nothing → (values : List ℕ) → Fits P.sizes values → cost P values ≡ P.upper
