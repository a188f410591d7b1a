-- What every search owes.
use Rattle.std.specs.Prelude.{◌≡◌, true, false, ℕ, ◌+◌, ◌<◌, ◌≤◌, min, Bool, List, [], ◌∷◌, Contains, None, IfSome, IsSomeAnd}
use Rattle.std.specs.List.{AllByRecursion}
use Rattle.cfn_model.specs.declared.report.Row.{Row}
use Rattle.cfn_model.specs.declared.step.Event.{Event}
use Rattle.cfn_model.specs.Network.{Network, Fits, cost}
use Rattle.cfn_model.specs.Sums.{floor}
use Rattle.cfn_model.specs.Tree.{Tree, count, splits, open_leaves, Strict, OpenBelow, bound}
use Rattle.cfn_model.specs.Paths.{Tame}
use Rattle.cfn_model.specs.Certificate as model
use Rattle.cfn_model.specs.Text.{IsSpelled}
use Rattle.cfn_machine.specs.Parts.{EndsAt, HasOwn, AllOthers}
use Rattle.cfn_proof.specs.Certificates.{certificate_of}
use Rattle.cfn_low.specs.declared.outcome.Stop.{Stop}
use Rattle.cfn_low.specs.declared.outcome.Stop.TheVariants.{Done, Budget, Time, Part, Memory}
use Rattle.cfn_low.specs.declared.outcome.Outcome.{Outcome}

-- What a search was limited by: how many nodes it may make, and whether it has a limit of time.
pub record Limits : Type 0 where
  pub budget : ℕ
  pub timed : Bool

-- A budget of nodes alone; and one with a limit of time, or without.
abbrev pub nodes_alone : ℕ → Limits
nodes_alone budget = record { budget = budget; timed = false }

abbrev pub timed_nodes : ℕ → Bool → Limits
timed_nodes budget timed = record { budget = budget; timed = timed }

-- Why a search stopped, where the leaves with these paths were left to others: no leaf is open; or leaves are, and all of them are
-- others'; or one of its own is, and the budget is spent; or one of its own is, the budget is not spent, and time is past, where there
-- is a limit of it, or memory was refused.
abbrev pub HasCause : Stop → List (List Event) → Tree → ℕ → Limits → Type 0
HasCause Done aside tree nodes limits = open_leaves tree ≡ 0
HasCause Part aside tree nodes limits = (0 < open_leaves tree) × AllOthers aside tree
HasCause Budget aside tree nodes limits = HasOwn aside tree × (nodes ≡ limits.budget)
HasCause Time aside tree nodes limits = HasOwn aside tree × (nodes < limits.budget) × (limits.timed ≡ true)
HasCause Memory aside tree nodes limits = HasOwn aside tree × (nodes < limits.budget)

-- What a search begins with: how many splits and closed leaves its tree has, the first row of bounds, and the paths of the open
-- leaves that it leaves to others.
pub record Start : Type 0 where
  pub begun : ℕ
  pub first : Row
  pub aside : List (List Event)

-- The opening row: the floor of the network, capped at the upper bound, and no assignment.
abbrev pub opening : Network → Row
opening P = record { lower = min P.upper (floor P []); upper = None }

-- A search that begins with one open leaf, and knows nothing.
abbrev pub fresh : Network → Start
fresh P = record { begun = 0; first = opening P; aside = [] }

-- A row's upper number is below the file's upper bound and the cost of an assignment, and the certificate has a best of
-- at most that.
pub record UpperHolds (P : Network) (c : model.Certificate) (u : ℕ) : Type 0 where
  pub below : u < P.upper
  pub reached : (values : List ℕ) × Fits P.sizes values × (cost P values ≡ u)
  pub best : IsSomeAnd c.best (λ best. best.cost ≤ u)

-- A row's lower number is a bound on the cost of every assignment, and no greater than the certificate's; where it has
-- an upper number, that holds too.
pub record RowHolds (P : Network) (c : model.Certificate) (row : Row) : Type 0 where
  pub bound : (values : List ℕ) → Fits P.sizes values → row.lower ≤ cost P values
  pub below : row.lower ≤ c.lower
  pub known : IfSome row.upper (UpperHolds P c)

-- The rows begin with the first one of the search, and all of them hold.
pub record RowsHold (P : Network) (start : Start) (c : model.Certificate) (rows : List Row) : Type 0 where
  pub others : List Row
  pub begin : rows ≡ start.first ∷ others
  pub each : AllByRecursion (RowHolds P c) rows

-- The certificate is good and has a spelling; its lower bound is its tree's bound; its open leaves have floors below
-- the threshold; its tree is strict, and costs stay small along it; besides those that the search began with each split is
-- counted, and no more nodes are counted than the tree has and the budget allows; each leaf that was left to others is there
-- still, open or closed, with no step and no split more; the rows hold; and the search stopped for a reason.
pub record IsSearched (P : Network) (start : Start) (limits : Limits) (nodes : ℕ) (c : model.Certificate) (rows : List Row) (stop : Stop) : Type 0 where
  pub good : model.Good P c
  pub spelled : IsSpelled c
  pub lower : c.lower ≡ bound P [] c.tree (model.threshold c)
  pub below : OpenBelow P [] c.tree (model.threshold c)
  pub strict : Strict P [] c.tree
  pub tame : Tame P [] c.tree
  pub expanded : splits c.tree ≤ start.begun + nodes
  pub counted : start.begun + nodes ≤ count c.tree
  pub allowed : nodes ≤ limits.budget
  pub others : (path : List Event) → Contains start.aside path → EndsAt c.tree [] path
  pub rows_hold : RowsHold P start c rows
  pub cause : HasCause stop start.aside c.tree nodes limits

abbrev pub IsOutcome : Network → Start → Limits → Outcome → Type 0
IsOutcome P start limits outcome = IsSearched P start limits outcome.nodes (certificate_of outcome.certificate) outcome.rows.items outcome.stop
