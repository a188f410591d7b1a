-- What contracts see of the leaves with their fields.
use Rattle.std.proofs.Common.{◌≡◌, ℕ, List, ap, ◌∙◌}
use Rattle.cfn_model.specs.declared.report.Row.{Row}
use Rattle.cfn_machine.specs.Pool.{PoolTree, View, Pool}
use Rattle.cfn_leaves.specs.declared.leaves.Leaves.TheInside.{Inside}
use Rattle.cfn_leaves.specs.Value.{Holding, Body}

abbrev pub value : Inside → Holding
value l = record { network = l.network.value; tree = l.tree; table = l.table.items; budget = l.budget; begun = l.begun; nodes = l.nodes; rows = l.rows.items }

abbrev pub body : Inside → Body
body l = record { nodes = l.tree; table = l.table.items; listing = l.list; opened = l.opened; granted = l.granted }

-- two pools with the same parts
abbrev pub pool : PoolTree → ℕ → ℕ → ℕ → ℕ → List Row → View → Pool
pool tree next budget begun nodes rows view = record { tree = tree; next = next; budget = budget; begun = begun; nodes = nodes; rows = rows; view = view }

pub same_pool : {t u : PoolTree} {n m b c g h d e : ℕ} {r s : List Row} (view : View) → t ≡ u → n ≡ m → b ≡ c → g ≡ h → d ≡ e → r ≡ s → pool t n b g d r view ≡ pool u m c h e s view
same_pool {t = t} {u = u} {n = n} {m = m} {b = b} {c = c} {g = g} {h = h} {d = d} {e = e} {r = r} {s = s} view tree next budget begun nodes rows =
    ap (λ t. pool t n b g d r view) tree ∙ ap (λ n. pool u n b g d r view) next ∙ ap (λ b. pool u m b g d r view) budget ∙ ap (λ g. pool u m c g d r view) begun ∙ ap (λ d. pool u m c h d r view) nodes ∙ ap (λ r. pool u m c h e r view) rows
