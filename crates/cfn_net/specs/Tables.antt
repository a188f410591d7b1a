-- How a function's entries are kept: all of them, or those that differ from its default.
use Rattle.std.specs.Prelude.{◌≡◌, ℕ, ◌*◌, ◌≤◌, List, length}
use Rattle.cfn_model.specs.Network.{Function}
use Rattle.cfn_net.specs.Listed.{AreSparse, differing}
use Rattle.cfn_net.specs.declared.table.Table.{Table}
use Rattle.cfn_net.specs.declared.table.Table.TheVariants.{Dense, Sparse}

abbrev pub IsSparse : Function → Type 0
IsSparse f = AreSparse f.default f.entries

-- The entries of a table.
abbrev pub entries_of : Table → List ℕ
entries_of (Dense entries) = entries.items
entries_of (Sparse entries) = entries

-- A table is sparse where few of its entries differ from the default, and else dense.
abbrev pub IsForm : ℕ → Table → Type 0
IsForm default (Dense entries) = length entries.items ≤ 8 * differing default entries.items
IsForm default (Sparse entries) = AreSparse default entries

-- A table has these entries, and its form is the one that they ask for.
pub record Tabulates (default : ℕ) (entries : List ℕ) (table : Table) : Type 0 where
  pub same : entries_of table ≡ entries
  pub form : IsForm default table
