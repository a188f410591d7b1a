-- Functions whose tables are kept apart from them, so that several can share one.
use Rattle.std.specs.Prelude.{ℕ, ◌<◌, ◌≤◌, List, [], length, map, slice_index_or, All}
use Rattle.cfn_model.specs.Network.{Function}
use Rattle.cfn_net.specs.declared.kept.Kept.{Kept}
use Rattle.cfn_net.specs.declared.table.Table.{Table}
use Rattle.cfn_net.specs.declared.table.Table.TheVariants.{Sparse}
use Rattle.cfn_net.specs.Tables.{IsForm, entries_of}

-- The table with a number, where there is one.
abbrev pub no_table : Table
no_table = Sparse []

abbrev pub table_at : List Table → ℕ → Table
table_at tables number = slice_index_or tables number no_table

-- A function with the table that it names.
abbrev pub function_in : List Table → Kept → Function
function_in tables kept = record { scope = kept.scope.items; default = kept.default; entries = entries_of (table_at tables kept.table) }

abbrev pub functions_of : List Table → List Kept → List Function
functions_of tables kepts = map (function_in tables) kepts

-- A function names a table of the form that its default asks for.
pub record IsHeld (tables : List Table) (kept : Kept) : Type 0 where
  pub number : kept.table < length tables
  pub form : IsForm kept.default (table_at tables kept.table)

-- Each function does, and there are no more tables than functions.
pub record IsKeeping (tables : List Table) (kepts : List Kept) : Type 0 where
  pub few : length tables ≤ length kepts
  pub each : All (IsHeld tables) kepts
