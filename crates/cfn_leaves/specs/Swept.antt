-- Leaves by their floors.
use Rattle.std.specs.Prelude.{ℕ, ◌<◌, ◌≤◌}
use Rattle.cfn_queue.specs.declared.list.OpenLeaf.{OpenLeaf}

abbrev pub IsBelow : ℕ → OpenLeaf → Type 0
IsBelow k leaf = leaf.floor < k

abbrev pub IsFrom : ℕ → OpenLeaf → Type 0
IsFrom k leaf = k ≤ leaf.floor
