-- The free leaves in the open list.
use Rattle.std.specs.Prelude.{◌≡◌, ℕ, List, All, sum_by, Option, Some, None, if◌then◌else◌, ◌==◌}
use Rattle.cfn_queue.specs.declared.list.OpenLeaf.{OpenLeaf}
use Rattle.cfn_leaves.specs.declared.entry.Mark.{Mark as HeldMark}
use Rattle.cfn_leaves.specs.declared.entry.Mark.TheVariants as held
use Rattle.cfn_leaves.specs.declared.entry.Entry.{Entry}
use Rattle.cfn_leaves.specs.Standing.{entry_at}

-- Whether an entry is that of a free leaf, or of one that is out: 1 or 0.
abbrev pub free_mark : HeldMark → ℕ
free_mark held.Free = 1
free_mark (held.Out worker grant) = 0

abbrev pub out_mark : HeldMark → ℕ
out_mark held.Free = 0
out_mark (held.Out worker grant) = 1

abbrev pub free_entry : Option Entry → ℕ
free_entry None = 0
free_entry (Some e) = free_mark e.mark

abbrev pub out_entry : Option Entry → ℕ
out_entry None = 0
out_entry (Some e) = out_mark e.mark

-- How many leaves are out.
abbrev pub outs : List (Option Entry) → ℕ
outs table = sum_by out_entry table

-- How often a number is listed.
abbrev pub is_numbered : ℕ → OpenLeaf → ℕ
is_numbered n leaf = if leaf.leaf == n then 1 else 0

abbrev pub times : ℕ → List OpenLeaf → ℕ
times n leaves = sum_by (is_numbered n) leaves

-- A leaf in the list is free, with this floor.
pub record IsFreeIn (table : List (Option Entry)) (leaf : OpenLeaf) : Type 0 where
  pub entry : Entry
  pub is : entry_at table leaf.leaf ≡ Some entry
  pub free : entry.mark ≡ held.Free
  pub floor : entry.floor ≡ leaf.floor

-- The list has exactly the free leaves, each once.
pub record IsListed (table : List (Option Entry)) (leaves : List OpenLeaf) : Type 0 where
  pub each : All (IsFreeIn table) leaves
  pub once : (n : ℕ) → times n leaves ≡ free_entry (entry_at table n)
