-- Open leaves, and which of them is the least.
use Rattle.std.specs.Prelude.{◌≡◌, ℕ, ◌<◌, ◌≤◌, ◌⊎◌, Bool, nat_lt, List, map, All, Contains}
use Rattle.std.specs.declared.cmp.Ordering.{Ordering}
use Rattle.std.specs.declared.cmp.Reverse.{Reverse}
use Rattle.std.specs.Ordering.{nat_cmp, ordering_then}
use Rattle.cfn_queue.specs.declared.list.OpenLeaf.{OpenLeaf}

-- The leaves, in any order, and for how many more there is room.
pub record Listing : Type 0 where
  pub leaves : List OpenLeaf
  pub spare : ℕ

-- The leaves of a heap that has the greatest first.
abbrev pub leaves_of : List (Reverse OpenLeaf) → List OpenLeaf
leaves_of items = map (λ (r : Reverse OpenLeaf). r.0) items

-- The order of such a heap: the least leaf is the greatest.
abbrev pub later_first : Reverse OpenLeaf → Reverse OpenLeaf → Ordering
later_first a b = ordering_then (nat_cmp b.0.floor a.0.floor) (nat_cmp b.0.leaf a.0.leaf)

-- A leaf has a lesser floor than another, or the same and no greater number.
abbrev pub IsBefore : OpenLeaf → OpenLeaf → Type 0
IsBefore a b = (a.floor < b.floor) ⊎ ((a.floor ≡ b.floor) × (a.leaf ≤ b.leaf))

-- A leaf of a list that comes before all of them.
pub record IsLeast (leaves : List OpenLeaf) (least : OpenLeaf) : Type 0 where
  pub there : Contains leaves least
  pub first : All (IsBefore least) leaves

-- Whether the floor of a leaf is below a number.
abbrev pub is_below : ℕ → OpenLeaf → Bool
is_below k leaf = nat_lt leaf.floor k
