-- A heap of leaves keeps those below a floor.
use Rattle.std.proofs.Common.{◌≡◌, ℕ, Bool, true, false, List, [], ◌∷◌, refl, ap, cond}
use Rattle.std.specs.List.{filter}
use Rattle.std.specs.declared.cmp.Reverse.{Reverse}
use Rattle.cfn_queue.specs.declared.list.OpenLeaf.{OpenLeaf}
use Rattle.cfn_queue.specs.Listing.{leaves_of, is_below}

abbrev pub below : ℕ → Reverse OpenLeaf → Bool
below k r = is_below k r.0

kept_or_not : (b : Bool) (r : Reverse OpenLeaf) (leaves : List OpenLeaf) (items : List (Reverse OpenLeaf)) → leaves ≡ leaves_of items → cond b (r.0 ∷ leaves) leaves ≡ leaves_of (cond b (r ∷ items) items)
kept_or_not true r leaves items same = ap (λ l. r.0 ∷ l) same
kept_or_not false r leaves items same = same

pub kept_leaves : (k : ℕ) (items : List (Reverse OpenLeaf)) → filter (is_below k) (leaves_of items) ≡ leaves_of (filter (below k) items)
kept_leaves k [] = refl
kept_leaves k (r ∷ items) = kept_or_not (below k r) r (filter (is_below k) (leaves_of items)) (filter (below k) items) (kept_leaves k items)
