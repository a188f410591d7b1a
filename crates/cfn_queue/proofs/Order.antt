-- The top of a heap of leaves is the least of them.
use Rattle.std.proofs.Common.{◌≡◌, ◌<◌, false, List, [], ◌∷◌, length, sym, ap, arith}
use Rattle.std.specs.Prelude.{All, Contains, slice_index_or, Result, Ok, Err, IsOk, OnOk}
use Rattle.std.specs.declared.cmp.Reverse.{Reverse}
use Rattle.std.specs.Ordering.{is_lt}
use Rattle.std.specs.BinaryHeap.{IsUpperBound}
use Rattle.std.proofs.lemmas.List.Elements.{All-cons, All-nil}
use Rattle.cfn_queue.specs.declared.list.OpenLeaf.{OpenLeaf}
use Rattle.cfn_queue.specs.Listing.{IsBefore, IsLeast, leaves_of, later_first}

before : (x y : Reverse OpenLeaf) → is_lt (later_first x y) ≡ false → IsBefore x.0 y.0
before x y h = grind arith

pub all_behind : (x : Reverse OpenLeaf) (items : List (Reverse OpenLeaf)) → IsUpperBound later_first x items → All (IsBefore x.0) (leaves_of items)
all_behind x [] bound = All-nil (IsBefore x.0)
all_behind x (y ∷ items) bound = All-cons (IsBefore x.0) y.0 (leaves_of items) (before x y bound.0) (all_behind x items bound.1)

top_there : (x : Reverse OpenLeaf) (items : List (Reverse OpenLeaf)) → 0 < length items → x ≡ slice_index_or items 0 x → Contains (leaves_of items) x.0
top_there x [] some is = absurd (omega (arith, some))
top_there x (y ∷ items) some is = (0, omega arith, ap (λ (r : Reverse OpenLeaf). r.0) (sym is))

pub least_is_top : (x : Reverse OpenLeaf) (items : List (Reverse OpenLeaf)) → 0 < length items → x ≡ slice_index_or items 0 x → IsUpperBound later_first x items → IsLeast (leaves_of items) x.0
least_is_top x items some is bound = record { there = top_there x items some is; first = all_behind x items bound }

-- what a call that went well ensures
pub of_ok : {T E P : Type 0} (r : Result T E) → IsOk r → OnOk r P → P
of_ok (Ok x) is p = p
of_ok (Err e) is p = cc
