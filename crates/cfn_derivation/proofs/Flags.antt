-- What stays of a queue's flags where numbers are taken one after the other.
use Rattle.std.proofs.Common.{◌≡◌, ℕ, zero, suc, ◌+◌, ◌<◌, ◌≤◌, Bool, false, List, [], ◌∷◌, ◌++◌, length, take, drop, subst, refl, ap, ◌∙◌, arith}
use Rattle.std.proofs.lemmas.List.{append-nil, drop_all, drop_more, take_all}
use Rattle.std.specs.Prelude.{slice_index, slice_set}
use Rattle.cfn_queue.specs.Waiting.{AreBelow, IsQueue}
use Rattle.cfn_queue.proofs.CallerLemmas.{take_is}

pub lowered_more : (capacity : ℕ) (flags : List Bool) (items : List ℕ) (i : ℕ) → i < length items → IsQueue capacity flags (drop i items) → IsQueue capacity (slice_set flags (slice_index items i) false) (drop (i + 1) items)
lowered_more capacity flags items i h is = take_is capacity capacity flags (drop i items) (drop (i + 1) items) (slice_index items i) is (drop_more items i 0 h) refl

pub lowered_all : (capacity : ℕ) (flags : List Bool) (items : List ℕ) (i : ℕ) → length items ≤ i → IsQueue capacity flags (drop i items) → IsQueue capacity flags []
lowered_all capacity flags items i h is = subst (IsQueue capacity flags) (drop_all i items h) is

pub below_at : (size : ℕ) (items : List ℕ) (j : ℕ) → AreBelow size items → j < length items → slice_index items j < size
below_at size [] j below h = absurd (omega (arith, h))
below_at size (x ∷ items) zero below h = below.0
below_at size (x ∷ items) (suc j) below h = below_at size items j below.1 (omega (arith, h))

pub written_over : (flags old : List Bool) (n : ℕ) → length old ≤ length flags → length flags ≤ n → take n (flags ++ drop (length flags) old) ≡ flags
written_over flags old n h k = ap (λ l. take n (flags ++ l)) (drop_all (length flags) old h) ∙ ap (take n) (append-nil flags) ∙ take_all n flags k
