-- One variable's values in an order, and the place of each.
use Rattle.std.specs.Prelude.{◌≡◌, ℕ, ◌<◌, ◌≤◌, Bool, not, ◌&&◌, ◌==◌, nat_lt, nat_le, List, length, slice_index}
use Rattle.cfn_rows.specs.declared.order.Kept.{Kept}
use Rattle.cfn_rows.specs.declared.order.Kept.TheVariants.{But, Only, AtMost, Above}

-- Whether a value stays.
abbrev pub stays : Kept → ℕ → Bool
stays (But a) b = not (a == b)
stays (Only a) b = a == b
stays (AtMost v) b = nat_le b v
stays (Above v) b = not (nat_le b v)

-- A value that is named is below the size.
abbrev pub InRange : Kept → ℕ → Type 0
InRange (But a) size = a < size
InRange (Only a) size = a < size
InRange (AtMost v) size = Unit {0}
InRange (Above v) size = Unit {0}

-- The place of each value has that value, and the value at each place has that place.
pub record AreInverse (values places : List ℕ) : Type 0 where
  pub same : length values ≡ length places
  pub value : (i : ℕ) → i < length places → (slice_index values i < length places) × (slice_index places (slice_index values i) ≡ i)
  pub place : (a : ℕ) → a < length places → (slice_index places a < length places) × (slice_index values (slice_index places a) ≡ a)

-- Below a count that falls, the values that stay are left; for counts from the old one on, nothing changes.
pub record Narrows (before after : List ℕ) (count left : ℕ) (test : ℕ → Bool) : Type 0 where
  pub size : length after ≡ length before
  pub fewer : left ≤ count
  pub kept : (a : ℕ) → a < length before → nat_lt (slice_index after a) left ≡ (nat_lt (slice_index before a) count && test a)
  pub above : (a n : ℕ) → a < length before → count ≤ n → nat_lt (slice_index after a) n ≡ nat_lt (slice_index before a) n
