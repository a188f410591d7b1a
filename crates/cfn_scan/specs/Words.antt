-- Words of 64 bits.
use Rattle.std.specs.Prelude.{◌≡◌, ℕ, ◌+◌, ◌-◌, ◌%◌, ◌^◌, ◌<◌, ◌≤◌, List, length, slice_index}

-- A word with an amount taken off, and with one put on, modulo 2^64.
abbrev pub less : ℕ → ℕ → ℕ
less amount word = (word + (2 ^ 64 - amount)) % 2 ^ 64

abbrev pub more : ℕ → ℕ → ℕ
more amount word = (word + amount) % 2 ^ 64

-- A number is one of n numbers, and at most each of them.
pub record IsLeastOf (n : ℕ) (number : ℕ → ℕ) (least : ℕ) : Type 0 where
  pub place : ℕ
  pub there : place < n
  pub is : number place ≡ least
  pub most : (i : ℕ) → i < n → least ≤ number i

-- It is so of some words.
abbrev pub IsLeast : List ℕ → ℕ → Type 0
IsLeast words = IsLeastOf (length words) (slice_index words)
