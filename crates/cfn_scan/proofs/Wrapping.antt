-- What words stand for.
use Rattle.std.proofs.Common.{◌≡◌, ℕ, ◌+◌, ◌-◌, ◌/◌, ◌%◌, ◌<◌, ◌^◌, arith}
use Rattle.std.proofs.lemmas.Int.{ints}
use Rattle.std.specs.Prelude.{ℤ, pos, neg_ℤ, ◌+ℤ◌, ◌≤ℤ◌, ◌<ℤ◌}
use Rattle.cfn_scan.specs.Wrapped.{StandsFor}

pub plus_stands : (word amount : ℕ) (z : ℤ) → StandsFor word z → StandsFor ((word + amount) % 18446744073709551616) (z +ℤ pos amount)
plus_stands word amount z s = record {
  above = s.above;
  below = s.below + (word + amount) / 18446744073709551616;
  is = let i = s.is in omega (arith, ints, i);
}

pub less_stands : (word amount : ℕ) (z : ℤ) → amount < 18446744073709551616 → StandsFor word z → StandsFor ((word + (18446744073709551616 - amount)) % 18446744073709551616) (z +ℤ neg_ℤ (pos amount))
less_stands word amount z small s = record {
  above = s.above + 1;
  below = s.below + (word + (18446744073709551616 - amount)) / 18446744073709551616;
  is = let i = s.is in omega (arith, ints, i, small);
}

pub difference_stands : (word other : ℕ) (z y : ℤ) → other < 18446744073709551616 → StandsFor word z → StandsFor other y → StandsFor ((word + (18446744073709551616 - other)) % 18446744073709551616) (z +ℤ neg_ℤ y)
difference_stands word other z y small s t = record {
  above = s.above + (t.below + 1);
  below = s.below + (t.above + (word + (18446744073709551616 - other)) / 18446744073709551616);
  is = let i = s.is in let j = t.is in omega (arith, ints, i, j, small);
}

pub sum_stands : (word other : ℕ) (z y : ℤ) → StandsFor word z → StandsFor other y → StandsFor ((word + other) % 18446744073709551616) (z +ℤ y)
sum_stands word other z y s t = record {
  above = s.above + t.above;
  below = s.below + (t.below + (word + other) / 18446744073709551616);
  is = let i = s.is in let j = t.is in omega (arith, ints, i, j);
}

-- a word below 2^64 is what it stands for, where that is at least 0 and below 2^64
pub exact : (word : ℕ) (z : ℤ) → StandsFor word z → word < 18446744073709551616 → pos 0 ≤ℤ z → z <ℤ pos (2 ^ 64) → z ≡ pos word
exact word z s small low high = let i = s.is in omega (arith, ints, i, small, low, high)

pub itself : (word : ℕ) → StandsFor word (pos word)
itself word = record { above = 0; below = 0; is = omega (arith, ints) }

-- what is added to one part of a sum, modulo 2^64, is taken from the other
pub exchange : (word part new : ℕ) (u t y : ℤ) → (t +ℤ y) ≡ pos 0 → StandsFor word (u +ℤ pos part) → StandsFor new (t +ℤ pos part) → StandsFor word ((y +ℤ u) +ℤ pos new)
exchange word part new u t y against s r = record {
  above = s.above + r.below;
  below = s.below + r.above;
  is = let i = s.is in let j = r.is in omega (arith, ints, i, j, against);
}
