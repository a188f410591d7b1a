-- Steps packed into bytes: which numbers bytes say, and which steps numbers say.
use Rattle.std.specs.Prelude.{◌≡◌, ℕ, ◌+◌, ◌-◌, ◌*◌, ◌/◌, ◌%◌, ◌<◌, ◌≤◌, ◌^◌, List, [], ◌∷◌, ◌++◌, if◌then◌else◌, ◌==◌, nat_lt}
use Rattle.std.specs.List.{AllByRecursion}
use Rattle.cfn_model.specs.declared.limits.TheConstants.{GREATEST}
use Rattle.cfn_model.specs.declared.step.Step.{Step}
use Rattle.cfn_model.specs.declared.step.Step.TheVariants.{Project, Extend, Lift, CutValue, CutTuple}

-- The numbers that bytes say. A byte below 128 is a number, or its last group of seven bits; a greater one is 128 and
-- the least seven bits of a number whose other bits follow.
abbrev pub continued : ℕ → List ℕ → List ℕ
continued low [] = []
continued low (n ∷ numbers) = (low + 128 * n) ∷ numbers

abbrev pub numbers_in : List ℕ → List ℕ
numbers_in [] = []
numbers_in (byte ∷ bytes) = if nat_lt byte 128 then byte ∷ numbers_in bytes else continued (byte - 128) (numbers_in bytes)

-- The first number, or 0 where there is none.
abbrev pub first_of : List ℕ → ℕ
first_of [] = 0
first_of (n ∷ numbers) = n

-- Behind each byte from 128 on there are further bits, not all 0: no number is cut off, and none is longer than it must
-- be.
abbrev pub IsWhole : List ℕ → Type 0
IsWhole [] = Unit {0}
IsWhole (byte ∷ bytes) = (128 ≤ byte → 0 < first_of (numbers_in bytes)) × IsWhole bytes

-- Bytes that say numbers, and bytes put behind others that say numbers.
pub record Says (bytes numbers : List ℕ) : Type 0 where
  pub whole : IsWhole bytes
  pub numbers_are : numbers_in bytes ≡ numbers

pub record Adds (old new numbers : List ℕ) : Type 0 where
  pub added : List ℕ
  pub is : new ≡ old ++ added
  pub says : Says added numbers

-- Bytes that begin with others.
abbrev pub GoesOn : List ℕ → List ℕ → Type 0
GoesOn old new = (added : List ℕ) × (new ≡ old ++ added)

-- The numbers of a step: five times its function or variable and the number of its kind, and then its other numbers.
abbrev pub numbers_of : Step → List ℕ
numbers_of (Project f i a m) = (f * 5) ∷ i ∷ a ∷ m ∷ []
numbers_of (Extend f i a m) = (f * 5 + 1) ∷ i ∷ a ∷ m ∷ []
numbers_of (Lift x m) = (x * 5 + 2) ∷ m ∷ []
numbers_of (CutValue x a) = (x * 5 + 3) ∷ a ∷ []
numbers_of (CutTuple f c) = (f * 5 + 4) ∷ c ∷ []

abbrev pub numbers_of_all : List Step → List ℕ
numbers_of_all [] = []
numbers_of_all (step ∷ steps) = numbers_of step ++ numbers_of_all steps

-- The step of four numbers, which shifts between a function and a value, and the step of two.
abbrev pub four_as_step : ℕ → ℕ → ℕ → ℕ → Step
four_as_step first i a m = if first % 5 == 0 then Project (first / 5) i a m else Extend (first / 5) i a m

abbrev pub two_as_step : ℕ → ℕ → Step
two_as_step first n = if first % 5 == 2 then Lift (first / 5) n else (if first % 5 == 3 then CutValue (first / 5) n else CutTuple (first / 5) n)

-- The steps that numbers say. Numbers that are too few for a step say none.
abbrev pub steps_of : List ℕ → List Step
steps_of [] = []
steps_of (a ∷ []) = []
steps_of (a ∷ b ∷ []) = if nat_lt (a % 5) 2 then [] else two_as_step a b ∷ []
steps_of (a ∷ b ∷ c ∷ []) = if nat_lt (a % 5) 2 then [] else two_as_step a b ∷ []
steps_of (a ∷ b ∷ c ∷ d ∷ numbers) = if nat_lt (a % 5) 2 then four_as_step a b c d ∷ steps_of numbers else two_as_step a b ∷ steps_of (c ∷ d ∷ numbers)

abbrev pub unpacked : List ℕ → List Step
unpacked bytes = steps_of (numbers_in bytes)

-- A step whose numbers have 32 bits, and whose amount is 1 to 9,223,372,036,854,775,807.
abbrev pub IsSmallStep : Step → Type 0
IsSmallStep (Project f i a m) = (f < 2 ^ 32) × (i < 2 ^ 32) × (a < 2 ^ 32) × (0 < m) × (m ≤ GREATEST)
IsSmallStep (Extend f i a m) = (f < 2 ^ 32) × (i < 2 ^ 32) × (a < 2 ^ 32) × (0 < m) × (m ≤ GREATEST)
IsSmallStep (Lift x m) = (x < 2 ^ 32) × (0 < m) × (m ≤ GREATEST)
IsSmallStep (CutValue x a) = (x < 2 ^ 32) × (a < 2 ^ 32)
IsSmallStep (CutTuple f c) = (f < 2 ^ 32) × (c < 2 ^ 32)

-- Numbers that are those of the steps that they say: none is left over.
pub record AreOfSteps (numbers : List ℕ) : Type 0 where
  pub all : numbers ≡ numbers_of_all (steps_of numbers)
  pub small : AllByRecursion IsSmallStep (steps_of numbers)

-- Bytes into which steps are packed.
pub record IsPacked (bytes : List ℕ) : Type 0 where
  pub whole : IsWhole bytes
  pub steps : AreOfSteps (numbers_in bytes)
