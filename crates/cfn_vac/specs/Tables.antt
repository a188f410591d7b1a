-- Numbers for the values of a network's variables.
use Rattle.std.specs.Prelude.{◌≡◌, ℕ, ◌<◌, ◌≤◌, List, length, take, reverse, slice_index}
use Rattle.cfn_model.specs.declared.step.Step.{Step}
use Rattle.cfn_model.specs.Network.{Network}
use Rattle.cfn_model.specs.Steps.{IsValue}
use Rattle.cfn_rows.specs.Jagged.{row_at}
use Rattle.cfn_consistency.specs.declared.deletion.Deletion.{Deletion}
use Rattle.cfn_consistency.specs.Virtual.{Deletes, DeletesBefore, asked}

-- There is a number for each value of each variable, and one of them.
pub record HasShape (P : Network) (rows : List (List ℕ)) : Type 0 where
  pub variables : length rows ≡ length P.sizes
  pub values : (x : ℕ) → x < length P.sizes → length (row_at rows x) ≡ slice_index P.sizes x

abbrev pub item : List (List ℕ) → ℕ → ℕ → ℕ
item rows x a = slice_index (row_at rows x) a

-- All values of x have a number, and no other value got another one.
pub record IsFilled (P : Network) (x number : ℕ) (old new : List (List ℕ)) : Type 0 where
  pub shape : HasShape P new
  pub here : (a : ℕ) → IsValue P x a → item new x a ≡ number
  pub others : (y a : ℕ) → IsValue P y a → (y ≡ x → ⊥) → item new y a ≡ item old y a

-- All values of all variables have it.
pub record AreFilled (P : Network) (number : ℕ) (rows : List (List ℕ)) : Type 0 where
  pub shape : HasShape P rows
  pub all : (x a : ℕ) → IsValue P x a → item rows x a ≡ number

-- The numbers tell what a plan asks of each value.
pub record AreWants (P : Network) (plan : List Step) (rows : List (List ℕ)) : Type 0 where
  pub shape : HasShape P rows
  pub is : (x a : ℕ) → IsValue P x a → item rows x a ≡ asked P plan x a

-- Values of which steps ask nothing have the number 0.
pub record AreOfSteps (P : Network) (steps : List Step) (rows : List (List ℕ)) : Type 0 where
  pub shape : HasShape P rows
  pub none : (x a : ℕ) → IsValue P x a → asked P steps x a ≡ 0 → item rows x a ≡ 0

-- Values that deletions do not have have a number.
pub record AreOfDeletions (P : Network) (number : ℕ) (deletions : List Deletion) (rows : List (List ℕ)) : Type 0 where
  pub shape : HasShape P rows
  pub none : (x a : ℕ) → IsValue P x a → (Deletes deletions x a → ⊥) → item rows x a ≡ number

-- The values that earlier deletions have are those whose number is below the count of these, and one that was deleted before
-- another has a lower number.
pub record AreBefore (P : Network) (earlier : List Deletion) (rows : List (List ℕ)) : Type 0 where
  pub shape : HasShape P rows
  pub said : (x a : ℕ) → IsValue P x a → item rows x a < length earlier → Deletes earlier x a
  pub known : (x a : ℕ) → IsValue P x a → Deletes earlier x a → item rows x a < length earlier
  pub order : (z c y b : ℕ) → IsValue P z c → DeletesBefore (reverse earlier) z c y b → item rows z c < item rows y b

-- The numbers tell where each value stands among deletions.
abbrev pub ArePositions : Network → List Deletion → List (List ℕ) → Type 0
ArePositions P deletions rows = (n : ℕ) → n ≤ length deletions → AreBefore P (take n deletions) rows
