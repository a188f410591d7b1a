-- What the network of a file means for its clauses: weighted partial MaxSAT, in which an assignment pays for each clause that it falsifies
-- (MaxSAT Evaluations).
use Rattle.std.specs.Prelude.{◌≡◌, ℕ, min, Bool, List, sum_by, slice_index, ℤ, pos, Ok, if◌then◌else◌, ◌==◌, int_lt}
use Rattle.std.specs.List.{list_all}
use Rattle.cfn_model.specs.Network.{Network, Fits, cost}
use Rattle.cfn_wcnf.specs.Clauses.{Clause, Formula, binary, variable_of}
use Rattle.cfn_wcnf.specs.Reading.{Reads, formula}

-- The value at which a literal is false: 0, and 1 where the literal is negated.
abbrev pub false_at : ℤ → ℕ
false_at z = if int_lt z (pos 0) then 1 else 0

-- An assignment falsifies a clause where each of its literals is false.
abbrev pub falsifies : List ℕ → List ℤ → Bool
falsifies values literals = list_all (λ z. slice_index values (variable_of z) == false_at z) literals

-- The weights of the clauses that an assignment falsifies, added up.
abbrev pub falsified_weight : List ℕ → List Clause → ℕ
falsified_weight values clauses = sum_by (λ c. if falsifies values c.literals then c.weight else 0) clauses

-- A network is one of a formula: its variables have two values each, its upper bound is the top, and an assignment costs
-- the weight that it falsifies, or the top where that is less.
pub record Weighs (F : Formula) (P : Network) : Type 0 where
  pub sizes : P.sizes ≡ binary F.variables
  pub upper : P.upper ≡ F.top
  pub costs : (values : List ℕ) → Fits P.sizes values → cost P values ≡ min F.top (falsified_weight values F.clauses)

-- A file that reads as a network has a formula, and the network is one of that formula.
abbrev pub ReadsAsFormula : Type 0
ReadsAsFormula =
    (bytes : List ℕ) (P : Network) → Reads bytes P → (F : Formula) × (formula bytes ≡ Ok F) × Weighs F P
