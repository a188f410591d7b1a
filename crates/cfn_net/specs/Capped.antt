-- A cost, and the top that no cost passes.
use Rattle.std.specs.Prelude.{ℕ}

-- A number of cost units from 0 to its top.
pub record Capped : Type 0 where
  pub value : ℕ
  pub top : ℕ
