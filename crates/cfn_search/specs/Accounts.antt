-- What contracts see of a worker, and of its account.
use Rattle.std.specs.Prelude.{ℕ}
use Rattle.cfn_low.specs.Holding.{Holding}
use Rattle.cfn_rota.specs.Values.{EndsValue, Access, access}
use Rattle.cfn_explore.specs.Values.{TaskValue}

-- A part of the word, and the least threshold at which a piece was made with it.
pub record AccountValue : Type 0 where
  pub part : Holding
  pub least : ℕ

-- A worker's ends of the lanes, and the least threshold at which a piece of it was made.
pub record WorkerValue : Type 0 where
  pub ends : EndsValue TaskValue
  pub least : ℕ

-- The least threshold at which a worker made a piece.
abbrev pub least_of : WorkerValue → ℕ
least_of w = w.least

-- Of which lanes a worker's ends are.
abbrev pub reach : WorkerValue → Access
reach w = access w.ends
