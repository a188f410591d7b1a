-- What was done to the pool in a search, as a record of it.
use Rattle.std.specs.Prelude.{◌≡◌, ℕ}
use Rattle.cfn_model.specs.Network.{Network}
use Rattle.cfn_model.specs.Certificate.{Certificate}
use Rattle.cfn_machine.specs.Pool.{tree_of}
use Rattle.cfn_record.specs.Lines.{Record}
use Rattle.cfn_record.specs.Replaying.{GoodRecord}
use Rattle.cfn_record.specs.Histories.{HistoryValue, entries_of}

-- The record of a search with this certificate.
abbrev pub record_of : HistoryValue → Certificate → Record
record_of h c = record { variables = c.variables; functions = c.functions; upper = c.upper; budget = h.budget; entries = entries_of h; best = c.best }

-- The search might make so many nodes, and its record is a good one of the network, which comes to the certificate's tree.
pub record IsRecorded (P : Network) (budget : ℕ) (c : Certificate) (h : HistoryValue) : Type 0 where
  pub budget_is : h.budget ≡ budget
  pub good : GoodRecord P (record_of h c)
  pub tree : tree_of good.pool.tree ≡ c.tree
