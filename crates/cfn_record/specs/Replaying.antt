-- What a record comes to: the pool that its entries make of the opening, and a certificate.
use Rattle.std.specs.Prelude.{◌≡◌, ℕ, List, [], length, Option}
use Rattle.cfn_model.specs.declared.version.Version.TheVariants.{Second}
use Rattle.cfn_model.specs.Network.{Network}
use Rattle.cfn_model.specs.Tree.{Tree, bound}
use Rattle.cfn_model.specs.Certificate.{Solution, Certificate, threshold_of, Good}
use Rattle.cfn_machine.specs.Pool.{Pool, tree_of, opening_pool}
use Rattle.cfn_machine.specs.Steps.{Sweeps, Move}
use Rattle.cfn_machine.specs.Word.{all_shares}
use Rattle.cfn_record.specs.Entries.{Runs, entries_of}
use Rattle.cfn_record.specs.Lines.{Record}

-- The pool that a search begins with: one free leaf with an empty block, and the upper bound as the threshold seen.
abbrev pub opening : Network → ℕ → Pool
opening P budget = opening_pool P all_shares budget

-- The certificate of a tree with the best assignment that was found: its lower bound is the tree's bound.
abbrev pub certificate_of : Network → Option Solution → Tree → Certificate
certificate_of P best tree = record {
  version = Second;
  variables = length P.sizes;
  functions = length P.functions;
  upper = P.upper;
  best = best;
  lower = bound P [] tree (threshold_of P.upper best);
  tree = tree;
}

-- A good record of a network: its entries make a pool of the opening, which has seen the best assignment's cost last, or the upper bound
-- where there is none, and whose tree has a good certificate.
pub record GoodRecord (P : Network) (r : Record) : Type 0 where
  pub variables : r.variables ≡ length P.sizes
  pub functions : r.functions ≡ length P.functions
  pub upper : r.upper ≡ P.upper
  pub pool : Pool
  pub run : Runs P (opening P r.budget) r.entries pool
  pub seen : pool.view.seen ≡ threshold_of P.upper r.best
  pub good : Good P (certificate_of P r.best (tree_of pool.tree))

-- What is recorded of a search of a network with these steps, and with the best assignment that it found.
abbrev pub record_of : Network → ℕ → List Move → Option Solution → Record
record_of P budget moves best = record {
  variables = length P.sizes;
  functions = length P.functions;
  upper = P.upper;
  budget = budget;
  entries = entries_of moves;
  best = best;
}

-- A sweep at the best assignment's cost, or at the upper bound where there is none.
abbrev pub sweep_at : Network → Option Solution → Move
sweep_at P best = record { word = threshold_of P.upper best; step = Sweeps }
