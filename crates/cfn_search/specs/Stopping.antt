-- What holds of the pool of a search that stopped, and why it stopped.
use Rattle.std.specs.Prelude.{◌≡◌, ◌≢◌, true, false, ℕ, Bool, List, [], ◌∷◌, Contains}
use Rattle.cfn_model.specs.declared.report.Row.{Row}
use Rattle.cfn_model.specs.declared.step.Event.{Event}
use Rattle.cfn_model.specs.Network.{Network}
use Rattle.cfn_model.specs.Tree.{OpenBelow}
use Rattle.cfn_low.specs.declared.outcome.Stop.{Stop}
use Rattle.cfn_low.specs.declared.outcome.Stop.TheVariants.{Done, Budget, Time, Part, Memory}
use Rattle.cfn_low.specs.Outcome.{Start}
use Rattle.cfn_machine.specs.Parts.{EndsAt}
use Rattle.cfn_machine.specs.Pool.{Pool, tree_of, price}
use Rattle.cfn_machine.specs.Word.{all_shares}

-- All shares of the word are there, what was seen is the price of what is kept, and each open leaf has a floor below it.
pub record IsLast (P : Network) (pool : Pool) : Type 0 where
  pub shares : pool.view.shares ≡ all_shares
  pub seen : pool.view.seen ≡ price P pool.view.best
  pub below : OpenBelow P [] (tree_of pool.tree) pool.view.seen

-- It began as a search begins, and each leaf that was left to others is there still, open or closed.
pub record IsEnded (start : Start) (pool : Pool) : Type 0 where
  pub begun_is : pool.begun ≡ start.begun
  pub rest : List Row
  pub begin : pool.rows ≡ start.first ∷ rest
  pub others : (path : List Event) → Contains start.aside path → EndsAt (tree_of pool.tree) [] path

-- Why a search stopped, by what is tested: how many leaves are open, and whether one of them is its own.
abbrev pub IsStop : Stop → ℕ → Bool → ℕ → ℕ → Bool → Type 0
IsStop Done leaves own nodes budget timed = leaves ≡ 0
IsStop Part leaves own nodes budget timed = (leaves ≢ 0) × (own ≡ false)
IsStop Budget leaves own nodes budget timed = (own ≡ true) × (nodes ≡ budget)
IsStop Time leaves own nodes budget timed = (own ≡ true) × (nodes ≢ budget) × (timed ≡ true)
IsStop Memory leaves own nodes budget timed = (own ≡ true) × (nodes ≢ budget)
