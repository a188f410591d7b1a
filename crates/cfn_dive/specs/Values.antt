-- The price of what is held, and on which value a split is made.
use Rattle.std.specs.Prelude.{◌≡◌, ℕ, List, slice_index, Option, Some, None, IsTrue, IsFalse}
use Rattle.cfn_model.specs.Sums.{is_live}
use Rattle.cfn_model.specs.Certificate.{Solution, threshold_of}
use Rattle.cfn_net.specs.Scoring.{Scoring}
use Rattle.cfn_store.specs.Standing.{Standing, history}
use Rattle.cfn_edac.specs.Asking.{IsCheapest}

-- The threshold: the price of what is held.
abbrev pub price_of : Scoring → ℕ
price_of best = threshold_of best.network.upper best.held

-- The best assignment's value of x where that is live, and else the value that asks least.
pub record IsKeptOrCheapest (s : Standing) (values : List ℕ) (x a : ℕ) : Type 0 where
  pub kept : IsTrue (is_live (history s) x (slice_index values x)) → a ≡ slice_index values x
  pub asks : IsFalse (is_live (history s) x (slice_index values x)) → IsCheapest s.network (history s) x a

-- With no assignment the one that asks least.
abbrev pub IsFirstValue : Standing → Option Solution → ℕ → ℕ → Type 0
IsFirstValue s None x a = IsCheapest s.network (history s) x a
IsFirstValue s (Some best) x a = IsKeptOrCheapest s best.values x a
