-- What a search for the cheapest assignments promises.
use Rattle.std.specs.Prelude.{◌≡◌, ◌↔◌, true, false, ℕ, ◌<◌, ◌≤◌, Bool}
use Rattle.cfn_model.specs.Network.{Network}
use Rattle.cfn_ranking.specs.declared.word.ListWord.{ListWord}
use Rattle.cfn_ranking.specs.declared.word.ListWord.TheVariants.{Complete, Budget, Time, Memory}
use Rattle.cfn_ranking.specs.Certificates.{list_certificate_of}
use Rattle.cfn_ranking.specs.Trees.{open_leaves}
use Rattle.cfn_ranking.specs.Finished.{IsListOf}
use Rattle.cfn_kbest.specs.declared.search.Best.{Best}

-- The word for an end: whether a leaf is open, whether the budget is spent, and whether time is past.
abbrev pub word_of : Bool → Bool → Bool → ListWord
word_of false is_spent is_past = Complete
word_of true true is_past = Budget
word_of true false true = Time
word_of true false false = Memory

-- Why a search ended: it is complete exactly where no leaf is open, and has spent its budget exactly where one is open and as many
-- leaves were expanded as were allowed. With fewer, time is past, which only a limit of time brings, or memory was refused.
pub record HasListCause (budget : ℕ) (timed : Bool) (spent opened : ℕ) (word : ListWord) : Type 0 where
  pub complete : (word ≡ Complete) ↔ (opened ≡ 0)
  pub budget_is : (word ≡ Budget) ↔ ((0 < opened) × (spent ≡ budget))
  pub time : word ≡ Time → (0 < opened) × (spent < budget) × (timed ≡ true)
  pub memory : word ≡ Memory → (0 < opened) × (spent < budget)

-- A list of so many assignments at most, after so many expanded leaves at most, and why it ended.
pub record IsBestOf (P : Network) (n budget : ℕ) (timed : Bool) (best : Best) : Type 0 where
  pub list : IsListOf P n best.spent (list_certificate_of best.certificate)
  pub within : best.spent ≤ budget
  pub cause : HasListCause budget timed best.spent (open_leaves (list_certificate_of best.certificate).tree) best.word
