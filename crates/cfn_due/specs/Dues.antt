-- What is due to be looked at.
use Rattle.std.specs.Prelude.{◌≡◌, ℕ, zero, suc, ◌+◌, ◌-◌, ◌<◌, Bool, List, [], ◌∷◌, ◌++◌, length, drop, IsFalse}
use Rattle.cfn_model.specs.declared.step.Event.{Event}
use Rattle.cfn_model.specs.Network.{Network}
use Rattle.cfn_queue.specs.Waiting.{Waiting, is_in}
use Rattle.cfn_consistency.specs.Openness.{TakesPart}
use Rattle.cfn_consistency.specs.Consistency.{IsArcConsistent, IsDirectional, IsExistential}

-- The functions that wait for arc consistency, those that wait for directional arc consistency, and the variables that wait
-- for existential arc consistency.
pub record Dues : Type 0 where
  pub arcs : Waiting
  pub directed : Waiting
  pub existing : Waiting

-- Whether a number waits.
abbrev pub waits : Waiting → ℕ → Bool
waits queue i = is_in i queue.items

-- A queue in which nothing waits any more, and one whose first number waits no longer.
abbrev pub emptied : Waiting → Waiting
emptied queue = record { size = queue.size; items = [] }

abbrev pub without_first : Waiting → Waiting
without_first queue = record { size = queue.size; items = drop 1 queue.items }

-- The numbers below n, the least first; and the i greatest of them, the greatest first.
abbrev pub rising : ℕ → List ℕ
rising zero = []
rising (suc n) = rising n ++ n ∷ []

abbrev pub falling : ℕ → ℕ → List ℕ
falling n zero = []
falling n (suc i) = falling n i ++ (n - 1 - i) ∷ []

-- All functions and variables of a network wait: for directional arc consistency the last function first.
abbrev pub all_due : Network → Dues
all_due P = record {
  arcs = record { size = length P.functions; items = rising (length P.functions) };
  directed = record { size = length P.functions; items = falling (length P.functions) (length P.functions) };
  existing = record { size = length P.sizes; items = rising (length P.sizes) };
}

-- Nothing waits.
pub record NothingWaits (due : Dues) : Type 0 where
  pub arcs : due.arcs.items ≡ []
  pub directed : due.directed.items ≡ []
  pub existing : due.existing.items ≡ []

-- How many numbers wait.
abbrev pub waiting : Dues → ℕ
waiting due = length due.arcs.items + length due.directed.items + length due.existing.items

-- Room for each function of a network twice, and for each variable.
pub record HasSizes (P : Network) (due : Dues) : Type 0 where
  pub arcs : due.arcs.size ≡ length P.functions
  pub directed : due.directed.size ≡ length P.functions
  pub existing : due.existing.size ≡ length P.sizes

-- What does not wait is consistent after the history. Arc consistency is asked of a function that takes part alone.
pub record Holds (P : Network) (history : List Event) (due : Dues) : Type 0 where
  pub arcs : (f : ℕ) → IsFalse (waits due.arcs f) → TakesPart P history f → IsArcConsistent P history f
  pub directed : (f : ℕ) → IsFalse (waits due.directed f) → IsDirectional P history f
  pub existing : (x : ℕ) → x < length P.sizes → IsFalse (waits due.existing x) → IsExistential P history x
