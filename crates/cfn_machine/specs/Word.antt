-- The word of the incumbent: the least price that was found, as all see it who have a part of it.
use Rattle.std.specs.Prelude.{◌≡◌, ℕ, ◌+◌, ◌≤◌, min, List, [], ◌∷◌}
use Rattle.std.specs.List.{AllByRecursion}
use Rattle.cfn_machine.specs.declared.sight.Sight.{Sight}

-- How many shares of the word there are.
abbrev pub all_shares : ℕ
all_shares = 128

-- The least of a top and of the prices that are kept.
abbrev pub least_best : ℕ → List Sight → ℕ
least_best top [] = top
least_best top (sight ∷ sights) = min sight.best (least_best top sights)

-- How many shares are there.
abbrev pub shares_in : List Sight → ℕ
shares_in [] = 0
shares_in (sight ∷ sights) = sight.shares + shares_in sights

-- What was seen lies between the word and the top, and who has no share keeps nothing below the top.
pub record IsSight (top word : ℕ) (sight : Sight) : Type 0 where
  pub from : word ≤ sight.seen
  pub upto : sight.seen ≤ top
  pub best : sight.best ≤ top
  pub idle : sight.shares ≡ 0 → sight.best ≡ top

-- The rule of the word: it is the least of the top and of all that is kept, at most all that was seen, and there are 128
-- shares.
pub record HasWord (top word : ℕ) (sights : List Sight) : Type 0 where
  pub least : word ≡ least_best top sights
  pub shares : shares_in sights ≡ all_shares
  pub each : AllByRecursion (IsSight top word) sights

-- Who begins has all shares, and has found nothing.
abbrev pub first_sight : ℕ → Sight
first_sight top = record { best = top; seen = top; shares = all_shares }
