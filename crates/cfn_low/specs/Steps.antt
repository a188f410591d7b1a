-- The word's rule for a table of one word, and what each step on it tells.
use Rattle.std.specs.Prelude.{◌≡◌, ℕ, ◌+◌, ◌-◌, ◌≤◌, ◌⊎◌, min, List, [], ◌∷◌}
use Rattle.atomic_table.specs.Table.{State, Me, Step}
use Rattle.cfn_model.specs.Network.{Network, Fits, cost}
use Rattle.cfn_machine.specs.declared.sight.Sight.{Sight}
use Rattle.cfn_machine.specs.Word.{HasWord, all_shares, first_sight}

abbrev pub sight : ℕ → ℕ → ℕ → Sight
sight best seen shares = record { best = best; seen = seen; shares = shares }

-- A number is the cost of an assignment; a threshold is that, or the upper bound.
abbrev pub IsCost : Network → ℕ → Type 0
IsCost P k = (values : List ℕ) × Fits P.sizes values × (cost P values ≡ k)

abbrev pub IsReached : Network → ℕ → Type 0
IsReached P k = (k ≡ P.upper) ⊎ IsCost P k

-- The table has one word, which keeps the rule and is a threshold that was reached.
abbrev pub IsWord : Network → State (Unit {0}) Sight → Type 0
IsWord P s = (word : ℕ) × (s.words ≡ word ∷ []) × HasWord P.upper word s.views × IsReached P word

-- Who begins has all shares, and has found nothing.
abbrev pub first_of : Network → Sight
first_of P = first_sight P.upper

-- A view with no slot.
abbrev pub bare : Sight → Me (Unit {0}) Sight
bare v = (v, [])

-- A read tells the word: it is seen then. It is at most what was seen and what is kept; and that itself where all shares
-- are there. It was reached.
abbrev pub Looks : Network → Step (Unit {0}) → Me (Unit {0}) Sight → ℕ → Me (Unit {0}) Sight → Type 0
Looks P step old word new =
    (new ≡ bare (sight old.0.best word old.0.shares)) × (word ≤ old.0.seen) × (word ≤ old.0.best) × (old.0.shares ≡ all_shares → word ≡ old.0.best) × IsReached P word

-- The word is lowered to a price, which is kept where it is less than what was; the lesser of the word and the price is seen
-- then. The word was reached.
abbrev pub Lowers : Network → Step (Unit {0}) → Me (Unit {0}) Sight → ℕ → Me (Unit {0}) Sight → Type 0
Lowers P step old word new =
    (new ≡ bare (sight (min old.0.best step.first) (min word step.first) old.0.shares)) × (word ≤ old.0.seen) × (word ≤ old.0.best) × IsReached P word

-- A view gives one share away, and a new one has it, which has seen as much and keeps nothing.
abbrev pub left_of : Sight → Sight
left_of v = sight v.best v.seen (v.shares - 1)

abbrev pub right_of : ℕ → Sight → Sight
right_of top v = sight top v.seen 1

-- A note of what was seen, and a view that is no more.
abbrev pub noted : ℕ → Sight → Sight
noted top v = sight top v.seen 0

abbrev pub spent : ℕ → Sight
spent top = sight top top 0

-- Two views in one.
abbrev pub joined : Sight → Sight → Sight
joined v w = sight (min v.best w.best) (min v.seen w.seen) (min (v.shares + w.shares) all_shares)
