-- What becomes of a leaf that is expanded.
use Rattle.std.specs.Prelude.{◌≡◌, true, ℕ, ◌<◌, List}
use Rattle.cfn_model.specs.declared.step.Event.{Event}
use Rattle.cfn_model.specs.Network.{Network}
use Rattle.cfn_store.specs.Standing.{history}
use Rattle.cfn_dive.specs.Enforcing.{IsSettledAt}
use Rattle.cfn_dive.specs.declared.parts.Parts.{Parts}
use Rattle.cfn_ranking.specs.Changes.{CanDivide, Leaves, MayClose}
use Rattle.cfn_kbest.specs.declared.expanding.Expanded.{Expanded}
use Rattle.cfn_kbest.specs.declared.expanding.Expanded.TheVariants.{Closed, Found, Divided}

-- Behind what stands before it, a leaf may be closed at a threshold; or one assignment is left, which is in the values; or it may
-- be split, and the store stands there, with room for a decision, and fully consistent where that is said.
abbrev pub IsExpanded : Network → List Event → ℕ → Parts → Expanded → Type 0
IsExpanded P path k p (Closed block) = MayClose P path k block
IsExpanded P path k p (Found block cost) = Leaves P path k block (record { cost = cost; values = p.values.items })
IsExpanded P path k p (Divided block d low settled) =
    CanDivide P path k block d low × (p.store.base ≡ path) × (p.store.block ≡ block) × (0 < p.store.spare) × (settled ≡ true → IsSettledAt P (history p.store))
