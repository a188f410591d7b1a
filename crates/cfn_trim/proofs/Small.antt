-- Where costs are exact along a path, they are small along the block at its end.
use Rattle.std.proofs.Common.{List, [], ◌∷◌}
use Rattle.cfn_model.specs.declared.step.Step.{Step}
use Rattle.cfn_model.specs.declared.step.Event.{Event}
use Rattle.cfn_model.specs.declared.step.Event.TheVariants.{Did}
use Rattle.cfn_model.specs.Network.{Network}
use Rattle.cfn_model.specs.Steps.{after}
use Rattle.cfn_model.specs.Paths.{HasSmallCosts, TameBlock}
use Rattle.cfn_scan.specs.Exact.{IsExactAlong}

small_here : (P : Network) (path : List Event) → IsExactAlong P path → HasSmallCosts P path
small_here P [] is = is.small
small_here P (event ∷ path) is = is.0.small

exact_before : (P : Network) (path : List Event) (block : List Step) → IsExactAlong P (after block path) → IsExactAlong P path
exact_before P path [] is = is
exact_before P path (step ∷ block) is = (exact_before P (Did step ∷ path) block is).1

pub tame_block : (P : Network) (path : List Event) (block : List Step) → IsExactAlong P (after block path) → TameBlock P path block
tame_block P path [] is = small_here P path is
tame_block P path (step ∷ block) is = (small_here P path (exact_before P path (step ∷ block) is), tame_block P (Did step ∷ path) block is)
