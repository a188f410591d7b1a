-- Small sets, as theorems that compute.
use Rattle.std.proofs.Common.{◌≡◌, false, [], ◌∷◌, refl}
use Rattle.cfn_model.specs.declared.step.Decision.TheVariants.{Is, Most}
use Rattle.cfn_model.specs.declared.step.Step.TheVariants.{CutValue}
use Rattle.cfn_model.specs.declared.step.Event.TheVariants.{Did, Took, Refused}
use Rattle.cfn_rows.specs.Order.{stays}
use Rattle.cfn_rows.specs.declared.order.Kept.TheVariants.{Above}
use Rattle.cfn_rows.specs.Sets.{Sets, new_sets, with_event, without_newest, live_count}

-- of four values the second is cut, and then those of at most 2 are taken
abbrev two_left : Sets
two_left = with_event (with_event (record { sizes = 4 ∷ 1 ∷ []; history = []; spare = 2 }) (Did (CutValue 0 1))) (Took (Most 0 2))

pub two_are_left : live_count two_left 0 ≡ 2
two_are_left = refl

pub other_variable_keeps_its_value : live_count two_left 1 ≡ 1
other_variable_keeps_its_value = refl

pub no_room_is_left : two_left.spare ≡ 0
no_room_is_left = refl

pub three_before : live_count (without_newest two_left) 0 ≡ 3
three_before = refl

pub room_again : (without_newest two_left).spare ≡ 1
room_again = refl

pub one_after_a_refusal : live_count (with_event two_left (Refused (Is 0 0))) 0 ≡ 1
one_after_a_refusal = refl

pub all_at_first : live_count (new_sets (4 ∷ 1 ∷ [])) 0 ≡ 4
all_at_first = refl

pub above_is_greater : stays (Above 2) 2 ≡ false
above_is_greater = refl
