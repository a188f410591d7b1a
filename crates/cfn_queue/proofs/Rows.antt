-- A small queue, as theorems that compute.
use Rattle.std.proofs.Common.{◌≡◌, true, false, [], ◌∷◌, refl}
use Rattle.cfn_queue.specs.Waiting.{Waiting, new_queue, with_item, NoRepeats}

abbrev two_wait : Waiting
two_wait = with_item (with_item (new_queue 3) 2) 0

pub in_their_order : two_wait.items ≡ 2 ∷ 0 ∷ []
in_their_order = refl

pub once_more : with_item two_wait 2 ≡ two_wait
once_more = refl

pub behind_all : (with_item two_wait 1).items ≡ 2 ∷ 0 ∷ 1 ∷ []
behind_all = refl

pub twice_repeats : NoRepeats (2 ∷ 0 ∷ 2 ∷ []) → ⊥
twice_repeats once = let h : true ≡ false = once.0 in absurd cc
