-- A tree with an own leaf and another's, as theorems that compute.
use Rattle.std.proofs.Common.{◌≡◌, ◌≤◌, inl, inr, List, [], ◌∷◌, length, refl, arith, Contains, zero, suc}
use Rattle.std.specs.Prelude.{Some}
use Rattle.cfn_model.specs.declared.step.Decision.TheVariants.{Is}
use Rattle.cfn_model.specs.declared.step.Event.{Event}
use Rattle.cfn_model.specs.declared.step.Event.TheVariants.{Took, Refused}
use Rattle.cfn_model.specs.Tree.{Tree, Open, Closed, Split, open_leaves}
use Rattle.cfn_machine.specs.Parts.{others_of, HasOwn, AllOthers}

-- two open leaves, of which the first of two parts has the first; that the second is others' is told by its path
abbrev aside : List (List Event)
aside = others_of (Some (record { number = 0; parts = 2 })) (Split [] (Is 0 0) (Open []) (Open []))

pub others_second : aside ≡ (Refused (Is 0 0) ∷ []) ∷ []
others_second = refl

-- where the others' leaf is closed the own one is open, though no more leaves are open than were set aside
abbrev own_left : Tree
own_left = Split [] (Is 0 0) (Open []) (Closed [])

pub as_many : open_leaves own_left ≤ length aside
as_many = omega arith

pub has_own : HasOwn aside own_left
has_own = (Took (Is 0 0) ∷ [], inl refl, other)
  where
    other : Contains aside (Took (Is 0 0) ∷ []) → ⊥
    other (zero, lt, same) = absurd (let e : Refused (Is 0 0) ∷ [] ≡ Took (Is 0 0) ∷ [] = same in cc)
    other (suc x, lt, same) = absurd (omega (arith, lt))

-- where the own leaf is closed all are others'
abbrev others_left : Tree
others_left = Split [] (Is 0 0) (Closed []) (Open [])

pub all_others : AllOthers aside others_left
all_others path (inl at) = absurd at
all_others path (inr at) = (0, omega arith, (let e : path ≡ Refused (Is 0 0) ∷ [] = at in cc))
