-- Small histories whose sums, live values and allowed steps are known, as theorems that compute.
use Rattle.std.proofs.Common.{◌≡◌, zero, suc, ◌<◌, arith, List, [], ◌∷◌, true, false, refl, lit<}
use Rattle.std.specs.Prelude.{codes, pos, negsuc}
use Rattle.cfn_model.specs.declared.step.Step.TheVariants.{Project, Extend, Lift, CutValue, CutTuple}
use Rattle.cfn_model.specs.declared.step.Decision.TheVariants.{Is, Most}
use Rattle.cfn_model.specs.declared.step.Event.{Event}
use Rattle.cfn_model.specs.declared.step.Event.TheVariants.{Did, Took, Refused}
use Rattle.cfn_model.specs.Network.{Network, cell}
use Rattle.cfn_model.specs.Sums.{floor, unary, residual, is_live, is_live_tuple}
use Rattle.cfn_model.specs.Steps.{Allowed, CanProject, CanLift}
use Rattle.cfn_model.specs.Laws.{unary_sum, residual_sum}
use Rattle.cfn_model.proofs.Trying.{at_most, can_project, can_lift, can_cut}
use Rattle.cfn_model.proofs.Rows.{row, tiny, tri, top, shifted}

-- a constant 2, and a function of two variables with an entry at the upper bound
abbrev pub pair : Network
pair = record { name = codes "pair"; sizes = 2 ∷ 2 ∷ []; upper = 10; functions = row [] 2 (2 ∷ []) ∷ row (0 ∷ 1 ∷ []) 0 (4 ∷ 0 ∷ 1 ∷ 10 ∷ []) ∷ [] }

-- tuples are numbered row by row
pub cell_of_10 : cell (2 ∷ 2 ∷ []) (1 ∷ 0 ∷ []) ≡ 2
cell_of_10 = refl

pub cell_of_12 : cell (2 ∷ 3 ∷ []) (1 ∷ 2 ∷ []) ≡ 5
cell_of_12 = refl

pub cell_of_21 : cell (3 ∷ 2 ∷ []) (2 ∷ 1 ∷ []) ≡ 5
cell_of_21 = refl

pub cell_of_none : cell [] [] ≡ 0
cell_of_none = refl

-- a constant is in the floor, and has no residual
pub pair_floor : floor pair [] ≡ 2
pair_floor = refl

pub constant_residual : residual pair [] 0 [] ≡ pos 0
constant_residual = refl

pub pair_residual : residual pair [] 1 (1 ∷ 0 ∷ []) ≡ pos 1
pair_residual = refl

-- a project takes from the tuples with its value at its place, and from no others
abbrev projected : List Event
projected = Did (Project 1 1 0 1) ∷ []

pub projected_unary : unary pair projected 1 0 ≡ pos 1
projected_unary = refl

pub projected_other_value : unary pair projected 1 1 ≡ pos 0
projected_other_value = refl

pub projected_other_variable : unary pair projected 0 0 ≡ pos 0
projected_other_variable = refl

pub projected_residuals : (residual pair projected 1 (0 ∷ 0 ∷ []) ≡ pos 3) × (residual pair projected 1 (0 ∷ 1 ∷ []) ≡ pos 0) × (residual pair projected 1 (1 ∷ 0 ∷ []) ≡ pos 0) × (residual pair projected 1 (1 ∷ 1 ∷ []) ≡ pos 10)
projected_residuals = (refl, refl, refl, refl)

pub projected_constant : residual pair projected 0 [] ≡ pos 0
projected_constant = refl

pub projected_floor : floor pair projected ≡ 2
projected_floor = refl

-- an extend is the other way round, and what was extended can be projected to the other variable
abbrev extended : List Event
extended = Did (Extend 1 0 1 2) ∷ projected

pub extended_unary : unary pair extended 0 1 ≡ negsuc 1
extended_unary = refl

pub extended_residuals : (residual pair extended 1 (0 ∷ 0 ∷ []) ≡ pos 3) × (residual pair extended 1 (0 ∷ 1 ∷ []) ≡ pos 0) × (residual pair extended 1 (1 ∷ 0 ∷ []) ≡ pos 2) × (residual pair extended 1 (1 ∷ 1 ∷ []) ≡ pos 12)
extended_residuals = (refl, refl, refl, refl)

-- shifts keep the total: 2 + 4 + 0
pub extended_total : (floor pair extended ≡ 2) × (unary_sum pair extended (0 ∷ 0 ∷ []) ≡ pos 1) × (residual_sum pair extended (0 ∷ 0 ∷ []) ≡ pos 3)
extended_total = (refl, refl, refl)

-- a project is allowed as far as each live tuple has enough
pub project_of_1 : Allowed pair [] 10 (Project 1 1 0 1)
project_of_1 = (record { function = lit< tt; place = lit< tt; value = lit< tt }, lit< tt, can_project pair [] 1 1 0 1 refl refl)

pub project_of_2 : Allowed pair [] 10 (Project 1 1 0 2) → ⊥
project_of_2 allowed = (allowed.2 (1 ∷ 0 ∷ []) (lit< tt, (lit< tt, tt)) refl refl).le

pub project_of_0 : Allowed pair [] 10 (Project 1 1 0 0) → ⊥
project_of_0 allowed = let h : 0 < 0 = allowed.1 in absurd (omega arith)

-- a tuple with an entry at the upper bound is dead, so any amount may be projected from it
pub project_from_dead_tuple : Allowed pair (Took (Is 0 1) ∷ []) 10 (Project 1 1 1 9223372036854775807)
project_from_dead_tuple = (record { function = lit< tt; place = lit< tt; value = lit< tt }, lit< tt, can_project pair (Took (Is 0 1) ∷ []) 1 1 1 9223372036854775807 refl refl)

pub project_from_live_tuple : Allowed pair (Took (Is 0 0) ∷ []) 10 (Project 1 1 1 1) → ⊥
project_from_live_tuple allowed = (allowed.2 (0 ∷ 1 ∷ []) (lit< tt, (lit< tt, tt)) refl refl).le

-- an extend is allowed as far as the value has enough
pub extend_of_3 : Allowed tiny (Did (Project 0 0 0 3) ∷ []) 10 (Extend 0 0 0 3)
extend_of_3 = (record { function = lit< tt; place = lit< tt; value = lit< tt }, lit< tt, λ live. at_most refl)

pub extend_of_4 : Allowed tiny (Did (Project 0 0 0 3) ∷ []) 10 (Extend 0 0 0 4) → ⊥
extend_of_4 allowed = (allowed.2 refl).le

-- a dead value may be extended from with nothing to take; its cost is negative then, and no lift asks it
abbrev from_dead : List Event
from_dead = Did (Extend 0 0 0 5) ∷ Did (CutValue 0 0) ∷ []

pub extend_from_dead : Allowed tiny (Did (CutValue 0 0) ∷ []) 10 (Extend 0 0 0 5)
extend_from_dead = (record { function = lit< tt; place = lit< tt; value = lit< tt }, lit< tt, λ live. absurd (dead live))
  where
    dead : false ≡ true → ⊥
    dead e = cc

pub extend_from_live : Allowed tiny (Did (CutValue 0 0) ∷ []) 10 (Extend 0 0 1 5) → ⊥
extend_from_live allowed = (allowed.2 refl).le

pub dead_unary : unary tiny from_dead 0 0 ≡ negsuc 4
dead_unary = refl

pub lift_past_dead : Allowed tiny (Did (Project 0 0 1 1) ∷ from_dead) 10 (Lift 0 1)
lift_past_dead = (lit< tt, lit< tt, can_lift tiny (Did (Project 0 0 1 1) ∷ from_dead) 0 1 refl refl)

pub lift_of_2 : Allowed tiny (Did (Project 0 0 1 1) ∷ from_dead) 10 (Lift 0 2) → ⊥
lift_of_2 allowed = (allowed.2 1 (lit< tt) refl).le

-- sums go past 2^64: the tuple is dead, so each project is allowed
abbrev deep : List Event
deep = Did (Project 1 0 0 9223372036854775807) ∷ Did (Project 0 0 0 9223372036854775807) ∷ Did (Project 0 0 0 9223372036854775807) ∷ []

pub deep_project : Allowed top deep 9223372036854775807 (Project 1 0 0 9223372036854775807)
deep_project = (record { function = lit< tt; place = lit< tt; value = lit< tt }, lit< tt, none_live)
  where
    none_live : CanProject top deep 1 0 0 9223372036854775807
    none_live [] fits is live = absurd fits
    none_live (zero ∷ []) fits is live = absurd cc
    none_live (suc v ∷ []) fits is live = absurd (omega (arith, fits.0))
    none_live (v ∷ w ∷ tuple) fits is live = absurd fits.1

pub deep_unary : unary top deep 0 0 ≡ pos 27670116110564327421
deep_unary = refl

pub deep_residual : residual top deep 0 (0 ∷ []) ≡ negsuc 9223372036854775806
deep_residual = refl

pub deep_lift : Allowed top deep 9223372036854775807 (Lift 0 27670116110564327421)
deep_lift = (lit< tt, lit< tt, each)
  where
    each : CanLift top deep 0 27670116110564327421
    each zero lt live = at_most refl
    each (suc a) lt live = absurd (omega arith)

pub deep_floor : floor top (Did (Lift 0 27670116110564327421) ∷ deep) ≡ 27670116110564327421
deep_floor = refl

-- a value may be cut where the floor, 1, and its cost, 2, reach the threshold
pub cut_of_value : Allowed tiny shifted 3 (CutValue 0 0)
cut_of_value = (record { variable = lit< tt; value = lit< tt }, at_most refl)

pub cut_below_4 : Allowed tiny shifted 4 (CutValue 0 0) → ⊥
cut_below_4 allowed = allowed.1.le

pub cut_of_cheap_value : Allowed tiny shifted 3 (CutValue 0 1) → ⊥
cut_of_cheap_value allowed = allowed.1.le

pub cut_of_no_value : Allowed tiny shifted 1 (CutValue 0 2) → ⊥
cut_of_no_value allowed = let h : 2 < 2 = allowed.0.value in absurd (omega arith)

-- a tuple may be cut where the floor, 2, and its residual, 4, reach the threshold
pub cut_of_tuple : Allowed pair [] 6 (CutTuple 1 0)
cut_of_tuple = (record { function = lit< tt; cell = lit< tt }, can_cut pair [] 6 1 0 refl refl)

pub cut_below_7 : Allowed pair [] 7 (CutTuple 1 0) → ⊥
cut_below_7 allowed = (allowed.1 (0 ∷ 0 ∷ []) (lit< tt, (lit< tt, tt)) refl).le

pub cut_of_cheap_tuple : Allowed pair [] 3 (CutTuple 1 1) → ⊥
cut_of_cheap_tuple allowed = (allowed.1 (0 ∷ 1 ∷ []) (lit< tt, (lit< tt, tt)) refl).le

pub cut_of_no_tuple : Allowed pair [] 1 (CutTuple 1 4) → ⊥
cut_of_no_tuple allowed = let h : 4 < 4 = allowed.0.cell in absurd (omega arith)

-- a cut and the decisions take values
pub cut_values : (is_live (Did (CutValue 0 1) ∷ []) 0 1 ≡ false) × (is_live (Did (CutValue 0 1) ∷ []) 0 0 ≡ true) × (is_live (Did (CutValue 0 1) ∷ []) 1 1 ≡ true)
cut_values = (refl, refl, refl)

pub is_values : (is_live (Took (Is 0 1) ∷ []) 0 0 ≡ false) × (is_live (Took (Is 0 1) ∷ []) 0 1 ≡ true) × (is_live (Took (Is 0 1) ∷ []) 0 2 ≡ false) × (is_live (Took (Is 0 1) ∷ []) 1 0 ≡ true)
is_values = (refl, refl, refl, refl)

pub is_not_values : (is_live (Refused (Is 0 1) ∷ []) 0 0 ≡ true) × (is_live (Refused (Is 0 1) ∷ []) 0 1 ≡ false) × (is_live (Refused (Is 0 1) ∷ []) 0 2 ≡ true) × (is_live (Refused (Is 0 1) ∷ []) 1 1 ≡ true)
is_not_values = (refl, refl, refl, refl)

pub most_values : (is_live (Took (Most 0 1) ∷ []) 0 0 ≡ true) × (is_live (Took (Most 0 1) ∷ []) 0 1 ≡ true) × (is_live (Took (Most 0 1) ∷ []) 0 2 ≡ false) × (is_live (Took (Most 0 1) ∷ []) 1 2 ≡ true)
most_values = (refl, refl, refl, refl)

pub above_values : (is_live (Refused (Most 0 1) ∷ []) 0 0 ≡ false) × (is_live (Refused (Most 0 1) ∷ []) 0 1 ≡ false) × (is_live (Refused (Most 0 1) ∷ []) 0 2 ≡ true) × (is_live (Refused (Most 0 1) ∷ []) 1 0 ≡ true)
above_values = (refl, refl, refl, refl)

-- a value that was taken stays so
pub still_dead : is_live (Did (Lift 0 1) ∷ Refused (Is 1 0) ∷ Took (Is 0 1) ∷ []) 0 0 ≡ false
still_dead = refl

-- a tuple is live until one of its values or itself is cut, where its entry is below the upper bound
pub pair_live : (is_live_tuple pair [] 1 (0 ∷ 0 ∷ []) ≡ true) × (is_live_tuple pair [] 1 (1 ∷ 1 ∷ []) ≡ false)
pair_live = (refl, refl)

pub first_value_dead : (is_live_tuple pair (Took (Is 0 1) ∷ []) 1 (0 ∷ 0 ∷ []) ≡ false) × (is_live_tuple pair (Took (Is 0 1) ∷ []) 1 (1 ∷ 0 ∷ []) ≡ true)
first_value_dead = (refl, refl)

pub second_value_dead : (is_live_tuple pair (Refused (Is 1 0) ∷ []) 1 (0 ∷ 0 ∷ []) ≡ false) × (is_live_tuple pair (Refused (Is 1 0) ∷ []) 1 (0 ∷ 1 ∷ []) ≡ true)
second_value_dead = (refl, refl)

pub tuple_dead : (is_live_tuple pair (Did (CutTuple 1 2) ∷ []) 1 (1 ∷ 0 ∷ []) ≡ false) × (is_live_tuple pair (Did (CutTuple 1 2) ∷ []) 1 (0 ∷ 1 ∷ []) ≡ true)
tuple_dead = (refl, refl)

pub cut_of_one_function : (is_live_tuple tri (Did (CutTuple 0 1) ∷ []) 0 (0 ∷ 1 ∷ []) ≡ false) × (is_live_tuple tri (Did (CutTuple 0 1) ∷ []) 2 (0 ∷ 1 ∷ []) ≡ true)
cut_of_one_function = (refl, refl)

-- a tuple lives by its entry: what was projected from it does not count
pub shifted_tuple_live : is_live_tuple pair (Did (Extend 1 0 0 6) ∷ []) 1 (0 ∷ 0 ∷ []) ≡ true
shifted_tuple_live = refl

-- of functions 0 and 2 of tri, each residual goes by its own function
pub own_function : (residual tri (Did (Project 2 0 1 1) ∷ []) 2 (1 ∷ 1 ∷ []) ≡ pos 0) × (residual tri (Did (Project 2 0 1 1) ∷ []) 0 (1 ∷ 1 ∷ []) ≡ pos 1) × (unary tri (Did (Project 2 0 1 1) ∷ []) 1 1 ≡ pos 1)
own_function = (refl, refl, refl)
