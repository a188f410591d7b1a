-- Small trees whose leaves, counts, bounds and validity are known, as theorems that compute.
use Rattle.std.proofs.Common.{◌≡◌, ℕ, zero, suc, ◌<◌, ◌≤◌, inl, inr, List, [], ◌∷◌, true, false, refl, arith, lit<, lit≤}
use Rattle.std.specs.Prelude.{codes, Some, slice_index, ◌==◌, nat_le}
use Rattle.std.specs.Fmt.{digits}
use Rattle.cfn_model.specs.declared.step.Step.{Step}
use Rattle.cfn_model.specs.declared.step.Step.TheVariants.{Project, Lift, CutValue}
use Rattle.cfn_model.specs.declared.step.Decision.{Decision}
use Rattle.cfn_model.specs.declared.step.Decision.TheVariants.{Is, Most}
use Rattle.cfn_model.specs.declared.step.Event.{Event}
use Rattle.cfn_model.specs.declared.step.Event.TheVariants.{Did, Took, Refused}
use Rattle.cfn_model.specs.Sums.{is_live}
use Rattle.cfn_model.specs.Steps.{Run, CanProject, after}
use Rattle.cfn_model.specs.Tree.{Tree, Open, Closed, Split, leaf, count, splits, open_leaves, IsWiped, CanClose, Valid, IsStrictSplit, Strict, bound, OpenBelow}
use Rattle.cfn_model.specs.declared.version.Version.{Version}
use Rattle.cfn_model.specs.declared.version.Version.TheVariants.{First, Second}
use Rattle.cfn_model.specs.Certificate.{Certificate, Good}
use Rattle.cfn_model.specs.Text.{HasTree, IsSpelled, spelling}
use Rattle.cfn_model.proofs.Trying.{at_most, can_project, can_lift}
use Rattle.cfn_model.proofs.Rows.{tiny, top, tri, shifted}

-- a leaf may be closed where the floor reaches the threshold, or where a variable has no live value
pub close_at_1 : CanClose tiny shifted 1
close_at_1 = inl (lit≤ tt)

pub not_close_at_2 : CanClose tiny shifted 2 → ⊥
not_close_at_2 (inl reached) = absurd (omega arith)
not_close_at_2 (inr wiped) = by_variable wiped.0 wiped.1 wiped.2
  where
    by_variable : (x : ℕ) → x < 1 → ((a : ℕ) → a < slice_index tiny.sizes x → is_live shifted x a ≡ false) → ⊥
    by_variable zero lt dead = let h : true ≡ false = dead 0 (lit< tt) in absurd cc
    by_variable (suc x) lt dead = absurd (omega arith)

abbrev wiped : List Event
wiped = Refused (Is 0 1) ∷ Did (CutValue 0 0) ∷ []

pub tiny_wiped : IsWiped tiny wiped
tiny_wiped = (0, lit< tt, each)
  where
    each : (a : ℕ) → a < 2 → is_live wiped 0 a ≡ false
    each zero lt = refl
    each (suc zero) lt = refl
    each (suc (suc a)) lt = absurd (omega arith)

pub wiped_closes : CanClose tiny wiped 10
wiped_closes = inr tiny_wiped

-- a value is left
pub one_value_left : IsWiped tiny (Refused (Is 0 1) ∷ []) → ⊥
one_value_left (x, lt, dead) = by_variable x lt dead
  where
    by_variable : (x : ℕ) → x < 1 → ((a : ℕ) → a < slice_index tiny.sizes x → is_live (Refused (Is 0 1) ∷ []) x a ≡ false) → ⊥
    by_variable zero lt dead = let h : true ≡ false = dead 0 (lit< tt) in absurd cc
    by_variable (suc x) lt dead = absurd (omega arith)

-- a split with two open leaves, whose floors are 3 and 1
abbrev of_value_0 : List Step
of_value_0 = Project 0 0 0 3 ∷ Lift 0 3 ∷ []

abbrev of_value_1 : List Step
of_value_1 = Project 0 0 1 1 ∷ Lift 0 1 ∷ []

abbrev two_open : Tree
two_open = Split [] (Is 0 0) (Open of_value_0) (Open of_value_1)

pub two_open_leaves : (leaf (0 ∷ []) two_open ≡ Open of_value_0) × (leaf (1 ∷ []) two_open ≡ Open of_value_1)
two_open_leaves = (refl, refl)

pub two_open_counts : (count two_open ≡ 1) × (splits two_open ≡ 1) × (open_leaves two_open ≡ 2)
two_open_counts = (refl, refl, refl)

pub two_open_bound : bound tiny [] two_open 10 ≡ 1
two_open_bound = refl

pub other_order_bound : bound tiny [] (Split [] (Is 0 1) (Open of_value_1) (Open of_value_0)) 10 ≡ 1
other_order_bound = refl

pub low_threshold_bound : bound tiny [] two_open 0 ≡ 0
low_threshold_bound = refl

pub closed_bound : (bound tiny [] (Closed []) 10 ≡ 10) × (bound tiny [] (Split [] (Is 0 0) (Open of_value_0) (Closed [])) 10 ≡ 3) × (bound tiny [] (Split [] (Is 0 0) (Closed []) (Open of_value_1)) 10 ≡ 1)
closed_bound = (refl, refl, refl)

-- the costs of the values of tiny become unary on either side of a split
project_of_0 : (d : Decision) → CanProject tiny (Took d ∷ []) 0 0 0 3
project_of_0 d [] fits is live = absurd fits
project_of_0 d (zero ∷ []) fits is live = at_most refl
project_of_0 d (suc v ∷ []) fits is live = absurd (omega arith)
project_of_0 d (v ∷ w ∷ tuple) fits is live = absurd fits.1

project_of_1 : (d : Decision) → CanProject tiny (Refused d ∷ []) 0 0 1 1
project_of_1 d [] fits is live = absurd fits
project_of_1 d (zero ∷ []) fits is live = absurd (omega arith)
project_of_1 d (suc zero ∷ []) fits is live = at_most refl
project_of_1 d (suc (suc v) ∷ []) fits is live = absurd (omega (arith, is))
project_of_1 d (v ∷ w ∷ tuple) fits is live = absurd fits.1

pub two_open_valid : Valid tiny [] two_open 10
two_open_valid = (
  tt,
  record { variable = lit< tt; value = lit< tt },
  ((record { function = lit< tt; place = lit< tt; value = lit< tt }, lit< tt, project_of_0 (Is 0 0)), ((lit< tt, lit< tt, can_lift tiny (Did (Project 0 0 0 3) ∷ Took (Is 0 0) ∷ []) 0 3 refl refl), tt)),
  ((record { function = lit< tt; place = lit< tt; value = lit< tt }, lit< tt, project_of_1 (Is 0 0)), ((lit< tt, lit< tt, can_lift tiny (Did (Project 0 0 1 1) ∷ Refused (Is 0 0) ∷ []) 0 1 refl refl), tt)),
)

pub two_open_below : OpenBelow tiny [] two_open 4
two_open_below = (lit< tt, lit< tt)

pub two_open_at_3 : OpenBelow tiny [] two_open 3 → ⊥
two_open_at_3 below = let h : 3 < 3 = below.0 in absurd (omega arith)

-- counts of a larger tree: two splits, two closed leaves and an open one
pub larger_counts : (count (Split [] (Is 0 0) (Split [] (Is 1 0) (Open []) (Closed [])) (Closed [])) ≡ 4) × (splits (Split [] (Is 0 0) (Split [] (Is 1 0) (Open []) (Closed [])) (Closed [])) ≡ 2) × (open_leaves (Split [] (Is 0 0) (Split [] (Is 1 0) (Open []) (Closed [])) (Closed [])) ≡ 1)
larger_counts = (refl, refl, refl)

-- a split is of a value of a variable
pub split_of_no_value : Valid tiny [] (Split [] (Is 0 2) (Open []) (Open [])) 10 → ⊥
split_of_no_value valid = let h : 2 < 2 = valid.1.value in absurd (omega arith)

pub split_of_no_variable : Valid tiny [] (Split [] (Is 1 0) (Open []) (Open [])) 10 → ⊥
split_of_no_variable valid = let h : 1 < 1 = valid.1.variable in absurd (omega arith)

-- a strict split leaves a live value on either side
pub two_open_strict : Strict tiny [] two_open
two_open_strict = (record { first = (0, lit< tt, refl, refl); second = (1, lit< tt, refl, refl) }, tt, tt)

pub split_of_dead_value : Strict tiny [] (Split (CutValue 0 0 ∷ []) (Is 0 0) (Open []) (Open [])) → ⊥
split_of_dead_value strict = let s : IsStrictSplit tiny (Did (CutValue 0 0) ∷ []) (Is 0 0) = strict.0 in by_value s.first.0 s.first.2 s.first.3
  where
    not_zero : (a : ℕ) → (0 == suc a) ≡ true → ⊥
    not_zero a is = grind arith

    by_value : (a : ℕ) → (0 == a) ≡ true → is_live (Did (CutValue 0 0) ∷ []) 0 a ≡ true → ⊥
    by_value zero is live = let h : false ≡ true = live in absurd cc
    by_value (suc a) is live = absurd (not_zero a is)

pub split_with_no_other : Strict tiny [] (Split (CutValue 0 1 ∷ []) (Is 0 0) (Open []) (Open [])) → ⊥
split_with_no_other strict = let s : IsStrictSplit tiny (Did (CutValue 0 1) ∷ []) (Is 0 0) = strict.0 in by_value s.second.0 s.second.1 s.second.2 s.second.3
  where
    by_value : (b : ℕ) → b < 2 → (0 == b) ≡ false → is_live (Did (CutValue 0 1) ∷ []) 0 b ≡ true → ⊥
    by_value zero lt other live = let h : true ≡ false = other in absurd cc
    by_value (suc zero) lt other live = let h : false ≡ true = live in absurd cc
    by_value (suc (suc b)) lt other live = absurd (omega arith)

pub split_of_one_value : Strict top [] (Split [] (Is 0 0) (Open []) (Open [])) → ⊥
split_of_one_value strict = let s : IsStrictSplit top [] (Is 0 0) = strict.0 in by_value s.second.0 s.second.1 s.second.2
  where
    by_value : (b : ℕ) → b < 1 → (0 == b) ≡ false → ⊥
    by_value zero lt other = let h : true ≡ false = other in absurd cc
    by_value (suc b) lt other = absurd (omega arith)

pub split_twice_the_same : Strict tri [] (Split [] (Is 0 0) (Split [] (Is 0 0) (Open []) (Open [])) (Open [])) → ⊥
split_twice_the_same strict = let s : IsStrictSplit tri (Took (Is 0 0) ∷ []) (Is 0 0) = strict.1.0 in by_value s.second.0 s.second.1 s.second.2 s.second.3
  where
    by_value : (b : ℕ) → b < 2 → (0 == b) ≡ false → is_live (Took (Is 0 0) ∷ []) 0 b ≡ true → ⊥
    by_value zero lt other live = let h : true ≡ false = other in absurd cc
    by_value (suc zero) lt other live = let h : false ≡ true = live in absurd cc
    by_value (suc (suc b)) lt other live = absurd (omega arith)

-- a split by a bound: the value that is named is on the first side, each greater one on the second
pub by_bound_leaves : (leaf (0 ∷ []) (Split [] (Most 0 1) (Open of_value_0) (Open of_value_1)) ≡ Open of_value_0)
    × (leaf (1 ∷ []) (Split [] (Most 0 1) (Open of_value_0) (Open of_value_1)) ≡ Open of_value_0)
    × (leaf (2 ∷ []) (Split [] (Most 0 1) (Open of_value_0) (Open of_value_1)) ≡ Open of_value_1)
by_bound_leaves = (refl, refl, refl)

pub split_by_greatest : Strict tiny [] (Split [] (Most 0 1) (Open []) (Open [])) → ⊥
split_by_greatest strict = let s : IsStrictSplit tiny [] (Most 0 1) = strict.0 in by_value s.second.0 s.second.1 s.second.2
  where
    by_value : (b : ℕ) → b < 2 → nat_le b 1 ≡ false → ⊥
    by_value zero lt other = let h : true ≡ false = other in absurd cc
    by_value (suc zero) lt other = let h : true ≡ false = other in absurd cc
    by_value (suc (suc b)) lt other = absurd (omega arith)

pub split_by_bound_of_no_value : Valid tiny [] (Split [] (Most 0 2) (Open []) (Open [])) 10 → ⊥
split_by_bound_of_no_value valid = let h : 2 < 2 = valid.1.value in absurd (omega arith)

pub by_bound_strict : Strict tiny [] (Split [] (Most 0 0) (Open []) (Open []))
by_bound_strict = (record { first = (0, lit< tt, refl, refl); second = (1, lit< tt, refl, refl) }, tt, tt)

-- a certificate of the second version, with a split by a bound, that shows that the least cost of tiny is 1
abbrev pub by_bound : Version → Certificate
by_bound version = record {
  version = version;
  variables = 1;
  functions = 1;
  upper = 10;
  best = Some (record { cost = 1; values = 1 ∷ [] });
  lower = 1;
  tree = Split [] (Most 0 0) (Closed of_value_0) (Closed of_value_1);
}

pub by_bound_text : spelling (by_bound Second) ≡ codes "wcspcert 2\nnetwork 1 1 10\nlower 1\nbest 1\nvalues 1\ntree\npart 0 0\np 0 0 0 3\nu 0 3\nclosed\np 0 0 1 1\nu 0 1\nclosed\nend\n"
unfolding digits
by_bound_text = refl

pub by_bound_has_tree : HasTree Second (by_bound Second).tree
by_bound_has_tree = (tt, tt, tt)

pub by_bound_in_first : IsSpelled (by_bound First) → ⊥
by_bound_in_first spelled = spelled.has_tree.0

pub by_bound_is_good : Good tiny (by_bound Second)
by_bound_is_good = record {
  variables = refl;
  functions = refl;
  upper = refl;
  best = record { below = lit< tt; fits = (lit< tt, tt); cost = refl };
  valid = (
    tt,
    record { variable = lit< tt; value = lit< tt },
    (
      (
        (record { function = lit< tt; place = lit< tt; value = lit< tt }, lit< tt, project_of_0 (Most 0 0)),
        ((lit< tt, lit< tt, can_lift tiny (Did (Project 0 0 0 3) ∷ Took (Most 0 0) ∷ []) 0 3 refl refl), tt),
      ),
      inl (lit≤ tt),
    ),
    (
      (
        (record { function = lit< tt; place = lit< tt; value = lit< tt }, lit< tt, project_of_1 (Most 0 0)),
        ((lit< tt, lit< tt, can_lift tiny (Did (Project 0 0 1 1) ∷ Refused (Most 0 0) ∷ []) 0 1 refl refl), tt),
      ),
      inl (lit≤ tt),
    ),
  );
  lower = lit≤ tt;
}

-- a tree that shows that the least cost of tri is 1: whichever value variable 0 has, one of the other two costs 1
abbrev pub first_side : List Step
first_side = Project 0 1 0 1 ∷ CutValue 1 0 ∷ Project 1 1 0 1 ∷ CutValue 2 0 ∷ Project 2 0 1 1 ∷ Lift 1 1 ∷ []

abbrev pub second_side : List Step
second_side = Project 0 1 1 1 ∷ CutValue 1 1 ∷ Project 1 1 1 1 ∷ CutValue 2 1 ∷ Project 2 0 0 1 ∷ Lift 1 1 ∷ []

abbrev pub tri_tree : List Step → Tree
tri_tree block = Split [] (Is 0 0) (Closed first_side) (Closed block)

abbrev pub tri_certificate : List Step → Certificate
tri_certificate block = record { version = First; variables = 3; functions = 3; upper = 10; best = Some (record { cost = 1; values = 0 ∷ 0 ∷ 1 ∷ [] }); lower = 1; tree = tri_tree block }

pub tri_text : spelling (tri_certificate second_side) ≡ codes "wcspcert 1\nnetwork 3 3 10\nlower 1\nbest 1\nvalues 0 0 1\ntree\nsplit 0 0\np 0 1 0 1\nv 1 0\np 1 1 0 1\nv 2 0\np 2 0 1 1\nu 1 1\nclosed\np 0 1 1 1\nv 1 1\np 1 1 1 1\nv 2 1\np 2 0 0 1\nu 1 1\nclosed\nend\n"
unfolding digits
tri_text = refl

pub first_runs : Run tri (Took (Is 0 0) ∷ []) first_side 1
first_runs = (
  (record { function = lit< tt; place = lit< tt; value = lit< tt }, lit< tt, can_project tri (Took (Is 0 0) ∷ []) 0 1 0 1 refl refl),
  (
    (record { variable = lit< tt; value = lit< tt }, at_most refl),
    (
      (record { function = lit< tt; place = lit< tt; value = lit< tt }, lit< tt, can_project tri (after (Project 0 1 0 1 ∷ CutValue 1 0 ∷ []) (Took (Is 0 0) ∷ [])) 1 1 0 1 refl refl),
      (
        (record { variable = lit< tt; value = lit< tt }, at_most refl),
        (
          (record { function = lit< tt; place = lit< tt; value = lit< tt }, lit< tt, can_project tri (after (Project 0 1 0 1 ∷ CutValue 1 0 ∷ Project 1 1 0 1 ∷ CutValue 2 0 ∷ []) (Took (Is 0 0) ∷ [])) 2 0 1 1 refl refl),
          (
            (lit< tt, lit< tt, can_lift tri (after (Project 0 1 0 1 ∷ CutValue 1 0 ∷ Project 1 1 0 1 ∷ CutValue 2 0 ∷ Project 2 0 1 1 ∷ []) (Took (Is 0 0) ∷ [])) 1 1 refl refl),
            tt,
          ),
        ),
      ),
    ),
  ),
)

second_runs : Run tri (Refused (Is 0 0) ∷ []) second_side 1
second_runs = (
  (record { function = lit< tt; place = lit< tt; value = lit< tt }, lit< tt, can_project tri (Refused (Is 0 0) ∷ []) 0 1 1 1 refl refl),
  (
    (record { variable = lit< tt; value = lit< tt }, at_most refl),
    (
      (record { function = lit< tt; place = lit< tt; value = lit< tt }, lit< tt, can_project tri (after (Project 0 1 1 1 ∷ CutValue 1 1 ∷ []) (Refused (Is 0 0) ∷ [])) 1 1 1 1 refl refl),
      (
        (record { variable = lit< tt; value = lit< tt }, at_most refl),
        (
          (record { function = lit< tt; place = lit< tt; value = lit< tt }, lit< tt, can_project tri (after (Project 0 1 1 1 ∷ CutValue 1 1 ∷ Project 1 1 1 1 ∷ CutValue 2 1 ∷ []) (Refused (Is 0 0) ∷ [])) 2 0 0 1 refl refl),
          (
            (lit< tt, lit< tt, can_lift tri (after (Project 0 1 1 1 ∷ CutValue 1 1 ∷ Project 1 1 1 1 ∷ CutValue 2 1 ∷ Project 2 0 0 1 ∷ []) (Refused (Is 0 0) ∷ [])) 1 1 refl refl),
            tt,
          ),
        ),
      ),
    ),
  ),
)

pub tri_valid : Valid tri [] (tri_tree second_side) 1
tri_valid = (tt, record { variable = lit< tt; value = lit< tt }, (first_runs, inl (lit≤ tt)), (second_runs, inl (lit≤ tt)))

pub tri_bound : bound tri [] (tri_tree second_side) 1 ≡ 1
tri_bound = refl

pub tri_counts : (count (tri_tree second_side) ≡ 3) × (splits (tri_tree second_side) ≡ 1) × (open_leaves (tri_tree second_side) ≡ 0)
tri_counts = (refl, refl, refl)

pub tri_is_good : Good tri (tri_certificate second_side)
tri_is_good = record {
  variables = refl;
  functions = refl;
  upper = refl;
  best = record { below = lit< tt; fits = (lit< tt, (lit< tt, (lit< tt, tt))); cost = refl };
  valid = tri_valid;
  lower = lit≤ tt;
}

-- at 2 it shows nothing: the first cut is refused
pub tri_not_at_2 : Valid tri [] (tri_tree second_side) 2 → ⊥
tri_not_at_2 valid = valid.2.0.1.0.1.le

-- the second side may not be closed without its steps, nor without the first of them
pub second_side_is_open : CanClose tri (Refused (Is 0 0) ∷ []) 1 → ⊥
second_side_is_open (inl reached) = let h : 1 ≤ 0 = reached in absurd (omega arith)
second_side_is_open (inr wiped) = by_variable wiped.0 wiped.1 wiped.2
  where
    by_variable : (x : ℕ) → x < 3 → ((a : ℕ) → a < slice_index tri.sizes x → is_live (Refused (Is 0 0) ∷ []) x a ≡ false) → ⊥
    by_variable zero lt dead = let h : true ≡ false = dead 1 (lit< tt) in absurd cc
    by_variable (suc zero) lt dead = let h : true ≡ false = dead 0 (lit< tt) in absurd cc
    by_variable (suc (suc zero)) lt dead = let h : true ≡ false = dead 0 (lit< tt) in absurd cc
    by_variable (suc (suc (suc x))) lt dead = absurd (omega arith)

pub tri_without_steps : Good tri (tri_certificate []) → ⊥
tri_without_steps good = second_side_is_open good.valid.3.1

pub tri_without_first_step : Good tri (tri_certificate (CutValue 1 1 ∷ Project 1 1 1 1 ∷ CutValue 2 1 ∷ Project 2 0 0 1 ∷ Lift 1 1 ∷ [])) → ⊥
tri_without_first_step good = good.valid.3.0.0.1.le
