-- Small networks of which it is known what is consistent, as theorems that compute.
use Rattle.std.proofs.Common.{ap, length, ◌≡◌, ℕ, zero, suc, ◌<◌, ◌≤◌, inl, inr, List, [], ◌∷◌, true, false, refl, lit<, lit≤, arith}
use Rattle.std.proofs.lemmas.Int.{ints}
use Rattle.std.specs.Prelude.{codes, ℤ, pos, ◌+ℤ◌, ◌<ℤ◌, slice_index}
use Rattle.cfn_model.specs.declared.step.Step.{Step}
use Rattle.cfn_model.specs.declared.step.Step.TheVariants.{Project, Extend, Lift, CutValue}
use Rattle.cfn_model.specs.declared.step.Decision.TheVariants.{Is}
use Rattle.cfn_model.specs.declared.step.Event.{Event}
use Rattle.cfn_model.specs.declared.step.Event.TheVariants.{Did, Took}
use Rattle.cfn_model.specs.Network.{Function, Network, Fits, function_at}
use Rattle.cfn_model.specs.Sums.{floor, unary, residual, is_live}
use Rattle.cfn_model.specs.Steps.{IsValue, IsPlace}
use Rattle.cfn_model.proofs.CallerLemmas.{tiny, tri}
use Rattle.cfn_consistency.specs.Openness.{live_count, is_open, open_count, IsActive, IsSmall, TakesPart, HasOpenPair}
use Rattle.cfn_consistency.specs.Consistency.{IsDead, IsFree, IsNodeConsistent, HasFullSupport, IsArcConsistent, IsDirectional, IsFirst, IsExistential}
use Rattle.cfn_consistency.specs.Groups.{Group, begun, AreGroups, AreOpenGroups, GainAtNodes, GotSupport}

abbrev pub row : List ℕ → List ℕ → Function
row scope entries = record { scope = scope; default = 0; entries = entries }

-- what is open: in tri each variable, and with a decision on one the other two
abbrev decided : List Event
decided = Took (Is 0 1) ∷ []

pub tri_counts : (live_count tri [] 0 ≡ 2) × (open_count tri [] 0 ≡ 2) × (is_open tri [] 0 ≡ true)
tri_counts = (refl, refl, refl)

pub decided_counts : (live_count tri decided 0 ≡ 1) × (open_count tri decided 0 ≡ 1) × (open_count tri decided 2 ≡ 2) × (is_open tri decided 0 ≡ false) × (is_open tri decided 1 ≡ true)
decided_counts = (refl, refl, refl, refl, refl)

-- three open variables: not active, but small
abbrev wide : Network
wide = record { name = codes "wide"; sizes = 2 ∷ 2 ∷ 2 ∷ []; upper = 10; functions = row (0 ∷ 1 ∷ 2 ∷ []) (0 ∷ 0 ∷ 0 ∷ 0 ∷ 0 ∷ 0 ∷ 0 ∷ 0 ∷ []) ∷ row [] (4 ∷ []) ∷ [] }

pub wide_is_not_active : IsActive wide [] 0 → ⊥
wide_is_not_active is = absurd (let h : 3 ≤ 2 = is.few in omega arith)

pub wide_takes_part : TakesPart wide [] 0
wide_takes_part = inr (record { function = lit< tt; some = lit< tt; few = lit≤ tt })

pub wide_is_active_once_decided : IsActive wide decided 0
wide_is_active_once_decided = record { function = lit< tt; some = lit< tt; few = lit≤ tt }

pub constant_takes_no_part : TakesPart wide [] 1 → ⊥
constant_takes_no_part (inl is) = absurd (let h : 0 < 0 = is.some in omega arith)
constant_takes_no_part (inr is) = absurd (let h : 0 < 0 = is.some in omega arith)

-- 4,096 tuples are small, 4,097 are not
abbrev tables : Network
tables = record { name = codes "tables"; sizes = 4096 ∷ 1 ∷ 4 ∷ 1025 ∷ []; upper = 10; functions = row (0 ∷ 1 ∷ []) [] ∷ row (2 ∷ 3 ∷ []) [] ∷ [] }

pub most_tuples_are_small : IsSmall tables 0
most_tuples_are_small = record { function = lit< tt; some = lit< tt; few = lit≤ tt }

pub four_more_are_not : IsSmall tables 1 → ⊥
four_more_are_not is = absurd (let h : 4100 ≤ 4096 = is.few in omega arith)

-- each value of tiny's variable
tiny_values : (Q : ℕ → ℕ → Type 0) → Q 0 0 → Q 0 1 → (x a : ℕ) → IsValue tiny x a → Q x a
tiny_values Q zero_ one zero zero value = zero_
tiny_values Q zero_ one zero (suc zero) value = one
tiny_values Q zero_ one zero (suc (suc a)) value = absurd (let h : suc (suc a) < 2 = value.value in omega (arith, h))
tiny_values Q zero_ one (suc x) a value = absurd (let h : suc x < 1 = value.variable in omega (arith, h))

below : (m k : ℕ) (z : ℤ) → z ≡ pos m → m < k → z <ℤ pos k
below m k z e h = omega (arith, ints, e)

-- tiny before any step: node consistent, but not arc consistent, since the tuple of value 0 costs 3
pub tiny_nodes : IsNodeConsistent tiny [] 1
tiny_nodes = record {
  below = λ x a value live. tiny_values (λ x a. (pos (floor tiny []) +ℤ unary tiny [] x a) <ℤ pos 1) (below 0 1 _ refl (lit< tt)) (below 0 1 _ refl (lit< tt)) x a value;
  free = λ x h. only x h;
}
  where
    only : (x : ℕ) → x < 1 → (a : ℕ) × IsFree tiny [] x a
    only zero h = (0, record { value = record { variable = lit< tt; value = lit< tt }; live = refl; free = refl })
    only (suc x) h = absurd (omega arith)

not_zero : (n : ℕ) {z : ℤ} → z ≡ pos (suc n) → z ≡ pos 0 → ⊥
not_zero n e h = absurd (omega (arith, ints, e, h))

-- the tuples of one variable of two values
all_ones : (Q : List ℕ → Type 0) → Q (0 ∷ []) → Q (1 ∷ []) → (tuple : List ℕ) → Fits (2 ∷ []) tuple → Q tuple
all_ones Q a b [] fits = absurd fits
all_ones Q a b (zero ∷ []) fits = a
all_ones Q a b (suc zero ∷ []) fits = b
all_ones Q a b (suc (suc v) ∷ []) fits = absurd (omega (arith, fits.0))
all_ones Q a b (v ∷ w ∷ tuple) fits = absurd fits.1

tiny_place : (a : ℕ) → a < 2 → IsPlace tiny 0 0 a
tiny_place a h = record { function = lit< tt; place = lit< tt; value = h }

pub tiny_is_not_arc : IsArcConsistent tiny [] 0 → ⊥
tiny_is_not_arc is =
    let has = is 0 0 (tiny_place 0 (lit< tt)) refl in
    all_ones (λ t. slice_index t 0 ≡ 0 → residual tiny [] 0 t ≡ pos 0 → ⊥) (λ at free. not_zero 2 refl free) (λ at free. not_zero 0 refl free) has.tuple has.fits has.at has.free

-- after two projects both values have a support, and after a lift the floor is 1: value 0 costs 2 more
abbrev projected : List Event
projected = Did (Project 0 0 1 1) ∷ Did (Project 0 0 0 3) ∷ []

abbrev lifted : List Event
lifted = Did (Lift 0 1) ∷ projected

pub projected_is_arc : IsArcConsistent tiny projected 0
projected_is_arc zero zero place live = record { tuple = 0 ∷ []; fits = (lit< tt, tt); at = refl; live = refl; free = refl }
projected_is_arc zero (suc zero) place live = record { tuple = 1 ∷ []; fits = (lit< tt, tt); at = refl; live = refl; free = refl }
projected_is_arc zero (suc (suc a)) place live = absurd (let h : suc (suc a) < 2 = place.value in omega (arith, h))
projected_is_arc (suc i) a place live = absurd (let h : suc i < 1 = place.place in omega (arith, h))

pub projected_has_no_free_value : IsNodeConsistent tiny projected 10 → ⊥
projected_has_no_free_value is = let some = is.free 0 (lit< tt) in by_value some.0 some.1
  where
    by_value : (a : ℕ) → IsFree tiny projected 0 a → ⊥
    by_value zero is = not_zero 2 refl is.free
    by_value (suc zero) is = not_zero 0 refl is.free
    by_value (suc (suc a)) is = absurd (let h : suc (suc a) < 2 = is.value.value in omega (arith, h))

pub lifted_is_consistent_at_4 : IsNodeConsistent tiny lifted 4
lifted_is_consistent_at_4 = record {
  below = λ x a value live. tiny_values (λ x a. (pos (floor tiny lifted) +ℤ unary tiny lifted x a) <ℤ pos 4) (below 3 4 _ refl (lit< tt)) (below 1 4 _ refl (lit< tt)) x a value;
  free = λ x h. only x h;
}
  where
    only : (x : ℕ) → x < 1 → (a : ℕ) × IsFree tiny lifted x a
    only zero h = (1, record { value = record { variable = lit< tt; value = lit< tt }; live = refl; free = refl })
    only (suc x) h = absurd (omega arith)

pub lifted_is_not_at_3 : IsNodeConsistent tiny lifted 3 → ⊥
lifted_is_not_at_3 is = let h = is.below 0 0 (record { variable = lit< tt; value = lit< tt }) refl in reached h
  where
    reached : pos 3 <ℤ pos 3 → ⊥
    reached h = absurd (omega (arith, ints, h))

-- dead: the floor 1 reaches 1, and not 2; and a variable without values
pub lifted_is_dead_at_1 : IsDead tiny lifted 1
lifted_is_dead_at_1 = inl (lit≤ tt)

pub lifted_is_not_dead_at_2 : IsDead tiny lifted 2 → ⊥
lifted_is_not_dead_at_2 (inl reached) = absurd (let h : 2 ≤ 1 = reached in omega (arith, h))
lifted_is_not_dead_at_2 (inr wiped) = none wiped.0 wiped.1 wiped.2
  where
    none : (x : ℕ) → x < 1 → ((a : ℕ) → a < slice_index tiny.sizes x → is_live lifted x a ≡ false) → ⊥
    none zero h gone = absurd (let e = gone 0 (lit< tt) in cc)
    none (suc x) h gone = absurd (omega arith)

pub wiped_is_dead : IsDead tiny (Did (CutValue 0 0) ∷ Did (CutValue 0 1) ∷ []) 10
wiped_is_dead = inr (0, lit< tt, gone)
  where
    gone : (a : ℕ) → a < 2 → is_live (Did (CutValue 0 0) ∷ Did (CutValue 0 1) ∷ []) 0 a ≡ false
    gone zero h = refl
    gone (suc zero) h = refl
    gone (suc (suc a)) h = absurd (omega arith)

-- what those steps gain: each project gives its value a support, and the lift closes
pub gains : AreGroups tiny [] (Project 0 0 0 3 ∷ Project 0 0 1 1 ∷ Lift 0 1 ∷ [])
gains = (tt, inr (inl first, (tt, inr (inl second, (tt, inr (tt, refl))))))
  where
    part : (history : List Event) → open_count tiny history 0 ≤ 2 → TakesPart tiny history 0
    part history few = inl (record { function = lit< tt; some = lit< tt; few = few })

    first : GotSupport tiny [] (Did (Project 0 0 0 3) ∷ []) 0 0 0
    first = record {
      part = part _ (lit≤ tt);
      live = refl;
      before = λ has. all_ones (λ t. slice_index t 0 ≡ 0 → residual tiny [] 0 t ≡ pos 0 → ⊥) (λ at free. not_zero 2 refl free) (λ at free. not_zero 0 refl free) has.tuple has.fits has.at has.free;
      now = record { tuple = 0 ∷ []; fits = (lit< tt, tt); at = refl; live = refl; free = refl };
    }

    second : GotSupport tiny (Did (Project 0 0 0 3) ∷ []) projected 0 0 1
    second = record {
      part = part _ (lit≤ tt);
      live = refl;
      before = λ has. all_ones (λ t. slice_index t 0 ≡ 1 → residual tiny (Did (Project 0 0 0 3) ∷ []) 0 t ≡ pos 0 → ⊥) (λ at free. absurd (omega (arith, at))) (λ at free. not_zero 0 refl free) has.tuple has.fits has.at has.free;
      now = record { tuple = 1 ∷ []; fits = (lit< tt, tt); at = refl; live = refl; free = refl };
    }

-- a group with a step is not just begun
not_begun : (start history : List Event) (step : Step) (steps : List Step) → record { start = start; steps = step ∷ steps } ≡ begun history → ⊥
not_begun start history step steps e = absurd (let h = ap (λ (g : Group). length g.steps) e in omega (arith, h))

-- a project of less gains nothing, nor does a cut of a value that is not live, and an extend alone closes no group
pub less_gains_nothing : AreGroups tiny [] (Project 0 0 0 2 ∷ []) → ⊥
less_gains_nothing (fresh, inl (shift, end)) = not_begun [] (Did (Project 0 0 0 2) ∷ []) (Project 0 0 0 2) [] end
less_gains_nothing (fresh, inr (inl got, end)) =
    all_ones (λ t. slice_index t 0 ≡ 0 → residual tiny (Did (Project 0 0 0 2) ∷ []) 0 t ≡ pos 0 → ⊥) (λ at free. not_zero 0 refl free) (λ at free. not_zero 0 refl free) got.now.tuple got.now.fits got.now.at got.now.free
less_gains_nothing (fresh, inr (inr got, end)) = absurd (let h = got.pair.other.0 in let e = got.pair.one.0 in let d = got.pair.different in omega (arith, h, e, d))

pub dead_cut_gains_nothing : GainAtNodes (Did (CutValue 0 0) ∷ []) (CutValue 0 0 ∷ []) → ⊥
dead_cut_gains_nothing gain = absurd (let e : false ≡ true = gain.0 in cc)

-- to and fro gains nothing, since the value had a support at the start; and an extend alone is no whole group
pub to_and_fro_gains_nothing : AreGroups tiny projected (Extend 0 0 0 1 ∷ Project 0 0 0 1 ∷ []) → ⊥
to_and_fro_gains_nothing (fresh, inl (shift, (new, inl (other, end)))) = not_begun projected (Did (Project 0 0 0 1) ∷ Did (Extend 0 0 0 1) ∷ projected) (Project 0 0 0 1) (Extend 0 0 0 1 ∷ []) end
to_and_fro_gains_nothing (fresh, inl (shift, (new, inr (inl got, end)))) =
    absurd (got.before (record { tuple = 0 ∷ []; fits = (lit< tt, tt); at = refl; live = refl; free = refl }))
to_and_fro_gains_nothing (fresh, inl (shift, (new, inr (inr got, end)))) = absurd (let h = got.pair.other.0 in let e = got.pair.one.0 in let d = got.pair.different in omega (arith, h, e, d))
to_and_fro_gains_nothing (fresh, inr (closed, rest)) = absurd closed

pub extend_alone_is_no_group : AreGroups tiny projected (Extend 0 0 0 1 ∷ []) → ⊥
extend_alone_is_no_group (fresh, inl (shift, end)) = not_begun projected (Did (Extend 0 0 0 1) ∷ projected) (Extend 0 0 0 1) [] end
extend_alone_is_no_group (fresh, inr (closed, rest)) = absurd closed

-- unfinished it is one, but not where the same value is extended twice
pub extend_alone_is_an_open_group : AreOpenGroups tiny projected (Extend 0 0 0 1 ∷ [])
extend_alone_is_an_open_group = (tt, inl (tt, tt))

pub nothing_is_extended_twice : AreOpenGroups tiny projected (Extend 0 0 0 1 ∷ Extend 0 0 0 1 ∷ []) → ⊥
nothing_is_extended_twice (fresh, inl (shift, (new, rest))) = absurd (new.0 (refl, refl, refl))
nothing_is_extended_twice (fresh, inr (closed, rest)) = absurd closed

pub two_values_are_extended : AreOpenGroups tiny projected (Extend 0 0 0 1 ∷ Extend 0 0 1 1 ∷ [])
two_values_are_extended = (tt, inl (tt, ((λ same. absurd (let e : 0 ≡ 1 = same.2 in omega (arith, e)), tt), inl (tt, tt))))

-- the tuples of two variables of two values
pub all_pairs : (Q : List ℕ → Type 0) → Q (0 ∷ 0 ∷ []) → Q (0 ∷ 1 ∷ []) → Q (1 ∷ 0 ∷ []) → Q (1 ∷ 1 ∷ []) → (tuple : List ℕ) → Fits (2 ∷ 2 ∷ []) tuple → Q tuple
all_pairs Q a b c d [] fits = absurd fits
all_pairs Q a b c d (x ∷ []) fits = absurd fits.1
all_pairs Q a b c d (zero ∷ zero ∷ []) fits = a
all_pairs Q a b c d (zero ∷ suc zero ∷ []) fits = b
all_pairs Q a b c d (suc zero ∷ zero ∷ []) fits = c
all_pairs Q a b c d (suc zero ∷ suc zero ∷ []) fits = d
all_pairs Q a b c d (suc (suc x) ∷ y ∷ []) fits = absurd (omega (arith, fits.0))
all_pairs Q a b c d (zero ∷ suc (suc y) ∷ []) fits = absurd (omega (arith, fits.1.0))
all_pairs Q a b c d (suc zero ∷ suc (suc y) ∷ []) fits = absurd (omega (arith, fits.1.0))
all_pairs Q a b c d (x ∷ y ∷ z ∷ tuple) fits = absurd fits.1.1

-- two variables that are to be equal, and a cost of 2 for value 1 of the upper one, which was projected to it: each value
-- has a support, but value 1 of the lower one has no full support; value 0 has
abbrev fork : Network
fork = record { name = codes "fork"; sizes = 2 ∷ 2 ∷ []; upper = 10; functions = row (0 ∷ 1 ∷ []) (0 ∷ 4 ∷ 4 ∷ 0 ∷ []) ∷ row (1 ∷ []) (0 ∷ 2 ∷ []) ∷ [] }

abbrev moved : List Event
moved = Did (Project 1 0 1 2) ∷ []

pub fork_is_arc : IsArcConsistent fork moved 0
fork_is_arc zero zero place live = record { tuple = 0 ∷ 0 ∷ []; fits = (lit< tt, (lit< tt, tt)); at = refl; live = refl; free = refl }
fork_is_arc zero (suc zero) place live = record { tuple = 1 ∷ 1 ∷ []; fits = (lit< tt, (lit< tt, tt)); at = refl; live = refl; free = refl }
fork_is_arc zero (suc (suc a)) place live = absurd (let h : suc (suc a) < 2 = place.value in omega (arith, h))
fork_is_arc (suc zero) zero place live = record { tuple = 0 ∷ 0 ∷ []; fits = (lit< tt, (lit< tt, tt)); at = refl; live = refl; free = refl }
fork_is_arc (suc zero) (suc zero) place live = record { tuple = 1 ∷ 1 ∷ []; fits = (lit< tt, (lit< tt, tt)); at = refl; live = refl; free = refl }
fork_is_arc (suc zero) (suc (suc a)) place live = absurd (let h : suc (suc a) < 2 = place.value in omega (arith, h))
fork_is_arc (suc (suc i)) a place live = absurd (let h : suc (suc i) < 2 = place.place in omega (arith, h))

fork_pair : HasOpenPair fork moved 0 0 1
fork_pair = record {
  active = record { function = lit< tt; some = lit< tt; few = lit≤ tt };
  one = (lit< tt, refl);
  other = (lit< tt, refl);
  different = λ e. absurd (omega (arith, e));
}

pub fork_is_not_directional : IsDirectional fork moved 0 → ⊥
fork_is_not_directional is =
    let has = is 0 1 1 fork_pair (lit< tt) (record { function = lit< tt; place = lit< tt; value = lit< tt }) refl in
    all_pairs (λ t. slice_index t 0 ≡ 1 → (residual fork moved 0 t +ℤ unary fork moved 1 (slice_index t 1)) ≡ pos 0 → ⊥)
    (λ at free. absurd (omega (arith, at)))
    (λ at free. absurd (omega (arith, at)))
    (λ at free. not_zero 3 refl free)
    (λ at free. not_zero 1 refl free)
    has.tuple
    has.fits
    has.at
    has.free

pub fork_value_0_has_full : HasFullSupport fork moved 0 0 1 0
fork_value_0_has_full = record { tuple = 0 ∷ 0 ∷ []; fits = (lit< tt, (lit< tt, tt)); at = refl; live = refl; free = refl }

-- x is to be equal to y and z, value 1 of y costs 1, and value 0 of z does: each value of x has a support in each function,
-- but neither a full support in both
abbrev torn : Network
torn = record { name = codes "torn"; sizes = 2 ∷ 2 ∷ 2 ∷ []; upper = 10; functions = row (0 ∷ 1 ∷ []) (0 ∷ 4 ∷ 4 ∷ 0 ∷ []) ∷ row (2 ∷ 0 ∷ []) (0 ∷ 4 ∷ 4 ∷ 0 ∷ []) ∷ row (1 ∷ []) (0 ∷ 1 ∷ []) ∷ row (2 ∷ []) (1 ∷ 0 ∷ []) ∷ [] }

abbrev tear : List Event
tear = Did (Project 3 0 0 1) ∷ Did (Project 2 0 1 1) ∷ []

pub torn_is_not_existential : IsExistential torn tear 0 → ⊥
torn_is_not_existential is = by_value is.value (is.supports 0 0 1 first refl first_first) (is.supports 1 1 0 second refl second_first) is.free.value.value
  where
    first : HasOpenPair torn tear 0 0 1
    first = record { active = record { function = lit< tt; some = lit< tt; few = lit≤ tt }; one = (lit< tt, refl); other = (lit< tt, refl); different = λ e. absurd (omega (arith, e)) }

    second : HasOpenPair torn tear 1 1 0
    second = record { active = record { function = lit< tt; some = lit< tt; few = lit≤ tt }; one = (lit< tt, refl); other = (lit< tt, refl); different = λ e. absurd (omega (arith, e)) }

    first_first : IsFirst torn tear 0 0 1
    first_first g p q pair same other = omega arith

    second_first : IsFirst torn tear 1 1 0
    second_first zero zero q pair same other = absurd (let h : slice_index (0 ∷ 1 ∷ []) q ≡ 2 = other in let k : q < 2 = pair.other.0 in no_two q k h)
      where
        no_two : (q : ℕ) → q < 2 → slice_index (0 ∷ 1 ∷ []) q ≡ 2 → ⊥
        no_two zero k h = absurd (omega (arith, h))
        no_two (suc zero) k h = absurd (omega (arith, h))
        no_two (suc (suc q)) k h = absurd (omega arith)
    second_first zero (suc zero) q pair same other = absurd (let h : 1 ≡ 0 = same in omega (arith, h))
    second_first zero (suc (suc p)) q pair same other = absurd (let h : suc (suc p) < 2 = pair.one.0 in omega (arith, h))
    second_first (suc g) p q pair same other = omega arith

    by_value : (a : ℕ) → HasFullSupport torn tear 0 0 1 a → HasFullSupport torn tear 1 1 0 a → a < 2 → ⊥
    by_value zero one two h =
        all_pairs (λ t. slice_index t 1 ≡ 0 → (residual torn tear 1 t +ℤ unary torn tear 2 (slice_index t 0)) ≡ pos 0 → ⊥)
        (λ at free. not_zero 0 refl free)
        (λ at free. absurd (omega (arith, at)))
        (λ at free. not_zero 3 refl free)
        (λ at free. absurd (omega (arith, at)))
        two.tuple
        two.fits
        two.at
        two.free
    by_value (suc zero) one two h =
        all_pairs (λ t. slice_index t 0 ≡ 1 → (residual torn tear 0 t +ℤ unary torn tear 1 (slice_index t 1)) ≡ pos 0 → ⊥)
        (λ at free. absurd (omega (arith, at)))
        (λ at free. absurd (omega (arith, at)))
        (λ at free. not_zero 3 refl free)
        (λ at free. not_zero 0 refl free)
        one.tuple
        one.fits
        one.at
        one.free
    by_value (suc (suc a)) one two h = absurd (omega arith)

-- of two functions on the same two open variables the first alone counts
abbrev twin : Network
twin = record { name = codes "twin"; sizes = 2 ∷ 2 ∷ []; upper = 10; functions = row (0 ∷ 1 ∷ []) (0 ∷ 0 ∷ 0 ∷ 0 ∷ []) ∷ row (0 ∷ 1 ∷ []) (1 ∷ 1 ∷ 1 ∷ 1 ∷ []) ∷ [] }

pub twin_is_existential : IsExistential twin [] 0
twin_is_existential = record {
  value = 0;
  free = record { value = record { variable = lit< tt; value = lit< tt }; live = refl; free = refl };
  supports = supports;
}
  where
    first : HasOpenPair twin [] 0 0 1
    first = record { active = record { function = lit< tt; some = lit< tt; few = lit≤ tt }; one = (lit< tt, refl); other = (lit< tt, refl); different = λ e. absurd (omega (arith, e)) }

    supports : (f i j : ℕ) → HasOpenPair twin [] f i j → slice_index (function_at twin f).scope i ≡ 0 → IsFirst twin [] f i j → HasFullSupport twin [] f i j 0
    supports zero zero (suc zero) pair at is_first = record { tuple = 0 ∷ 0 ∷ []; fits = (lit< tt, (lit< tt, tt)); at = refl; live = refl; free = refl }
    supports zero zero zero pair at is_first = absurd (pair.different refl)
    supports zero zero (suc (suc j)) pair at is_first = absurd (let h : suc (suc j) < 2 = pair.other.0 in omega (arith, h))
    supports zero (suc zero) j pair at is_first = absurd (let h : 1 ≡ 0 = at in omega (arith, h))
    supports zero (suc (suc i)) j pair at is_first = absurd (let h : suc (suc i) < 2 = pair.one.0 in omega (arith, h))
    supports (suc zero) zero (suc zero) pair at is_first = absurd (let h : 1 ≤ 0 = is_first 0 0 1 first refl refl in omega (arith, h))
    supports (suc zero) zero zero pair at is_first = absurd (pair.different refl)
    supports (suc zero) zero (suc (suc j)) pair at is_first = absurd (let h : suc (suc j) < 2 = pair.other.0 in omega (arith, h))
    supports (suc zero) (suc zero) j pair at is_first = absurd (let h : 1 ≡ 0 = at in omega (arith, h))
    supports (suc zero) (suc (suc i)) j pair at is_first = absurd (let h : suc (suc i) < 2 = pair.one.0 in omega (arith, h))
    supports (suc (suc f)) i j pair at is_first = absurd (let h : suc (suc f) < 2 = pair.active.function in omega (arith, h))
