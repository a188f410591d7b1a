-- Shifts keep the total of every assignment.
use Rattle.std.proofs.Common.{◌≡◌, ℕ, zero, suc, ◌<◌, List, [], ◌∷◌, length, refl, sym, ap, ◌∙◌, arith, eq-eqb}
use Rattle.std.proofs.lemmas.Int.{ints}
use Rattle.std.proofs.lemmas.List.Sums.{sum_by-cons}
use Rattle.std.specs.Prelude.{ℤ, pos, ◌+ℤ◌, neg_ℤ, Bool, true, false, ◌&&◌, ◌==◌, sum_by, slice_index, slice_index_or, nat_lt}
use Rattle.cfn_model.specs.declared.step.Step.TheVariants.{Project, Extend, Lift, CutValue, CutTuple}
use Rattle.cfn_model.specs.declared.step.Event.{Event}
use Rattle.cfn_model.specs.declared.step.Event.TheVariants.{Did, Took, Refused}
use Rattle.cfn_model.specs.Network.{Function, Network, IsNetwork, restrict, scope_at, variable_at, no_function, entry, dims, cell, total}
use Rattle.cfn_model.specs.Sums.{when, constant, constant_of, lifted, unary_by, unary, residual_by, residual}
use Rattle.cfn_model.specs.Steps.{EventInRange}
use Rattle.cfn_model.specs.Laws.{sum_below, residual_sum, Equivalence}
use Rattle.cfn_model.proofs.Sum.{sum_below-zero, sum_below-add, sum_below-one, sum_below-first}

-- the value that an assignment gives a scope's place
pub restrict_at : (scope values : List ℕ) (i : ℕ) → i < length scope → slice_index (restrict scope values) i ≡ slice_index values (slice_index scope i)
restrict_at [] values i h = absurd (omega arith)
restrict_at (x ∷ scope) values zero h = refl
restrict_at (x ∷ scope) values (suc i) h = restrict_at scope values i (omega arith)

-- a test on equal numbers, and on different ones
pub eqb_same : (a b : ℕ) → a ≡ b → (a == b) ≡ true
eqb_same a b h = eq-eqb a b h

pub eqb_other : (a b : ℕ) → (a ≡ b → ⊥) → (a == b) ≡ false
eqb_other a b h = grind arith

pub when_false : (b : Bool) (z : ℤ) → b ≡ false → when b z ≡ pos 0
when_false b z h = rw h refl

-- a sum with the one term at i, where it passes a test
pub sum_at : (n i : ℕ) (test : ℕ → Bool) (z : ℤ) → i < n → sum_below (λ j. when ((i == j) && test j) z) n ≡ when (test i) z
sum_at n i test z h =
    sum_below-one (λ j. when ((i == j) && test j) z) n i h (λ j other. when_false _ z (ap (λ b. b && test j) (eqb_other i j (λ e. other (sym e)))))
    ∙ ap (λ b. when (b && test i) z) (eqb_same i i refl)

pub when_true : (b : Bool) (z : ℤ) → b ≡ true → when b z ≡ z
when_true b z h = rw h refl

positive : (n : ℕ) → nat_lt 0 (suc n) ≡ true
positive n = grind arith

-- what a function adds to a total is its constant and its residual cost before any step
first_cost : (sizes scope entries values : List ℕ) → pos (slice_index entries (cell (dims sizes scope) (restrict scope values))) ≡ (pos (constant_of scope entries) +ℤ when (nat_lt 0 (length scope)) (pos (slice_index entries (cell (dims sizes scope) (restrict scope values)))))
first_cost sizes [] entries values = omega (arith, ints)
first_cost sizes (x ∷ scope) entries values =
    let w = when_true (nat_lt 0 (length (x ∷ scope))) (pos (slice_index entries (cell (dims sizes (x ∷ scope)) (restrict (x ∷ scope) values)))) (positive (length scope)) in
    omega (arith, ints, w)

term : List ℕ → List ℕ → List Function → ℕ → ℤ
term sizes values fs i = when (nat_lt 0 (length (slice_index_or fs i no_function).scope)) (pos (entry sizes (slice_index_or fs i no_function) (restrict (slice_index_or fs i no_function).scope values)))

first_total : (sizes : List ℕ) (values : List ℕ) (fs : List Function) → pos (sum_by (λ f. entry sizes f (restrict f.scope values)) fs) ≡ (pos (sum_by constant fs) +ℤ sum_below (term sizes values fs) (length fs))
first_total sizes values [] = refl
first_total sizes values (f ∷ fs) =
    let one : pos (entry sizes f (restrict f.scope values)) ≡ (pos (constant f) +ℤ term sizes values (f ∷ fs) 0) = unfold term in first_cost sizes f.scope f.entries values in
    let rest = first_total sizes values fs in
    let apart : sum_below (term sizes values (f ∷ fs)) (suc (length fs)) ≡ (term sizes values (f ∷ fs) 0 +ℤ sum_below (term sizes values fs) (length fs)) = sum_below-first (term sizes values (f ∷ fs)) (length fs) ∙ ap (λ z. term sizes values (f ∷ fs) 0 +ℤ z) (unfold term in refl) in
    let left : pos (sum_by (λ (g : Function). entry sizes g (restrict g.scope values)) (f ∷ fs)) ≡ (pos (entry sizes f (restrict f.scope values)) +ℤ pos (sum_by (λ (g : Function). entry sizes g (restrict g.scope values)) fs)) = ap pos (sum_by-cons (λ (g : Function). entry sizes g (restrict g.scope values)) f fs) in
    let consts : pos (sum_by constant (f ∷ fs)) ≡ (pos (constant f) +ℤ pos (sum_by constant fs)) = ap pos (sum_by-cons constant f fs) in
    left ∙ ap (λ z. z +ℤ pos (sum_by (λ (g : Function). entry sizes g (restrict g.scope values)) fs)) one ∙ regroup (pos (constant f)) (term sizes values (f ∷ fs) 0) _ (pos (sum_by constant fs)) (sum_below (term sizes values fs) (length fs)) rest ∙ ap (λ z. z +ℤ (term sizes values (f ∷ fs) 0 +ℤ sum_below (term sizes values fs) (length fs))) (sym consts) ∙ ap (λ z. pos (sum_by constant (f ∷ fs)) +ℤ z) (sym apart)
  where
    regroup : (a b r c s : ℤ) → r ≡ (c +ℤ s) → ((a +ℤ b) +ℤ r) ≡ ((a +ℤ c) +ℤ (b +ℤ s))
    regroup a b r c s h = omega (arith, ints, h)

-- what an event adds to floor, unary and residual costs adds up to nothing
nothing : (P : Network) (event : Event) (values : List ℕ) → IsNetwork P → EventInRange P event → ((pos (lifted event) +ℤ sum_below (λ x. unary_by P event x (slice_index values x)) (length P.sizes)) +ℤ sum_below (λ f. residual_by event f (restrict (scope_at P f) values)) (length P.functions)) ≡ pos 0
nothing P (Did (Project f i a m)) values network range =
    let x = variable_at P f i in
    let there : x < length P.sizes = (network.functions f range.function).variables i range.place in
    let left = sum_at (length P.sizes) x (λ y. a == slice_index values y) (pos m) there in
    let right = sum_at (length P.functions) f (λ g. slice_index (restrict (scope_at P g) values) i == a) (neg_ℤ (pos m)) range.function in
    let value = restrict_at (scope_at P f) values i range.place in
    let test : (slice_index (restrict (scope_at P f) values) i == a) ≡ (a == slice_index values x) = ap (λ v. v == a) value ∙ swap (slice_index values x) a in
    let right' = right ∙ ap (λ b. when b (neg_ℤ (pos m))) test in
    cancel (a == slice_index values x) m left right'
  where
    swap : (a b : ℕ) → (a == b) ≡ (b == a)
    swap a b = grind arith

    cancel : (b : Bool) (m : ℕ) {u r : ℤ} → u ≡ when b (pos m) → r ≡ when b (neg_ℤ (pos m)) → ((pos 0 +ℤ u) +ℤ r) ≡ pos 0
    cancel true m h k = omega (arith, ints, h, k)
    cancel false m h k = omega (arith, ints, h, k)
nothing P (Did (Extend f i a m)) values network range =
    let x = variable_at P f i in
    let there : x < length P.sizes = (network.functions f range.function).variables i range.place in
    let left = sum_at (length P.sizes) x (λ y. a == slice_index values y) (neg_ℤ (pos m)) there in
    let right = sum_at (length P.functions) f (λ g. slice_index (restrict (scope_at P g) values) i == a) (pos m) range.function in
    let value = restrict_at (scope_at P f) values i range.place in
    let test : (slice_index (restrict (scope_at P f) values) i == a) ≡ (a == slice_index values x) = ap (λ v. v == a) value ∙ swap (slice_index values x) a in
    let right' = right ∙ ap (λ b. when b (pos m)) test in
    cancel (a == slice_index values x) m left right'
  where
    swap : (a b : ℕ) → (a == b) ≡ (b == a)
    swap a b = grind arith

    cancel : (b : Bool) (m : ℕ) {u r : ℤ} → u ≡ when b (neg_ℤ (pos m)) → r ≡ when b (pos m) → ((pos 0 +ℤ u) +ℤ r) ≡ pos 0
    cancel true m h k = omega (arith, ints, h, k)
    cancel false m h k = omega (arith, ints, h, k)
nothing P (Did (Lift x m)) values network range =
    let left = sum_below-one (λ y. when (x == y) (neg_ℤ (pos m))) (length P.sizes) x range (λ y other. when_false _ (neg_ℤ (pos m)) (eqb_other x y (λ e. other (sym e)))) ∙ ap (λ b. when b (neg_ℤ (pos m))) (eqb_same x x refl) in
    let right = sum_below-zero (length P.functions) in
    omega (arith, ints, left, right)
nothing P (Did (CutValue x a)) values network range = let left = sum_below-zero (length P.sizes) in let right = sum_below-zero (length P.functions) in omega (arith, ints, left, right)
nothing P (Did (CutTuple f c)) values network range = let left = sum_below-zero (length P.sizes) in let right = sum_below-zero (length P.functions) in omega (arith, ints, left, right)
nothing P (Took d) values network range = let left = sum_below-zero (length P.sizes) in let right = sum_below-zero (length P.functions) in omega (arith, ints, left, right)
nothing P (Refused d) values network range = let left = sum_below-zero (length P.sizes) in let right = sum_below-zero (length P.functions) in omega (arith, ints, left, right)

pub equivalence : Equivalence
equivalence P [] values network fits range =
    let u = sum_below-zero (length P.sizes) in
    let t : pos (total P values) ≡ (pos (sum_by constant P.functions) +ℤ residual_sum P [] values) = unfold term in first_total P.sizes values P.functions in
    omega (arith, ints, u, t)
equivalence P (event ∷ history) values network fits range =
    let rest = equivalence P history values network fits range.1 in
    let us = sum_below-add (λ x. unary_by P event x (slice_index values x)) (λ x. unary P history x (slice_index values x)) (length P.sizes) in
    let rs = sum_below-add (λ f. residual_by event f (restrict (scope_at P f) values)) (λ f. residual P history f (restrict (scope_at P f) values)) (length P.functions) in
    let none = nothing P event values network range.0 in
    omega (arith, ints, rest, us, rs, none)
