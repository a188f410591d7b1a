-- A joined tree is valid, and its bound is at least that of each.
use Rattle.std.proofs.Common.{◌≡◌, ℕ, ◌+◌, ◌≤◌, List, [], ◌∷◌, refl, sym, ap, ◌∙◌, subst, arith, true, false, Bool, nat_lt, if◌then◌else◌, Some, None, min, ltb-true, ltb-false}
use Rattle.std.specs.Prelude.{Option, not, ◌&&◌, ◌||◌}
use Rattle.cfn_model.specs.declared.step.Step.{Step}
use Rattle.cfn_model.specs.declared.step.Event.{Event}
use Rattle.cfn_model.specs.declared.step.Event.TheVariants.{Did, Took, Refused}
use Rattle.cfn_model.specs.Network.{Network}
use Rattle.cfn_model.specs.Sums.{floor}
use Rattle.cfn_model.specs.Steps.{after}
use Rattle.cfn_model.specs.Tree.{Tree, Open, Closed, Split, Valid, bound, count}
use Rattle.cfn_mending.specs.Joining.{capped, lifts, lesser, raised, height, is_below, gives_way, higher, join}
use Rattle.cfn_mending.specs.Laws.{BoundOfHeight, JoinValid, JoinBound}

floor_after : (P : Network) (block : List Step) (history : List Event) → floor P (after block history) ≡ floor P history + lifts block
floor_after P [] history = omega arith
floor_after P (step ∷ block) history = (let r = floor_after P block (Did step ∷ history) in omega (arith, r))

capped_lesser : (k f more : ℕ) (a b : Option ℕ) → capped k f (raised more (lesser a b)) ≡ min (capped k (f + more) a) (capped k (f + more) b)
capped_lesser k f more None None = omega arith
capped_lesser k f more None (Some m) = omega arith
capped_lesser k f more (Some n) None = omega arith
capped_lesser k f more (Some n) (Some m) = omega arith

pub bound_is : BoundOfHeight
bound_is P history (Open block) k = ap (min k) (floor_after P block history)
bound_is P history (Closed block) k = refl
bound_is P history (Split block d first second) k =
    let l = bound_is P (Took d ∷ after block history) first k in
    let r = bound_is P (Refused d ∷ after block history) second k in
    let f = floor_after P block history in
    let took : floor P (Took d ∷ after block history) ≡ floor P history + lifts block = omega (arith, f) in
    let refused : floor P (Refused d ∷ after block history) ≡ floor P history + lifts block = omega (arith, f) in
    let c = capped_lesser k (floor P history) (lifts block) (height first) (height second) in
    let ll : capped k (floor P (Took d ∷ after block history)) (height first) ≡ capped k (floor P history + lifts block) (height first) = ap (λ g. capped k g (height first)) took in
    let rr : capped k (floor P (Refused d ∷ after block history)) (height second) ≡ capped k (floor P history + lifts block) (height second) = ap (λ g. capped k g (height second)) refused in
    omega (arith, l, r, c, ll, rr)

not_above : (k f : ℕ) (a b : Option ℕ) → is_below a b ≡ false → capped k f b ≤ capped k f a
not_above k f None None h = omega arith
not_above k f None (Some m) h = omega arith
not_above k f (Some n) None h = absurd cc
not_above k f (Some n) (Some m) h = (let l = ltb-false _ _ h in omega (arith, l))

above : (k f : ℕ) (a b : Option ℕ) → is_below a b ≡ true → capped k f a ≤ capped k f b
above k f None b h = absurd cc
above k f (Some n) None h = omega arith
above k f (Some n) (Some m) h = (let l = ltb-true _ _ h in omega (arith, l))

chosen_by : (k f : ℕ) (x y : Tree) (a b : Option ℕ) (ab ba more : Bool) → is_below a b ≡ ab → is_below b a ≡ ba → height x ≡ a → height y ≡ b →
    (capped k f a ≤ capped k f (height (if ab || (not ba && more) then y else x))) × (capped k f b ≤ capped k f (height (if ab || (not ba && more) then y else x)))
chosen_by k f x y a b true ba more ab_is ba_is hx hy = (let l = above k f a b ab_is in let e = ap (capped k f) hy in (omega (arith, l, e), omega (arith, e)))
chosen_by k f x y a b false true more ab_is ba_is hx hy = (let l = above k f b a ba_is in let e = ap (capped k f) hx in (omega (arith, e), omega (arith, l, e)))
chosen_by k f x y a b false false true ab_is ba_is hx hy = (let l = not_above k f b a ba_is in let m = not_above k f a b ab_is in let e = ap (capped k f) hy in (omega (arith, l, e), omega (arith, e)))
chosen_by k f x y a b false false false ab_is ba_is hx hy = (let l = not_above k f a b ab_is in let e = ap (capped k f) hx in (omega (arith, e), omega (arith, l, e)))

higher_bound : (P : Network) (history : List Event) (x y : Tree) (k : ℕ) → (bound P history x k ≤ bound P history (higher x y) k) × (bound P history y k ≤ bound P history (higher x y) k)
higher_bound P history x y k =
    let c = chosen_by k (floor P history) x y (height x) (height y) (is_below (height x) (height y)) (is_below (height y) (height x)) (nat_lt (count x) (count y)) refl refl refl refl in
    let bx = bound_is P history x k in
    let by_ = bound_is P history y k in
    let b = bound_is P history (higher x y) k in
    (omega (arith, c.0, bx, b), omega (arith, c.1, by_, b))

chosen_valid : (P : Network) (history : List Event) (x y : Tree) (k : ℕ) (t : Bool) → Valid P history x k → Valid P history y k → Valid P history (if t then y else x) k
chosen_valid P history x y k true a b = b
chosen_valid P history x y k false a b = a

higher_valid : (P : Network) (history : List Event) (x y : Tree) (k : ℕ) → Valid P history x k → Valid P history y k → Valid P history (higher x y) k
higher_valid P history x y k a b = chosen_valid P history x y k (gives_way x y) a b

-- a chosen tree, and one whose sides are joined, by whether both are one split
valid_by : (P : Network) (history : List Event) (k : ℕ) (x y z : Tree) (t : Bool) → (t ≡ true → Valid P history z k) → Valid P history x k → Valid P history y k → Valid P history (if t then z else higher x y) k
valid_by P history k x y z true made a b = made refl
valid_by P history k x y z false made a b = higher_valid P history x y k a b

pub join_valid : JoinValid
join_valid P same history (Open block) other k is a b = higher_valid P history (Open block) other k a b
join_valid P same history (Closed block) other k is a b = higher_valid P history (Closed block) other k a b
join_valid P same history (Split block d first second) (Open more) k is a b = higher_valid P history (Split block d first second) (Open more) k a b
join_valid P same history (Split block d first second) (Closed more) k is a b = higher_valid P history (Split block d first second) (Closed more) k a b
join_valid P same history (Split block d first second) (Split more e third fourth) k is a b =
    valid_by P history k (Split block d first second) (Split more e third fourth) (Split block d (join same first third) (join same second fourth)) (same block d more e)
    (λ test.
    let eq = is block more d e test in
    let third_valid : Valid P (Took d ∷ after block history) third k = subst (λ c. Valid P (Took c ∷ after block history) third k) (sym eq.1) (subst (λ c. Valid P (Took e ∷ after c history) third k) (sym eq.0) b.2) in
    let fourth_valid : Valid P (Refused d ∷ after block history) fourth k = subst (λ c. Valid P (Refused c ∷ after block history) fourth k) (sym eq.1) (subst (λ c. Valid P (Refused e ∷ after c history) fourth k) (sym eq.0) b.3) in
    (a.0, a.1, join_valid P same (Took d ∷ after block history) first third k is a.2 third_valid, join_valid P same (Refused d ∷ after block history) second fourth k is a.3 fourth_valid))
    a b

abbrev Both : Network → List Event → ℕ → Tree → Tree → Tree → Type 0
Both P history k x y z = (bound P history x k ≤ bound P history z k) × (bound P history y k ≤ bound P history z k)

bound_by : (P : Network) (history : List Event) (k : ℕ) (x y z : Tree) (t : Bool) → (t ≡ true → Both P history k x y z) → Both P history k x y (if t then z else higher x y)
bound_by P history k x y z true made = made refl
bound_by P history k x y z false made = higher_bound P history x y k

pub join_bound : JoinBound
join_bound P same history (Open block) other k is = higher_bound P history (Open block) other k
join_bound P same history (Closed block) other k is = higher_bound P history (Closed block) other k
join_bound P same history (Split block d first second) (Open more) k is = higher_bound P history (Split block d first second) (Open more) k
join_bound P same history (Split block d first second) (Closed more) k is = higher_bound P history (Split block d first second) (Closed more) k
join_bound P same history (Split block d first second) (Split more e third fourth) k is =
    bound_by P history k (Split block d first second) (Split more e third fourth) (Split block d (join same first third) (join same second fourth)) (same block d more e)
    (λ test.
    let eq = is block more d e test in
    let l = join_bound P same (Took d ∷ after block history) first third k is in
    let r = join_bound P same (Refused d ∷ after block history) second fourth k is in
    let t : bound P (Took e ∷ after more history) third k ≡ bound P (Took d ∷ after block history) third k = ap (λ c. bound P (Took e ∷ after c history) third k) (sym eq.0) ∙ ap (λ c. bound P (Took c ∷ after block history) third k) (sym eq.1) in
    let u : bound P (Refused e ∷ after more history) fourth k ≡ bound P (Refused d ∷ after block history) fourth k = ap (λ c. bound P (Refused e ∷ after c history) fourth k) (sym eq.0) ∙ ap (λ c. bound P (Refused c ∷ after block history) fourth k) (sym eq.1) in
    (omega (arith, l.0, r.0), omega (arith, l.1, r.1, t, u)))
