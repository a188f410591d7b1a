-- What a lift, and a project with a lift, make of the state between the shifts that close a leaf.
use Rattle.std.proofs.Common.{◌≡◌, ℕ, suc, ◌+◌, ◌*◌, ◌<◌, ◌≤◌, inl, inr, List, [], ◌∷◌, length, Bool, true, refl, sym, ap, ◌∙◌, subst, arith}
use Rattle.std.proofs.lemmas.Bool.{cases_eq, and_parts}
use Rattle.std.proofs.lemmas.Int.{ints}
use Rattle.std.specs.Prelude.{ℤ, pos, ◌+ℤ◌, neg_ℤ, ◌==◌, ◌&&◌, not, nat_lt, slice_index, IsTrue}
use Rattle.cfn_model.specs.declared.step.Step.{Step}
use Rattle.cfn_model.specs.declared.step.Step.TheVariants.{Project, Extend, Lift, CutValue, CutTuple}
use Rattle.cfn_model.specs.declared.step.Event.{Event}
use Rattle.cfn_model.specs.declared.step.Event.TheVariants.{Did, Took, Refused}
use Rattle.cfn_model.specs.Network.{Network, IsNetwork, Fits, restrict, scope_at, arity, variable_at, dims, dims_at, entry_at, cell, cost}
use Rattle.cfn_model.specs.Sums.{when, floor, unary, residual, is_live, is_cut, all_live}
use Rattle.cfn_model.specs.Steps.{IsPlace, IsValue, AllInRange}
use Rattle.cfn_model.proofs.CallerLemmas.{eqb_same, eqb_other, fits_at}
use Rattle.cfn_store.specs.Standing.{Standing, history}
use Rattle.cfn_scan.specs.Extremes.{IsPicked}
use Rattle.cfn_trim.specs.Leaves.{IsLeaf}
use Rattle.cfn_trim.specs.Shifting.{IsShutting, IsLifted, IsProjected, IsMade}
use Rattle.cfn_rows.specs.Sets.{AreLive}
use Rattle.cfn_store.specs.Rooms.{sets_of}
use Rattle.cfn_net.proofs.CallerLemmas.{get_or-dims}
use Rattle.cfn_trim.proofs.Steps.{history_step, adds_none, lift_shifts, project_shifts}

-- where the same is live, a leaf stays one
leaf_kept : (s t : Standing) (values : List ℕ) (k : ℕ) → t.network ≡ s.network → ((y b : ℕ) → is_live (history t) y b ≡ is_live (history s) y b) → IsLeaf s values k → IsLeaf t values k
leaf_kept s t values k network live leaf = record {
  fits = subst (λ N. Fits N.sizes values) (sym network) leaf.fits;
  live = λ x l. live x (slice_index values x) ∙ leaf.live x (subst (λ N. x < length N.sizes) network l);
  only = λ x a value is. leaf.only x a (subst (λ N. IsValue N x a) network value) (sym (live x a) ∙ is);
  dear = subst (λ N. k ≤ cost N values) (sym network) leaf.dear;
}

none_before : (z : ℤ) → (pos 0 +ℤ z) ≡ z
none_before z = omega (arith, ints)

-- an amount under a test of two equalities, the first of which fails, and under one that holds
apart_first : (x y : ℕ) (b : Bool) (z : ℤ) → (x ≡ y → ⊥) → when ((x == y) && b) z ≡ pos 0
apart_first x y b z apart = ap (λ t. when (t && b) z) (eqb_other x y apart)

same_both : (x y a b : ℕ) (z : ℤ) → x ≡ y → a ≡ b → when ((x == y) && (a == b)) z ≡ z
same_both x y a b z e d = ap (λ t. when (t && (a == b)) z) (eqb_same x y e) ∙ ap (λ t. when t z) (eqb_same a b d)

pub lift_more : (before s t : Standing) (values : List ℕ) (k x f a : ℕ) → x < length s.network.sizes → 0 < s.spare → a ≡ slice_index values x → IsShutting before s values k x f → IsLifted s t k x a → IsShutting before t values k (x + 1) f
lift_more before s t values k x f a there some is_a old lifted =
    let m = lifted.amount in
    let sh = lift_shifts s t x m lifted.made (λ some_amount j. (there, some_amount, lifted.can)) some in
    let P = s.network in let hs = history s in let ht = history t in
    let ft : floor t.network ht ≡ m + floor P hs = ap (λ N. floor N ht) sh.network ∙ sh.floors in
    record {
      adds = sh.adds before old.adds;
      leaf = leaf_kept s t values k sh.network sh.live old.leaf;
      room = let r = old.room in let p = sh.spare in let n = ap (λ (N : Network). length N.sizes) sh.network in let e = ap (λ (N : Network). length N.functions) sh.network in omega (arith, r, p, n, e);
      unaries = λ low y l.
          (let cost : unary P hs x a ≡ pos m = lifted.all (omega (arith, low, ft)) in
          let ut = ap (λ N. unary N ht y (slice_index values y)) sh.network ∙ sh.unaries y (slice_index values y) in
          elim (cases_eq x y) [
            | inl e ↦ (let w = ap (λ b. when b (neg_ℤ (pos m))) (eqb_same x y e) in
                let here : unary P hs y (slice_index values y) ≡ pos m = ap (λ n. unary P hs n (slice_index values n)) (sym e) ∙ ap (unary P hs x) (sym is_a) ∙ cost in
                omega (arith, ints, ut, w, here))
            | inr e ↦ (let w = ap (λ b. when b (neg_ℤ (pos m))) (eqb_other x y e) in
                let here = old.unaries (omega (arith, low, ft)) y (omega (arith, l, e)) in
                omega (arith, ints, ut, w, here))
          ]);
      residuals = λ low g l.
          (let rt = ap (λ N. residual N ht g (restrict (scope_at N g) values)) sh.network ∙ sh.residuals g (restrict (scope_at P g) values) in
          let here = old.residuals (omega (arith, low, ft)) g l in
          omega (arith, ints, rt, here));
    }

-- the one live tuple of a scope is the assignment's
tuple_is : (P : Network) (late : List Event) (values : List ℕ) → ((x v : ℕ) → IsValue P x v → IsTrue (is_live late x v) → v ≡ slice_index values x) → (scope tuple : List ℕ) → ((i : ℕ) → i < length scope → slice_index scope i < length P.sizes) → Fits (dims P.sizes scope) tuple → all_live late scope tuple ≡ true → tuple ≡ restrict scope values
tuple_is P late values only [] [] within fits live = refl
tuple_is P late values only [] (v ∷ tuple) within fits live = absurd fits
tuple_is P late values only (x ∷ scope) [] within fits live = absurd fits
tuple_is P late values only (x ∷ scope) (v ∷ tuple) within fits live =
    let l = and_parts (is_live late x v) (all_live late scope tuple) live in
    let head = only x v (record { variable = within 0 (omega arith); value = fits.0 }) l.0 in
    let rest = tuple_is P late values only scope tuple (λ i h. within (suc i) (omega (arith, h))) fits.1 l.1 in
    ap (λ w. w ∷ tuple) head ∙ ap (λ t. slice_index values x ∷ t) rest

picked_is : (P : Network) (late : List Event) (values : List ℕ) (f a : ℕ) (tuple : List ℕ) → IsNetwork P → f < length P.functions → ((x v : ℕ) → IsValue P x v → IsTrue (is_live late x v) → v ≡ slice_index values x) → IsPicked P late f 0 a tuple → tuple ≡ restrict (scope_at P f) values
picked_is P late values f a tuple net there only is =
    let b = and_parts (all_live late (scope_at P f) tuple && nat_lt (entry_at P f tuple) P.upper) (not (is_cut late f (cell (dims_at P f) tuple))) is.live in
    let d = and_parts (all_live late (scope_at P f) tuple) (nat_lt (entry_at P f tuple) P.upper) b.0 in
    tuple_is P late values only (scope_at P f) tuple (net.functions f there).variables is.fits d.0

pub shift_more : (before s u t : Standing) (values : List ℕ) (k f a x : ℕ) → IsNetwork s.network → IsPlace s.network f 0 a → x ≡ variable_at s.network f 0 → x < length s.network.sizes → a ≡ slice_index values x → floor s.network (history s) < k → 1 < s.spare → IsShutting before s values k (length s.network.sizes) f → IsProjected s u k f a → IsLifted u t k x a → IsShutting before t values k (length s.network.sizes) (f + 1)
shift_more before s u t values k f a x net place at there is_a lacking room old projected lifted =
    let m = projected.amount in let n = lifted.amount in
    let P = s.network in let hs = history s in let hu = history u in let ht = history t in
    let one = project_shifts s u f a m projected.made (λ some j. (place, some, projected.is.can)) (omega (arith, room)) in
    let two = lift_shifts u t x n lifted.made (λ some j. (subst (λ N. x < length N.sizes) (sym one.network) there, some, lifted.can)) (let p = one.spare in omega (arith, room, p)) in
    let network = two.network ∙ one.network in
    let fu : floor u.network hu ≡ floor P hs = ap (λ N. floor N hu) one.network ∙ (let e = one.floors in omega (arith, e)) in
    let ft : floor t.network ht ≡ n + floor P hs = ap (λ N. floor N ht) two.network ∙ two.floors ∙ ap (λ r. n + r) fu in
    let uu : (y b : ℕ) → unary u.network hu y b ≡ (when ((variable_at P f 0 == y) && (a == b)) (pos m) +ℤ unary P hs y b) = λ y b. ap (λ N. unary N hu y b) one.network ∙ one.unaries y b in
    let ut : (y b : ℕ) → unary t.network ht y b ≡ (when (x == y) (neg_ℤ (pos n)) +ℤ unary u.network hu y b) = λ y b. ap (λ N. unary N ht y b) two.network ∙ two.unaries y b in
    let ru : (g : ℕ) (tuple : List ℕ) → residual u.network hu g tuple ≡ (when ((f == g) && (slice_index tuple 0 == a)) (neg_ℤ (pos m)) +ℤ residual P hs g tuple) = λ g tuple. ap (λ N. residual N hu g tuple) one.network ∙ one.residuals g tuple in
    let rt : (g : ℕ) (tuple : List ℕ) → residual t.network ht g tuple ≡ residual u.network hu g tuple = λ g tuple. ap (λ N. residual N ht g tuple) two.network ∙ two.residuals g tuple ∙ (let r = residual u.network hu g tuple in none_before r) in
    let cost : floor t.network ht < k → unary u.network hu x a ≡ pos n = λ low. lifted.all (omega (arith, low, ft, fu)) in
    record {
      adds = two.adds before (one.adds before old.adds);
      leaf = leaf_kept u t values k two.network two.live (leaf_kept s u values k one.network one.live old.leaf);
      room = let r = old.room in let p = one.spare in let q = two.spare in let l = ap (λ (N : Network). length N.sizes) network in let e = ap (λ (N : Network). length N.functions) network in omega (arith, r, p, q, l, e);
      unaries = λ low y l. elim (cases_eq x y) [
        | inl e ↦ (let w = ap (λ b. when b (neg_ℤ (pos n))) (eqb_same x y e) in
            let c = cost low in let v = ut y (slice_index values y) in
            let here : unary u.network hu y (slice_index values y) ≡ unary u.network hu x a = ap (λ z. unary u.network hu z (slice_index values z)) (sym e) ∙ ap (unary u.network hu x) (sym is_a) in
            omega (arith, ints, v, w, here, c))
        | inr e ↦ (let w = ap (λ b. when b (neg_ℤ (pos n))) (eqb_other x y e) in
            let v = ut y (slice_index values y) in let z = uu y (slice_index values y) in
            let none = apart_first (variable_at P f 0) y (a == slice_index values y) (pos m) (λ d. e (at ∙ d)) in
            let here = old.unaries lacking y l in
            omega (arith, ints, v, w, z, none, here))
      ];
      residuals = λ low g l.
          (let scope = ap (λ N. residual t.network ht g (restrict (scope_at N g) values)) network in
          let tuple = restrict (scope_at P g) values in
          let r = rt g tuple in let q = ru g tuple in
          elim (cases_eq f g) [
            | inl e ↦ (let c = cost low in
                let z = uu x a in
                let whole = same_both (variable_at P f 0) x a a (pos m) (sym at) refl in
                let start : unary P hs x a ≡ pos 0 = ap (unary P hs x) is_a ∙ old.unaries lacking x there in
                let small : m < k = omega (arith, ints, low, ft, c, z, whole, start) in
                let all = projected.is.all small in
                let same : all.0 ≡ restrict (scope_at P f) values = picked_is P hs values f a all.0 net place.function old.leaf.only all.1 in
                let left : residual P hs g tuple ≡ pos m = ap (λ h. residual P hs h (restrict (scope_at P h) values)) (sym e) ∙ ap (residual P hs f) (sym same) ∙ all.2 in
                let value : slice_index tuple 0 ≡ a = ap (λ h. slice_index (restrict (scope_at P h) values) 0) (sym e) ∙ ap (λ q. slice_index q 0) (sym same) ∙ all.1.value in
                let w = same_both f g (slice_index tuple 0) a (neg_ℤ (pos m)) e value in
                omega (arith, ints, scope, r, q, w, left))
            | inr e ↦ (let w = apart_first f g (slice_index tuple 0 == a) (neg_ℤ (pos m)) e in
                let here = old.residuals lacking g (omega (arith, l, e)) in
                omega (arith, ints, scope, r, q, w, here))
          ]);
    }

-- nothing is left to do where the floor is at the threshold
pub shift_none : (before s : Standing) (values : List ℕ) (k x f : ℕ) → (floor s.network (history s) < k → ⊥) → IsShutting before s values k x f → IsShutting before s values k x (f + 1)
shift_none before s values k x f enough old = record {
  adds = old.adds;
  leaf = old.leaf;
  room = let r = old.room in omega (arith, r);
  unaries = old.unaries;
  residuals = λ low g l. absurd (enough low);
}

-- a function of no variables has no residual cost
no_residual : (P : Network) (late : List Event) (f : ℕ) (tuple : List ℕ) → arity P f ≡ 0 → AllInRange P late → residual P late f tuple ≡ pos 0
no_residual P [] f tuple none range = ap (λ n. when (nat_lt 0 n) (pos (entry_at P f tuple))) none
no_residual P (Did (Project g i a m) ∷ late) f tuple none range = (let r = no_residual P late f tuple none range.1 in
    let w = apart_first g f (slice_index tuple i == a) (neg_ℤ (pos m)) (λ e. (let p = range.0.place in let q = ap (arity P) e in omega (arith, p, q, none))) in omega (arith, ints, r, w))
no_residual P (Did (Extend g i a m) ∷ late) f tuple none range = (let r = no_residual P late f tuple none range.1 in
    let w = apart_first g f (slice_index tuple i == a) (pos m) (λ e. (let p = range.0.place in let q = ap (arity P) e in omega (arith, p, q, none))) in omega (arith, ints, r, w))
no_residual P (Did (Lift x m) ∷ late) f tuple none range = (let r = no_residual P late f tuple none range.1 in omega (arith, ints, r))
no_residual P (Did (CutValue x a) ∷ late) f tuple none range = (let r = no_residual P late f tuple none range.1 in omega (arith, ints, r))
no_residual P (Did (CutTuple g c) ∷ late) f tuple none range = (let r = no_residual P late f tuple none range.1 in omega (arith, ints, r))
no_residual P (Took d ∷ late) f tuple none range = (let r = no_residual P late f tuple none range.1 in omega (arith, ints, r))
no_residual P (Refused d ∷ late) f tuple none range = (let r = no_residual P late f tuple none range.1 in omega (arith, ints, r))

pub shift_empty : (before s : Standing) (values : List ℕ) (k x f : ℕ) → arity s.network f ≡ 0 → AllInRange s.network (history s) → IsShutting before s values k x f → IsShutting before s values k x (f + 1)
shift_empty before s values k x f none range old = record {
  adds = old.adds;
  leaf = old.leaf;
  room = let r = old.room in omega (arith, r);
  unaries = old.unaries;
  residuals = λ low g l. elim (cases_eq f g) [
    | inl e ↦ subst (λ h. residual s.network (history s) h (restrict (scope_at s.network h) values) ≡ pos 0) e (no_residual s.network (history s) f (restrict (scope_at s.network f) values) none range)
    | inr e ↦ old.residuals low g (omega (arith, l, e))
  ];
}

-- the first of a variable's live values is the assignment's
pub some_live : (s : Standing) (values : List ℕ) (k x : ℕ) (live : List ℕ) → x < length s.network.sizes → IsLeaf s values k → AreLive (sets_of s) x live → 0 < length live
some_live s values k x live there leaf are =
    let at = are.all (slice_index values x) (record { variable = there; value = fits_at s.network.sizes values x leaf.fits there }) (leaf.live x there) in
    let l = at.1 in omega (arith, l)

pub first_value : (s : Standing) (values : List ℕ) (k x : ℕ) (live : List ℕ) → x < length s.network.sizes → IsLeaf s values k → AreLive (sets_of s) x live → IsValue s.network x (slice_index live 0)
first_value s values k x live there leaf are = record { variable = there; value = (are.live 0 (some_live s values k x live there leaf are)).0.value }

pub first_live : (s : Standing) (values : List ℕ) (k x : ℕ) (live : List ℕ) → x < length s.network.sizes → IsLeaf s values k → AreLive (sets_of s) x live → IsTrue (is_live (history s) x (slice_index live 0))
first_live s values k x live there leaf are = (are.live 0 (some_live s values k x live there leaf are)).1

pub first_is : (s : Standing) (values : List ℕ) (k x : ℕ) (live : List ℕ) → x < length s.network.sizes → IsLeaf s values k → AreLive (sets_of s) x live → slice_index live 0 ≡ slice_index values x
first_is s values k x live there leaf are = leaf.only x (slice_index live 0) (first_value s values k x live there leaf are) (first_live s values k x live there leaf are)

-- the state at the start
pub none_yet : (s : Standing) (values : List ℕ) (k : ℕ) → IsLeaf s values k → length s.network.sizes + 2 * length s.network.functions ≤ s.spare → IsShutting s s values k 0 0
none_yet s values k leaf room = record {
  adds = adds_none s;
  leaf = leaf;
  room = omega (arith, room);
  unaries = λ low y l. absurd (omega (arith, l));
  residuals = λ low g l. absurd (omega (arith, l));
}

-- a step that was made or left out keeps the network
pub made_network : (s t : Standing) (m : ℕ) (step : Step) → IsMade s t m step → t.network ≡ s.network
made_network s t m step (inl none) = ap (λ (v : Standing). v.network) none.1
made_network s t m step (inr made) = ap (λ (v : Standing). v.network) made.1

-- what is live behind a project, made or left out
pub live_kept : (s t : Standing) (f a m y b : ℕ) → IsMade s t m (Project f 0 a m) → is_live (history t) y b ≡ is_live (history s) y b
live_kept s t f a m y b (inl none) = ap (λ v. is_live (history v) y b) none.1
live_kept s t f a m y b (inr made) = ap (λ v. is_live (history v) y b) made.1 ∙ ap (λ h. is_live h y b) (history_step s (Project f 0 a m))

pub place_of : (P : Network) (f a x : ℕ) → IsNetwork P → f < length P.functions → 0 < arity P f → x ≡ variable_at P f 0 → IsValue P x a → IsPlace P f 0 a
place_of P f a x net there some at value = record {
  function = there;
  place = some;
  value = (let v = value.value in let d = get_or-dims P.sizes (scope_at P f) 0 some in let e = ap (slice_index P.sizes) at in omega (arith, v, d, e));
}
