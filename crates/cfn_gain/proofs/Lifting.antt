-- The pass of lifts.
use Rattle.std.proofs.Common.{◌≡◌, ℕ, ◌+◌, ◌<◌, ◌≤◌, inl, inr, List, [], ◌∷◌, length, length-append, refl, sym, ap, subst, arith}
use Rattle.std.proofs.lemmas.Bool.{cases_eq}
use Rattle.std.proofs.lemmas.Int.{ints}
use Rattle.std.specs.Prelude.{ℤ, pos, neg_ℤ, ◌≤ℤ◌, ◌==◌, Bool, true, false}
use Rattle.cfn_model.specs.declared.step.Step.TheVariants.{Lift}
use Rattle.cfn_model.specs.declared.step.Event.{Event}
use Rattle.cfn_model.specs.declared.step.Event.TheVariants.{Did}
use Rattle.cfn_model.specs.Network.{Network}
use Rattle.cfn_model.specs.Sums.{floor, unary, is_live}
use Rattle.cfn_model.specs.Steps.{CanLift, Allowed}
use Rattle.cfn_model.proofs.CallerLemmas.{when_true, when_false, eqb_same, eqb_other}
use Rattle.cfn_consistency.specs.Consistency.{IsDead, IsFree, IsNodeConsistent}
use Rattle.cfn_store.specs.Standing.{Standing, history, with_step}
use Rattle.cfn_gain.specs.Settling.{AddsSteps}
use Rattle.cfn_gain.specs.Passes.{HasLive, IsLeast, HasRoom, IsLifting}
use Rattle.cfn_gain.proofs.Stepping.{history_step, adds_step}

-- each live value has at least the least
pub at_least : (a m : ℕ) (z : ℤ) → a ≤ m → pos m ≤ℤ z → pos a ≤ℤ z
at_least a m z le h = omega (arith, ints, h)

pub can_lift : (P : Network) (history : List Event) (x m amount : ℕ) → x < length P.sizes → IsLeast P history x m → amount ≤ m → CanLift P history x amount
can_lift P history x m amount there least le a value live = at_least amount m (unary P history x a) le (least.most a (record { variable = there; value = value }) live)

-- a lift of another variable leaves a unary cost, and one of the least leaves 0
other_cost : (P : Network) (history : List Event) (x y a m : ℕ) → (x ≡ y → ⊥) → unary P history y a ≡ pos 0 → unary P (Did (Lift x m) ∷ history) y a ≡ pos 0
other_cost P history x y a m apart is = let w = when_false (x == y) (neg_ℤ (pos m)) (eqb_other x y apart) in omega (arith, ints, w, is)

own_cost : (P : Network) (history : List Event) (x a m : ℕ) → unary P history x a ≡ pos m → unary P (Did (Lift x m) ∷ history) x a ≡ pos 0
own_cost P history x a m is = let w = when_true (x == x) (neg_ℤ (pos m)) (eqb_same x x refl) in omega (arith, ints, w, is)

free_of : (P : Network) (history : List Event) (x : ℕ) → IsLeast P history x 0 → (a : ℕ) × IsFree P history x a
free_of P history x least = (least.value, record { value = least.is; live = least.live; free = least.cost })

-- nothing in common: the variable has a value of cost 0
pub lift_none : (before s : Standing) (k limit x : ℕ) → IsLifting before s k limit x → IsLeast s.network (history s) x 0 → IsLifting before s k limit (x + 1)
lift_none before s k limit x l least = record {
  adds = l.adds;
  room = l.room;
  below = l.below;
  some = l.some;
  free = λ y h. elim (cases_eq y x) [
    | inl same ↦ subst (λ z. (a : ℕ) × IsFree s.network (history s) z a) (sym same) (free_of s.network (history s) x least)
    | inr other ↦ l.free y (omega (arith, h, other))
  ];
}

allowed_lift : (s : Standing) (k x m amount : ℕ) → x < length s.network.sizes → IsLeast s.network (history s) x m → 0 < amount → amount ≤ m → Allowed s.network (history s) k (Lift x amount)
allowed_lift s k x m amount there least some le = (there, some, can_lift s.network (history s) x m amount there least le)

has_spare : (s : Standing) (limit : ℕ) → HasRoom s limit → length s.block < limit → 0 < s.spare
has_spare s limit room less = omega (arith, room, less)

still_room : (s : Standing) (limit x m : ℕ) → HasRoom s limit → length s.block < limit → HasRoom (with_step s (Lift x m)) limit
still_room s limit x m room less = let longer = length-append s.block (Lift x m ∷ []) in omega (arith, room, less, longer)

pub adds_lift : (before s : Standing) (k limit x m amount : ℕ) → IsLifting before s k limit x → x < length s.network.sizes → IsLeast s.network (history s) x m → 0 < amount → amount ≤ m → length s.block < limit → AddsSteps before (with_step s (Lift x amount)) k limit
adds_lift before s k limit x m amount l there least some le less =
    adds_step before s k limit (Lift x amount) l.adds (allowed_lift s k x m amount there least some le) tt less (has_spare s limit l.room less)

pub lift_some : (before s : Standing) (k limit x m lacks : ℕ) → IsLifting before s k limit x → x < length s.network.sizes → IsLeast s.network (history s) x m → 0 < m → floor s.network (history s) + lacks ≡ k → m < lacks → length s.block < limit → IsLifting before (with_step s (Lift x m)) k limit (x + 1)
lift_some before s k limit x m lacks l there least some sum short less =
    let P = s.network in
    let is = sym (history_step s (Lift x m)) in
    record {
      adds = adds_lift before s k limit x m m l there least some (omega arith) less;
      room = still_room s limit x m l.room less;
      below = subst (λ h. floor P h < k) is (omega (arith, sum, short));
      some = λ y h. subst (λ late. HasLive P late y) is (let live = l.some y h in record { value = live.value; is = live.is; live = live.live });
      free = λ y h. subst (λ late. (a : ℕ) × IsFree P late y a) is (free_after y h);
    }
  where
    free_after : (y : ℕ) → y < x + 1 → (a : ℕ) × IsFree s.network (Did (Lift x m) ∷ history s) y a
    free_after y h = elim (cases_eq y x) [
      | inl same ↦ subst (λ z. (a : ℕ) × IsFree s.network (Did (Lift x m) ∷ history s) z a) (sym same) (least.value, record { value = least.is; live = least.live; free = own_cost s.network (history s) x least.value m least.cost })
      | inr other ↦
          (let f = l.free y (omega (arith, h, other)) in
          (f.0, record { value = f.1.value; live = f.1.live; free = other_cost s.network (history s) x y f.0 m (λ e. other (sym e)) f.1.free }))
    ]

-- what the floor lacks is lifted: the floor is at the threshold
pub lift_to_threshold : (s : Standing) (k x lacks : ℕ) → floor s.network (history s) + lacks ≡ k → IsDead s.network (history (with_step s (Lift x lacks))) k
lift_to_threshold s k x lacks sum = inl (let is = ap (floor s.network) (history_step s (Lift x lacks)) in omega (arith, is, sum))

pub no_less : (m : ℕ) (u : ℤ) → 0 < m → pos m ≤ℤ u → u ≡ pos 0 → ⊥
no_less m u some le none = absurd (omega (arith, ints, le, none))

not_both : (b : Bool) → b ≡ true → b ≡ false → ⊥
not_both true h k = absurd cc
not_both false h k = absurd cc

pub not_dead : (P : Network) (history : List Event) (k : ℕ) → floor P history < k → ((y : ℕ) → y < length P.sizes → HasLive P history y) → IsDead P history k → ⊥
not_dead P history k below some (inl reached) = absurd (omega (arith, below, reached))
not_dead P history k below some (inr wiped) =
    let live = some wiped.0 wiped.1 in
    not_both (is_live history wiped.0 live.value) live.live (wiped.2 live.value live.is.value)

-- where there is no room for a lift that is due, the store is neither consistent nor dead
pub lift_due : (before s : Standing) (k limit x m : ℕ) → IsLifting before s k limit x → x < length s.network.sizes → IsLeast s.network (history s) x m → 0 < m → limit ≤ length s.block
    → (limit ≤ length s.block) × (IsNodeConsistent s.network (history s) k → ⊥) × (IsDead s.network (history s) k → ⊥)
lift_due before s k limit x m l there least some long =
    (long, (λ nodes. (let f = nodes.free x there in no_less m (unary s.network (history s) x f.0) some (least.most f.0 f.1.value f.1.live) f.1.free)), not_dead s.network (history s) k l.below l.some)
