-- Variables are looked at for unary costs, value by value.
use Rattle.std.proofs.Common.{◌≡◌, ℕ, suc, zero, ◌+◌, ◌<◌, ◌≤◌, Bool, true, false, ◌||◌, List, [], ◌∷◌, length, refl, sym, ap, ◌∙◌, subst, inl, inr, arith}
use Rattle.std.proofs.lemmas.Bool.{cases_eq, eqb-true}
use Rattle.std.specs.Prelude.{pos, ◌<ℤ◌, slice_index, ◌==◌, IsTrue, IsFalse}
use Rattle.cfn_model.specs.declared.step.Event.{Event}
use Rattle.cfn_model.specs.Network.{Network}
use Rattle.cfn_model.specs.Sums.{unary, is_live}
use Rattle.cfn_queue.specs.Waiting.{is_in, AreBelow}
use Rattle.cfn_consistency.specs.Virtual.{Bans}
use Rattle.cfn_store.specs.Standing.{Standing, history}
use Rattle.cfn_derivation.specs.Derived.{AllAlive}
use Rattle.cfn_derivation.specs.Working.{Work, HasRoom, IsLow, Goes}
use Rattle.cfn_derivation.proofs.Going.{goes_none, goes_then, within_of, low_goes}

-- one value, and those below a number
abbrev pub IsLowAt : Network → List Event → ℕ → Bans → ℕ → ℕ → Type 0
IsLowAt P history q bans x a = IsTrue (is_live history x a) → IsFalse (bans.own x a) → unary P history x a <ℤ pos q

abbrev pub IsLowTo : Network → List Event → ℕ → Bans → ℕ → ℕ → Type 0
IsLowTo P history q bans x n = (a : ℕ) → a < n → IsLowAt P history q bans x a

low_to_goes : (q : ℕ) (bans : Bans) (before after : Standing) (old new : Work) (x n : ℕ) → Goes q bans before after old new → IsLowTo before.network (history before) q bans x n → IsLowTo after.network (history after) q bans x n
low_to_goes q bans before after old new x n goes low = subst (λ P. IsLowTo P (history after) q bans x n) (sym goes.derived.network)
    (λ a h live unbanned. (let w = within_of before after q bans goes.deletions goes.derived in
    subst (λ u. u <ℤ pos q) (sym (w.unary x a)) (low a h (w.live x a live) unbanned)))

pub record IsLowering (q : ℕ) (bans : Bans) (before now : Standing) (old new : Work) (x n : ℕ) : Type 0 where
  pub goes : Goes q bans before now old new
  pub alive : AllAlive now.network (history now)
  pub low : IsLowTo now.network (history now) q bans x n

pub lowering_start : (q : ℕ) (bans : Bans) (s : Standing) (work : Work) (x : ℕ) → HasRoom s work → AllAlive s.network (history s) → IsLowering q bans s s work work x 0
lowering_start q bans s work x room alive = record { goes = goes_none q bans s work room; alive = alive; low = λ a h. absurd (omega (arith, h)) }

pub lowering_next : (q : ℕ) (bans : Bans) (before now next : Standing) (old middle new : Work) (x n : ℕ) → IsLowering q bans before now old middle x n → Goes q bans now next middle new → AllAlive next.network (history next) → IsLowAt next.network (history next) q bans x n → IsLowering q bans before next old new x (n + 1)
lowering_next q bans before now next old middle new x n is goes alive here = record {
  goes = goes_then q bans before now next old middle new is.goes goes;
  alive = alive;
  low = λ a h. elim (cases_eq a n) [
    | inl e ↦ subst (IsLowAt next.network (history next) q bans x) (sym e) here
    | inr d ↦ low_to_goes q bans now next middle new x n goes is.low a (omega (arith, h, d))
  ];
}

pub lowering_end : (q : ℕ) (bans : Bans) (before now : Standing) (old new : Work) (x n : ℕ) → slice_index before.network.sizes x ≤ n → IsLowering q bans before now old new x n → IsLow now.network (history now) q bans x
lowering_end q bans before now old new x n all is a value live unbanned =
    is.low a (let h = value.value in let e = ap (λ P. slice_index P.sizes x) is.goes.derived.network in omega (arith, h, e, all)) live unbanned

-- the same of the first variables of a list
pub record AreLowering (q : ℕ) (bans : Bans) (before now : Standing) (old new : Work) (variables : List ℕ) (n : ℕ) : Type 0 where
  pub goes : Goes q bans before now old new
  pub alive : AllAlive now.network (history now)
  pub low : (j : ℕ) → j < n → IsLow now.network (history now) q bans (slice_index variables j)

pub all_start : (q : ℕ) (bans : Bans) (s : Standing) (work : Work) (variables : List ℕ) → HasRoom s work → AllAlive s.network (history s) → AreLowering q bans s s work work variables 0
all_start q bans s work variables room alive = record { goes = goes_none q bans s work room; alive = alive; low = λ j h. absurd (omega (arith, h)) }

pub all_next : (q : ℕ) (bans : Bans) (before now next : Standing) (old middle new : Work) (variables : List ℕ) (n : ℕ) → AreLowering q bans before now old middle variables n → Goes q bans now next middle new → AllAlive next.network (history next) → IsLow next.network (history next) q bans (slice_index variables n) → AreLowering q bans before next old new variables (n + 1)
all_next q bans before now next old middle new variables n is goes alive here = record {
  goes = goes_then q bans before now next old middle new is.goes goes;
  alive = alive;
  low = λ j h. elim (cases_eq j n) [
    | inl e ↦ subst (λ k. IsLow next.network (history next) q bans (slice_index variables k)) (sym e) here
    | inr d ↦ low_goes now next q bans goes.deletions (slice_index variables j) goes.derived (is.low j (omega (arith, h, d)))
  ];
}

-- a number in a list stands somewhere
pub found_at : (items : List ℕ) (x : ℕ) → is_in x items ≡ true → (j : ℕ) × (j < length items) × (slice_index items j ≡ x)
found_at [] x h = absurd cc
found_at (y ∷ items) x h = by (x == y) refl (λ rest. found_at items x rest)
  where
    by : (b : Bool) → (x == y) ≡ b → (is_in x items ≡ true → (j : ℕ) × (j < length items) × (slice_index items j ≡ x)) → (j : ℕ) × (j < suc (length items)) × (slice_index (y ∷ items) j ≡ x)
    by true e rest = (0, omega arith, sym (eqb-true x y e))
    by false e rest =
        let found = rest (sym (ap (λ b. b || is_in x items) e) ∙ h) in
        (suc found.0, (let less = found.1 in omega (arith, less)), found.2)

pub below_at : (size : ℕ) (items : List ℕ) (j : ℕ) → AreBelow size items → j < length items → slice_index items j < size
below_at size [] j below h = absurd (omega (arith, h))
below_at size (x ∷ items) zero below h = below.0
below_at size (x ∷ items) (suc j) below h = below_at size items j below.1 (omega (arith, h))

pub all_end : (q : ℕ) (bans : Bans) (before now : Standing) (old new : Work) (variables : List ℕ) (n x : ℕ) → length variables ≤ n → AreLowering q bans before now old new variables n → is_in x variables ≡ true → IsLow now.network (history now) q bans x
all_end q bans before now old new variables n x all is there =
    let found = found_at variables x there in
    subst (IsLow now.network (history now) q bans) found.2 (is.low found.0 (let less = found.1 in omega (arith, less, all)))
