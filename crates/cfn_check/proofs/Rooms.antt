-- Sums over a trail stay far within 128 bits.
use Rattle.std.proofs.Common.{ℕ, suc, ◌+◌, ◌*◌, ◌≤◌, ◌^◌, List, [], ◌∷◌, length, arith}
use Rattle.std.proofs.lemmas.Int.{ints}
use Rattle.std.proofs.Math.Nat.{mul-le-mul}
use Rattle.std.specs.Prelude.{Bool, true, false, if◌then◌else◌, ℤ, pos, neg_ℤ, ◌≤ℤ◌}
use Rattle.cfn_model.specs.declared.step.Step.TheVariants.{Project, Extend, Lift, CutValue, CutTuple}
use Rattle.cfn_model.specs.declared.step.Event.{Event}
use Rattle.cfn_model.specs.declared.step.Event.TheVariants.{Did, Took, Refused}
use Rattle.cfn_model.specs.Network.{Network, IsNetwork}
use Rattle.cfn_model.specs.Sums.{when, lifted, floor, unary_by, unary, removes}
use Rattle.cfn_net.proofs.CallerLemmas.{floor_at_root}
use Rattle.cfn_check.specs.declared.entry.Entry.{Entry}
use Rattle.cfn_tables.specs.Slots.{shifted_by, shifted}
use Rattle.cfn_tables.specs.Tables.{Tables, HasRoom, takers}
use Rattle.cfn_check.specs.Along.{IsSlight}
use Rattle.cfn_tables.specs.Possible.{IsPossible}
use Rattle.cfn_check.specs.Standing.{IsTrail, IsLedger, events_of}

pub record Within (n : ℕ) (z : ℤ) : Type 0 where
  pub low : neg_ℤ (pos n) ≤ℤ z
  pub high : z ≤ℤ pos n

nothing : (n : ℕ) → Within n (pos 0)
nothing n = record { low = omega (arith, ints); high = omega (arith, ints) }

up : (n m : ℕ) → m ≤ n → Within n (pos m)
up n m h = record { low = omega (arith, ints); high = omega (arith, ints) }

down : (n m : ℕ) → m ≤ n → Within n (neg_ℤ (pos m))
down n m h = record { low = omega (arith, ints); high = omega (arith, ints) }

within_when : (n : ℕ) (b : Bool) (z : ℤ) → Within n z → Within n (when b z)
within_when n true z w = w
within_when n false z w = nothing n

unary_by_within : (P : Network) (event : Event) (x a : ℕ) → IsPossible P event → Within (2 ^ 64) (unary_by P event x a)
unary_by_within P (Did (Project f i b m)) x a h = within_when (2 ^ 64) _ (pos m) (up (2 ^ 64) m (omega (arith, h.1)))
unary_by_within P (Did (Extend f i b m)) x a h = within_when (2 ^ 64) _ (neg_ℤ (pos m)) (down (2 ^ 64) m (omega (arith, h.1)))
unary_by_within P (Did (Lift y m)) x a h = within_when (2 ^ 64) _ (neg_ℤ (pos m)) (down (2 ^ 64) m (omega (arith, h.1)))
unary_by_within P (Did (CutValue y b)) x a h = nothing (2 ^ 64)
unary_by_within P (Did (CutTuple f c)) x a h = nothing (2 ^ 64)
unary_by_within P (Took d) x a h = nothing (2 ^ 64)
unary_by_within P (Refused d) x a h = nothing (2 ^ 64)

shifted_by_within : (P : Network) (event : Event) (f n : ℕ) → IsPossible P event → Within (2 ^ 64) (shifted_by P event f n)
shifted_by_within P (Did (Project g i b m)) f n h = within_when (2 ^ 64) _ (pos m) (up (2 ^ 64) m (omega (arith, h.1)))
shifted_by_within P (Did (Extend g i b m)) f n h = within_when (2 ^ 64) _ (neg_ℤ (pos m)) (down (2 ^ 64) m (omega (arith, h.1)))
shifted_by_within P (Did (Lift y m)) f n h = nothing (2 ^ 64)
shifted_by_within P (Did (CutValue y b)) f n h = nothing (2 ^ 64)
shifted_by_within P (Did (CutTuple g c)) f n h = nothing (2 ^ 64)
shifted_by_within P (Took d) f n h = nothing (2 ^ 64)
shifted_by_within P (Refused d) f n h = nothing (2 ^ 64)

lifted_small : (P : Network) (event : Event) → IsPossible P event → lifted event ≤ 2 ^ 64
lifted_small P (Did (Project f i b m)) h = omega arith
lifted_small P (Did (Extend f i b m)) h = omega arith
lifted_small P (Did (Lift y m)) h = omega (arith, h.1)
lifted_small P (Did (CutValue y b)) h = omega arith
lifted_small P (Did (CutTuple f c)) h = omega arith
lifted_small P (Took d) h = omega arith
lifted_small P (Refused d) h = omega arith

unary_within : (P : Network) (entries : List Entry) (x a : ℕ) → IsTrail P entries → Within (2 ^ 64 * length entries) (unary P (events_of entries) x a)
unary_within P [] x a trail = record { low = omega (arith, ints); high = omega (arith, ints) }
unary_within P (entry ∷ entries) x a trail =
    let one = unary_by_within P entry.event x a trail.0 in
    let rest = unary_within P entries x a trail.2 in
    record { low = omega (arith, ints, one.low, rest.low); high = omega (arith, ints, one.high, rest.high) }

shifted_within : (P : Network) (entries : List Entry) (f n : ℕ) → IsTrail P entries → Within (2 ^ 64 * length entries) (shifted P (events_of entries) f n)
shifted_within P [] f n trail = record { low = omega (arith, ints); high = omega (arith, ints) }
shifted_within P (entry ∷ entries) f n trail =
    let one = shifted_by_within P entry.event f n trail.0 in
    let rest = shifted_within P entries f n trail.2 in
    record { low = omega (arith, ints, one.low, rest.low); high = omega (arith, ints, one.high, rest.high) }

-- an entry, or nothing in its place
pub record IsCost (z : ℤ) : Type 0 where
  pub low : pos 0 ≤ℤ z
  pub high : z ≤ℤ pos (2 ^ 63)

pub first_cost : (b : Bool) (m : ℕ) → m ≤ 2 ^ 63 → IsCost (when b (pos m))
first_cost true m h = record { low = omega (arith, ints); high = omega (arith, ints) }
first_cost false m h = record { low = omega (arith, ints); high = omega (arith, ints) }

-- what was shifted at a slot leaves room for sums along a tuple
pub slight : (P : Network) (t : Tables) (entries : List Entry) (f n : ℕ) → IsLedger P t entries → IsSlight (shifted P (events_of entries) f n)
slight P t entries f n ledger =
    let w = shifted_within P entries f n ledger.trail in
    record { low = omega (arith, ints, w.low, ledger.short); high = omega (arith, ints, w.high, ledger.short) }

floor_within : (P : Network) (entries : List Entry) → IsTrail P entries → floor P (events_of entries) ≤ 2 ^ 64 * length entries + floor P []
floor_within P [] trail = omega arith
floor_within P (entry ∷ entries) trail =
    let one = lifted_small P entry.event trail.0 in
    let rest = floor_within P entries trail.2 in
    omega (arith, one, rest)

takers_within : (entries : List Entry) (x a : ℕ) → takers (events_of entries) x a ≤ length entries
takers_within [] x a = omega arith
takers_within (entry ∷ entries) x a = more (removes entry.event x a) _ _ (takers_within entries x a)
  where
    more : (b : Bool) (n m : ℕ) → n ≤ m → (if b then 1 else 0) + n ≤ suc m
    more true n m h = omega arith
    more false n m h = omega arith

pub room : (P : Network) (t : Tables) (entries : List Entry) → IsNetwork P → IsLedger P t entries → HasRoom P t
room P t entries network ledger =
    let says = ledger.says in
    record {
      floor = let f = floor_within P entries ledger.trail in let k = floor_at_root P network in let m = mul-le-mul network.few_functions network.upper in omega (arith, f, k, m, says.floor, ledger.short);
      unary = λ x a l m. (let e = says.unary x a l m in let w = unary_within P entries x a ledger.trail in record { low = omega (arith, ints, e, w.low, ledger.short); high = omega (arith, ints, e, w.high, ledger.short) });
      takers = λ x a l m. (let e = says.takers x a l m in let w = takers_within entries x a in omega (arith, e, w, ledger.short));
      shifts = λ f n l m. (let e = says.shifts f n l m in let w = slight P t entries f n ledger in record { low = omega (arith, ints, e, w.low); high = omega (arith, ints, e, w.high) });
    }
