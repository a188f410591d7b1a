-- What calls show, one variable after another.
use Rattle.std.proofs.Common.{◌≡◌, ℕ, ◌+◌, ◌<◌, ◌≤◌, inl, inr, List, ◌++◌, take, drop, length, sym, ◌∙◌, subst, arith}
use Rattle.std.proofs.lemmas.Bool.{cases_eq, cases_lt}
use Rattle.std.proofs.lemmas.List.{length-append, length-drop, length-take-le}
use Rattle.std.specs.Prelude.{Result, Ok, Err, OnOk, is_err, false}
use Rattle.cfn_model.specs.declared.step.Event.{Event}
use Rattle.cfn_model.specs.Network.{Network}
use Rattle.cfn_consistency.specs.Consistency.{IsNodeConsistent}
use Rattle.cfn_store.specs.Standing.{Standing, history}
use Rattle.cfn_gain.specs.declared.limits.Limits.{Limits}
use Rattle.cfn_gain.specs.declared.limits.Halt.{Halt}
use Rattle.cfn_gain.specs.Calls.{Does, Passing, IsUnchanged}
use Rattle.cfn_gain.specs.Levels.{IsLevel}
use Rattle.cfn_model.specs.Sums.{floor}
use Rattle.cfn_store.specs.Peaks.{AreLow}
use Rattle.cfn_gain.proofs.CallerLemmas.{passing_adds, unchanged}
use Rattle.cfn_edac.proofs.Leveled.{level_by}

-- a fact of each number below n
abbrev pub EachTo : (ℕ → Type 0) → ℕ → Type 0
EachTo Fact n = (i : ℕ) → i < n → Fact i

pub none_yet : (Fact : ℕ → Type 0) → EachTo Fact 0
none_yet Fact i h = absurd (omega (arith, h))

pub one_more : (Fact : ℕ → Type 0) (n : ℕ) → EachTo Fact n → Fact n → EachTo Fact (n + 1)
one_more Fact n old here i h = elim (cases_eq i n) [
  | inl e ↦ subst Fact (sym e) here
  | inr e ↦ old i (omega (arith, h, e))
]

-- A fact of a network after a history, of each number below n, along a call.
abbrev pub PassingTo : (Network → List Event → ℕ → Type 0) → Standing → Standing → Limits → ℕ → Type 0
PassingTo Fact before now limits n = Passing before now limits (EachTo (Fact before.network (history before)) n)

pub pass_more : (Fact : Network → List Event → ℕ → Type 0) (before now next : Standing) (limits : Limits) (n : ℕ) → PassingTo Fact before now limits n → Does now next limits (Ok tt) → (IsUnchanged now next → Fact now.network (history now) n) → PassingTo Fact before next limits (n + 1)
pass_more Fact before now next limits n p does here =
    passing_adds before now next limits _ _ p does.adds does.ends
    (λ is fact same. one_more (Fact before.network (history before)) n fact (subst (λ t. Fact t.network (history t) n) is (here same)))

-- a call behind others that goes on
pub pass_on : (before now next : Standing) (limits : Limits) → Passing before now limits (Unit {0}) → Does now next limits (Ok tt) → Passing before next limits (Unit {0})
pass_on before now next limits p does = passing_adds before now next limits _ _ p does.adds does.ends (λ is fact same. tt)

-- The facts of the passes.
abbrev pub LevelAt : ℕ → Network → List Event → ℕ → Type 0
LevelAt k P history x = x < length P.sizes → IsLevel P history k x

pub all_level : (P : Network) (history : List Event) (k n : ℕ) → length P.sizes ≤ n → EachTo (LevelAt k P history) n → IsNodeConsistent P history k
all_level P history k n h each = record {
  below = λ x a value live. (let there = value.variable in (each x (omega (arith, h, there)) there).below a value live);
  free = λ x there. (each x (omega (arith, h, there)) there).free;
}

-- variables that are known to be level are passed
low_level : (P : Network) (history : List Event) (k lacks from to : ℕ) → floor P history + lacks ≡ k → AreLow P history from to lacks → EachTo (LevelAt k P history) from → EachTo (LevelAt k P history) to
low_level P history k lacks from to sum low each x l there = elim (cases_lt x from) [
  | inl before ↦ each x before there
  | inr behind ↦ (let p = low x behind l there in level_by P history x p.0 lacks k sum p.1 p.2)
]

pub pass_low : (before now : Standing) (limits : Limits) (from to lacks : ℕ) → floor now.network (history now) + lacks ≡ limits.threshold → AreLow now.network (history now) from to lacks → PassingTo (LevelAt limits.threshold) before now limits from → PassingTo (LevelAt limits.threshold) before now limits to
pass_low before now limits from to lacks sum low p = record {
  goes = p.goes;
  adds = p.adds;
  fact = λ same. (let is = unchanged before now limits p.adds same in
      low_level before.network (history before) limits.threshold lacks from to (subst (λ (t : Standing). floor t.network (history t) + lacks ≡ limits.threshold) is sum) (subst (λ (t : Standing). AreLow t.network (history t) from to lacks) is low) (p.fact same));
}

-- a result that is no error
pub ok_does : (before now : Standing) (limits : Limits) (result : Result (Unit {0}) Halt) → is_err result ≡ false → Does before now limits result → Does before now limits (Ok tt)
ok_does before now limits (Ok done) ok does = does
ok_does before now limits (Err halt) ok does = absurd cc

pub ok_shows : {A : Type 0} (result : Result (Unit {0}) Halt) → is_err result ≡ false → OnOk result A → A
ok_shows (Ok done) ok fact = fact
ok_shows (Err halt) ok fact = absurd cc

-- what was room for amounts is that still
pub room_kept : (new old : List ℕ) (n most : ℕ) → length new ≡ length old → n ≡ length old → length old ≡ most → length (take n (new ++ drop (length new) old)) ≡ most
room_kept new old n most same len size =
    let long = length-append new (drop (length new) old) in
    let rest = length-drop (length new) old in
    length-take-le n (new ++ drop (length new) old) (omega (arith, long, rest, same, len)) ∙ len ∙ size
