-- Steps behind steps, and calls behind calls.
use Rattle.std.proofs.Common.{◌≡◌, ℕ, ◌<◌, ◌≤◌, ◌⊎◌, inl, inr, List, [], ◌∷◌, ◌++◌, length, length-append, append_assoc, refl, sym, ap, ◌∙◌, subst, arith}
use Rattle.std.specs.Prelude.{Result, Ok, Err, IsErrAnd, OnOk}
use Rattle.cfn_model.specs.declared.step.Step.{Step}
use Rattle.cfn_model.specs.declared.step.Event.{Event}
use Rattle.cfn_model.specs.declared.step.Event.TheVariants.{Did}
use Rattle.cfn_model.specs.Network.{Network}
use Rattle.cfn_model.specs.Sums.{floor}
use Rattle.cfn_model.specs.Steps.{Allowed, Run, after}
use Rattle.cfn_gain.proofs.Stepping.{after_append, append_none}
use Rattle.cfn_store.specs.Standing.{Standing, history, with_step}
use Rattle.cfn_gain.specs.declared.limits.Limits.{Limits}
use Rattle.cfn_gain.specs.declared.limits.Halt.{Halt}
use Rattle.cfn_gain.specs.Calls.{GoesOn, Adds, Does, IsUnchanged, Grows, Passing}

pub adds_none : (s : Standing) (limits : Limits) → Adds s s limits
adds_none s limits = record {
  network = refl;
  base = refl;
  steps = [];
  block = append_none s.block;
  runs = tt;
  spare = omega arith;
  within = inr refl;
}

pub adds_step : (s : Standing) (limits : Limits) (step : Step) → GoesOn s limits → Allowed s.network (history s) limits.threshold step → length s.block < limits.steps → Adds s (with_step s step) limits
adds_step s limits step goes allowed less =
    let longer = length-append s.block (step ∷ []) in let room = goes.room in
    record {
      network = refl;
      base = refl;
      steps = step ∷ [];
      block = refl;
      runs = (allowed, tt);
      spare = omega (arith, room, less);
      within = inl (omega (arith, longer, less));
    }

run_append : (P : Network) (history : List Event) (first second : List Step) (k : ℕ) → Run P history first k → Run P (after first history) second k → Run P history (first ++ second) k
run_append P history [] second k runs more = more
run_append P history (step ∷ first) second k runs more = (runs.0, run_append P (Did step ∷ history) first second k runs.1 more)

pub history_after : (before now : Standing) (limits : Limits) (adds : Adds before now limits) → history now ≡ after adds.steps (history before)
history_after before now limits adds =
    ap (λ b. after b now.base) adds.block ∙ ap (after (before.block ++ adds.steps)) adds.base ∙ after_append before.block adds.steps before.base

within_then : (limits : Limits) (a b c : ℕ) → ((b ≤ limits.steps) ⊎ (b ≡ a)) → ((c ≤ limits.steps) ⊎ (c ≡ b)) → (c ≤ limits.steps) ⊎ (c ≡ a)
within_then limits a b c first (inl h) = inl h
within_then limits a b c (inl h) (inr same) = inl (omega (arith, h, same))
within_then limits a b c (inr is) (inr same) = inr (same ∙ is)

pub adds_then : (before mid now : Standing) (limits : Limits) → Adds before mid limits → Adds mid now limits → Adds before now limits
adds_then before mid now limits first second =
    let long = length-append first.steps second.steps in
    record {
      network = second.network ∙ first.network;
      base = second.base ∙ first.base;
      steps = first.steps ++ second.steps;
      block = second.block ∙ ap (λ b. b ++ second.steps) first.block ∙ append_assoc before.block first.steps second.steps;
      runs = run_append before.network (history before) first.steps second.steps limits.threshold first.runs
          (subst (λ h. Run before.network h second.steps limits.threshold) (history_after before mid limits first)
          (subst (λ P. Run P (history mid) second.steps limits.threshold) first.network second.runs));
      spare = omega (arith, long, first.spare, second.spare);
      within = within_then limits (length before.block) (length mid.block) (length now.block) first.within second.within;
    }

-- a call goes on from where another did
pub goes_after : (before now : Standing) (limits : Limits) → GoesOn before limits → Adds before now limits → floor now.network (history now) < limits.threshold → GoesOn now limits
goes_after before now limits goes adds below =
    let long = ap length adds.block ∙ length-append before.block adds.steps in let room = goes.room in let upper = goes.upper in let same = ap (λ P. P.upper) adds.network in
    record {
      upper = omega (arith, upper, same);
      below = below;
      room = omega (arith, long, room, adds.spare);
    }

pub no_shorter : (before now : Standing) (limits : Limits) → Adds before now limits → length before.block ≤ length now.block
no_shorter before now limits adds = let long = ap length adds.block ∙ length-append before.block adds.steps in omega (arith, long)

none_of : (steps : List Step) → length steps ≡ 0 → steps ≡ []
none_of [] h = refl
none_of (step ∷ steps) h = absurd (omega (arith, h))

same_standing : (s t : Standing) → s.network ≡ t.network → s.base ≡ t.base → s.block ≡ t.block → s.spare ≡ t.spare → s ≡ t
same_standing s t network base block spare =
    ap (λ n. record { network = n; base = s.base; block = s.block; spare = s.spare }) network
    ∙ ap (λ b. record { network = t.network; base = b; block = s.block; spare = s.spare }) base
    ∙ ap (λ b. record { network = t.network; base = t.base; block = b; spare = s.spare }) block
    ∙ ap (λ n. record { network = t.network; base = t.base; block = t.block; spare = n }) spare

-- a store whose block is as long as it was is as it was
pub unchanged : (before now : Standing) (limits : Limits) → Adds before now limits → IsUnchanged before now → now ≡ before
unchanged before now limits adds same =
    let long = ap length adds.block ∙ length-append before.block adds.steps in
    let none = none_of adds.steps (omega (arith, long, same)) in
    let zero_is = ap length none in
    same_standing now before adds.network adds.base (adds.block ∙ ap (λ s. before.block ++ s) none ∙ sym (append_none before.block)) (omega (arith, adds.spare, zero_is))

-- a call that goes on passes, one after another
pub passing_start : (s : Standing) (limits : Limits) (Fact : Type 0) → GoesOn s limits → Fact → Passing s s limits Fact
passing_start s limits Fact goes fact = record { goes = goes; adds = adds_none s limits; fact = λ same. fact }

pub passing_adds : (before now next : Standing) (limits : Limits) (Fact Other : Type 0) → Passing before now limits Fact → Adds now next limits → floor next.network (history next) < limits.threshold → (now ≡ before → Fact → IsUnchanged now next → Other) → Passing before next limits Other
passing_adds before now next limits Fact Other p adds below more =
    let one = no_shorter before now limits p.adds in let two = no_shorter now next limits adds in
    record {
      goes = goes_after now next limits p.goes adds below;
      adds = adds_then before now next limits p.adds adds;
      fact = λ same.
          (let first : IsUnchanged before now = omega (arith, same, one, two) in
          more (unchanged before now limits p.adds first) (p.fact first) (omega (arith, same, one, two)));
    }

pub passing_grown : (before now next : Standing) (limits : Limits) (Fact Other : Type 0) → Passing before now limits Fact → Adds now next limits → floor next.network (history next) < limits.threshold → Grows now next → Passing before next limits Other
passing_grown before now next limits Fact Other p adds below grows =
    passing_adds before now next limits Fact Other p adds below (λ is fact same. absurd (omega (arith, same, grows)))

pub does_after : (before now next : Standing) (limits : Limits) (Fact : Type 0) (result : Result (Unit {0}) Halt) → Passing before now limits Fact → Does now next limits result → Does before next limits result
does_after before now next limits Fact result p does = record { adds = adds_then before now next limits p.adds does.adds; ends = does.ends }

-- and what halts a call halts the one that made it
pub halts_after : (before now next : Standing) (limits : Limits) (Fact : Type 0) (halt : Halt) (result : Result (Unit {0}) Halt) → Passing before now limits Fact → Does now next limits (Err halt) → IsErrAnd result (λ h. h ≡ halt) → Does before next limits result
halts_after before now next limits Fact halt (Ok done) p does is = absurd is
halts_after before now next limits Fact halt (Err h) p does is = subst (λ e. Does before next limits (Err e)) (sym is) (does_after before now next limits Fact (Err halt) p does)

-- one call and then another, which ends both
pub does_then : (before mid now : Standing) (limits : Limits) (result : Result (Unit {0}) Halt) → Does before mid limits (Ok tt) → Does mid now limits result → Does before now limits result
does_then before mid now limits result first second = record { adds = adds_then before mid now limits first.adds second.adds; ends = second.ends }

-- what follows from a fact that holds where a call goes on
pub on_ok : {A B : Type 0} (result : Result (Unit {0}) Halt) → (A → B) → OnOk result A → OnOk result B
on_ok (Ok done) more fact = more fact
on_ok (Err halt) more fact = tt

-- a call that shows a fact, and then another
pub shows_then : {Fact : Type 0} (before mid now : Standing) (limits : Limits) (result : Result (Unit {0}) Halt) → Adds before mid limits → Adds mid now limits → (IsUnchanged before mid → Fact) → OnOk result (IsUnchanged before now → Fact)
shows_then before mid now limits (Ok done) first second fact = λ same. let one = no_shorter before mid limits first in let two = no_shorter mid now limits second in fact (omega (arith, same, one, two))
shows_then before mid now limits (Err halt) first second fact = tt

-- a call that shows a fact, after one that showed another
pub shows_after : {Fact Other Goal : Type 0} (before mid now : Standing) (limits : Limits) (result : Result (Unit {0}) Halt) → Adds before mid limits → Adds mid now limits → (IsUnchanged before mid → Fact) → OnOk result (IsUnchanged mid now → Other) → (mid ≡ before → Fact → Other → Goal) → OnOk result (IsUnchanged before now → Goal)
shows_after before mid now limits result first second fact other goal = on_ok result (λ last same.
    (let one = no_shorter before mid limits first in let two = no_shorter mid now limits second in
    let still : IsUnchanged before mid = omega (arith, same, one, two) in
    goal (unchanged before mid limits first still) (fact still) (last (omega (arith, same, one, two))))) other
