-- A derivation is taken back, and what an attempt to lift ends with.
use Rattle.std.proofs.Common.{◌≡◌, ℕ, inl, inr, take, length-append, ◌≤◌, List, length, sym, ap, ◌∙◌, subst, arith}
use Rattle.std.proofs.lemmas.List.{length-map}
use Rattle.std.proofs.Math.Seq.{take-append_seam}
use Rattle.std.specs.Prelude.{Result, Ok, Err, IfOk}
use Rattle.cfn_model.specs.declared.step.Step.TheVariants.{CutValue}
use Rattle.cfn_model.specs.Network.{Network}
use Rattle.cfn_consistency.specs.declared.deletion.Deletion.{Deletion}
use Rattle.cfn_consistency.specs.Virtual.{Bans, without, IsDerivation, IsClosedFamily}
use Rattle.cfn_store.specs.Standing.{Standing, history}
use Rattle.cfn_gain.specs.declared.limits.Limits.{Limits}
use Rattle.cfn_derivation.specs.Derived.{IsDerived, EmptiesLast, cuts_of}
use Rattle.cfn_vac.specs.declared.lifter.Lifting.{Lifting}
use Rattle.cfn_vac.specs.declared.lifter.Lifting.TheVariants.{Lifted, Closed, Blocked, Spent}
use Rattle.cfn_vac.specs.Running.{with_steps, HasGrown}
use Rattle.cfn_vac.specs.Lifts.{LiftsBy}
use Rattle.cfn_vac.specs.Roots.{EndsWith, IsReady}
use Rattle.cfn_vac.proofs.Lifts.{floor_after}
use Rattle.cfn_gain.specs.Calls.{Adds}
use Rattle.cfn_gain.proofs.CallerLemmas.{history_after}
use Rattle.cfn_derivation.specs.Watched.{Watch, IsWatched}
use Rattle.cfn_model.specs.declared.step.Event.{Event}
use Rattle.cfn_model.specs.Sums.{floor, is_live}
use Rattle.cfn_model.specs.Steps.{after}

same_standing : (s t : Standing) → s.network ≡ t.network → s.base ≡ t.base → s.block ≡ t.block → s.spare ≡ t.spare → s ≡ t
same_standing s t network base block spare =
    ap (λ n. record { network = n; base = s.base; block = s.block; spare = s.spare }) network
    ∙ ap (λ b. record { network = t.network; base = b; block = s.block; spare = s.spare }) base
    ∙ ap (λ b. record { network = t.network; base = t.base; block = b; spare = s.spare }) block
    ∙ ap (λ n. record { network = t.network; base = t.base; block = t.block; spare = n }) spare

pub derived_grown : (before after : Standing) (q : ℕ) (bans : Bans) (deletions : List Deletion) → IsDerived before after q bans deletions → HasGrown before after
derived_grown before after q bans deletions d =
    let n = length-map deletions (λ (e : Deletion). CutValue e.variable e.value) in let spare = d.spare in
    record {
      steps = cuts_of deletions;
      now_is = same_standing after (with_steps before (cuts_of deletions)) d.network d.base d.block (omega (arith, n, spare));
      room = omega (arith, n, spare);
    }

pub closed_at : (P : Network) (before after : Standing) (q : ℕ) (bans : Bans) (deletions : List Deletion) → IsDerived before after q bans deletions → before.network ≡ P → IsClosedFamily after.network (history after) q bans
    → IsClosedFamily P (without deletions (history before)) q bans
closed_at P before after q bans deletions d same closed =
    subst (λ h. IsClosedFamily P h q bans) d.along (subst (λ N. IsClosedFamily N (history after) q bans) (d.network ∙ same) closed)

pub emptied_at : (P : Network) (before after : Standing) (q : ℕ) (bans : Bans) (deletions : List Deletion) (x : ℕ) → IsDerived before after q bans deletions → before.network ≡ P → EmptiesLast after.network (history after) x
    → EmptiesLast P (without deletions (history before)) x
emptied_at P before after q bans deletions x d same last =
    subst (λ h. EmptiesLast P h x) d.along (subst (λ N. EmptiesLast N (history after) x) (d.network ∙ same) last)

ends_with : (P : Network) (q : ℕ) (bans : Bans) (limits : Limits) (before after : Standing) (deletions : List Deletion) (x : ℕ) (lifting : Lifting) → IsDerivation P (history before) q bans deletions → EmptiesLast P (without deletions (history before)) x
    → LiftsBy P limits before after q deletions x lifting → EndsWith P q bans limits before after deletions lifting
ends_with P q bans limits before after deletions x Lifted is empty by = record { variable = x; plan = by.0; is = record { derivation = is; emptied = empty; plan_is = by.1 }; tells = by.2 }
ends_with P q bans limits before after deletions x Closed is empty by = absurd by.2
ends_with P q bans limits before after deletions x (Blocked number step demand capacity) is empty by = record { variable = x; plan = by.0; is = record { derivation = is; emptied = empty; plan_is = by.1 }; tells = by.2 }
ends_with P q bans limits before after deletions x Spent is empty by = record { variable = x; plan = by.0; is = record { derivation = is; emptied = empty; plan_is = by.1 }; tells = by.2 }

pub all_end : {E : Type 0} (P : Network) (q : ℕ) (bans : Bans) (limits : Limits) (before after : Standing) (deletions : List Deletion) (x : ℕ) (result : Result Lifting E) → IsDerivation P (history before) q bans deletions → EmptiesLast P (without deletions (history before)) x
    → IfOk result (LiftsBy P limits before after q deletions x) → IfOk result (EndsWith P q bans limits before after deletions)
all_end P q bans limits before after deletions x (Ok lifting) is empty by = ends_with P q bans limits before after deletions x lifting is empty by
all_end P q bans limits before after deletions x (Err e) is empty by = tt

-- the same, said of what the parts know
pub ends_of : {E : Type 0} (P N M : Network) (s t now : Standing) (q : ℕ) (bans inner : Bans) (limits : Limits) (deletions listed : List Deletion) (x : ℕ) (result : Result Lifting E) → N ≡ P → M ≡ P → inner ≡ bans → t ≡ s → listed ≡ deletions
    → IsDerivation N (history s) q inner deletions → EmptiesLast N (without deletions (history s)) x → IfOk result (LiftsBy M limits t now q listed x) → IfOk result (EndsWith P q bans limits s now deletions)
ends_of P N M s t now q bans inner limits deletions listed x result n m b same list is empty by =
    all_end P q bans limits s now deletions x result
    (subst (λ (Q : Network). IsDerivation Q (history s) q bans deletions) n (subst (λ c. IsDerivation N (history s) q c deletions) b is))
    (subst (λ (Q : Network). EmptiesLast Q (without deletions (history s)) x) n empty)
    (subst (λ (Q : Network). IfOk result (LiftsBy Q limits s now q deletions x)) m
    (subst (λ u. IfOk result (LiftsBy M limits u now q deletions x)) same (subst (λ l. IfOk result (LiftsBy M limits t now q l x)) list by)))

-- a store that steps were added to, which take no value, is ready
pub ready_then : (P : Network) (s now : Standing) (limits : Limits) → IsReady P s limits → Adds s now limits → ((y a : ℕ) → is_live (history now) y a ≡ is_live (history s) y a) → IsReady P now limits
ready_then P s now limits r adds live =
    let long = ap length adds.block ∙ length-append s.block adds.steps in let room = r.room in let spare = adds.spare in
    record {
      network = adds.network ∙ r.network;
      alive = λ x h. (let some = r.alive x h in (some.0, some.1, live x some.0 ∙ some.2));
      within = elim adds.within [
        | inl h ↦ h
        | inr e ↦ (let within = r.within in omega (arith, e, within))
      ];
      room = omega (arith, long, room, spare);
    }

pub ready_same : (P : Network) (s now : Standing) (limits : Limits) → IsReady P s limits → now ≡ s → IsReady P now limits
ready_same P s now limits r is = subst (λ t. IsReady P t limits) (sym is) r

pub watched_same : (P : Network) (history : List Event) (q : ℕ) (old new : Watch) (deletions : List Deletion) → IsWatched P history old q → new ≡ record old { deletions = deletions } → IsWatched P history new q
watched_same P history q old new deletions is same = subst (λ w. IsWatched P history w q) (sym same) (record { functions = is.functions; variables = is.variables })

-- the events before the steps that were added
pub before_adds : (s now : Standing) (limits : Limits) (start : ℕ) → Adds s now limits → start ≡ length s.block → after (take start now.block) now.base ≡ history s
before_adds s now limits start adds is =
    ap (λ n. after (take n now.block) now.base) is ∙ ap (λ b. after (take (length s.block) b) now.base) adds.block
    ∙ ap (λ b. after b now.base) (take-append_seam s.block adds.steps) ∙ ap (after s.block) adds.base

-- steps never lower the floor
pub floor_kept : (P : Network) (s now : Standing) (limits : Limits) → Adds s now limits → floor P (history s) ≤ floor P (history now)
floor_kept P s now limits adds = let e = ap (floor P) (history_after s now limits adds) ∙ floor_after P adds.steps (history s) in omega (arith, e)
