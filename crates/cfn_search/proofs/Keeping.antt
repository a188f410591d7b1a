-- A step of the pool leaves a search as it was.
use Rattle.std.proofs.Common.{◌≡◌, ℕ, ◌≤◌, ◌↔◌, inl, inr, List, refl, sym, ap, ◌∙◌, subst, le_refl, arith, Contains}
use Rattle.cfn_model.specs.declared.step.Event.{Event}
use Rattle.cfn_model.specs.Network.{Network}
use Rattle.cfn_machine.specs.Parts.{IsAside}
use Rattle.cfn_machine.specs.Pool.{Pool, Task}
use Rattle.cfn_machine.specs.Steps.{PoolStep, PoolSteps, IsLegal, Takes, Gives, Returns, Sweeps, PoolTakes, PoolReturns}
use Rattle.cfn_machine.specs.Laws.{IsPool, MayMake}
use Rattle.cfn_machine.proofs.CallerLemmas.{keeps_aside, was_aside}
use Rattle.cfn_low.specs.Outcome.{Start}
use Rattle.cfn_explore.specs.Values.{PieceValue, piece_of}
use Rattle.cfn_machine.specs.Pool.{IsPiece}
use Rattle.cfn_pool.specs.Answers as answers
use Rattle.cfn_pool.specs.Answers.{IsGiven}
use Rattle.cfn_pool.specs.Views.{Held, pool}
use Rattle.cfn_search.specs.Searching.{IsSearch, GoesOn, IsReturned, StaysReady}

-- a record that is kept stays kept
pub stays : (one two three : Held) → StaysReady one two → StaysReady two three → StaysReady one three
stays one two three first second = record { kept = second.kept ∙ first.kept; spare = second.spare }

-- a pool that goes on as it is
pub goes_same : (start : Start) (old new : Pool) → IsSearch start old → new ≡ old → GoesOn start old new
goes_same start old new search same = subst (GoesOn start old) (sym same) (record { search = search; budget_is = refl; shares_are = refl; falls = le_refl old.view.seen })

-- a step keeps the leaves that are set aside, and sets no other aside
kept : (P : Network) (start : Start) (old new : Pool) (word : ℕ) (step : PoolStep) → IsPool P old → IsLegal P old word step → MayMake step → PoolSteps P old word step new → IsSearch start old →
    (path : List Event) → Contains start.aside path ↔ IsAside new.tree path
kept P start old new word step is legal may steps search path =
    let aside = search.aside path in
    (λ there. (let at = aside.0 there in (at.0, at.1, keeps_aside P old new word step is.numbered legal may steps at.0 at.1 path at.2)), λ at. aside.1 (was_aside P old new word step is steps path at))

-- a step that leaves budget, rows and shares, and by which what was seen does not rise
goes_by : (P : Network) (start : Start) (old new : Pool) (word : ℕ) (step : PoolStep) → IsPool P old → IsLegal P old word step → MayMake step → PoolSteps P old word step new → IsSearch start old →
    new.begun ≡ old.begun → new.rows ≡ old.rows → new.budget ≡ old.budget → new.view.shares ≡ old.view.shares → new.view.seen ≤ old.view.seen → GoesOn start old new
goes_by P start old new word step own legal may steps search begun rows budget shares falls = record {
  search = record { begun_is = begun ∙ search.begun_is; others = search.others; begin = rows ∙ search.begin; aside = kept P start old new word step own legal may steps search };
  budget_is = budget;
  shares_are = shares;
  falls = falls;
}

pub goes_taken : (P : Network) (start : Start) (old new : Pool) (worker want : ℕ) (task : Task) → IsPool P old → PoolTakes P old worker want task new → IsSearch start old → GoesOn start old new
goes_taken P start old new worker want task own takes search =
    let left = takes.left in
    goes_by P start old new 0 (Takes worker want task) own tt tt takes search
    (ap (λ (p : Pool). p.begun) left) (ap (λ (p : Pool). p.rows) left) (ap (λ (p : Pool). p.budget) left) (ap (λ (p : Pool). p.view.shares) left) (let e = ap (λ (p : Pool). p.view.seen) left in omega (arith, e))

pub goes_returned : (P : Network) (start : Start) (old new : Pool) (task : Task) → IsPool P old → 1 ≤ task.grant → PoolReturns old task new → IsSearch start old → GoesOn start old new
goes_returned P start old new task own some back search =
    let left = back.left in
    goes_by P start old new 0 (Returns task) own tt some back search
    (ap (λ (p : Pool). p.begun) left) (ap (λ (p : Pool). p.rows) left) (ap (λ (p : Pool). p.budget) left) (ap (λ (p : Pool). p.view.shares) left) (let e = ap (λ (p : Pool). p.view.seen) left in omega (arith, e))

pub goes_given : (P : Network) (start : Start) (old new : Pool) (piece : PieceValue) (note : ℕ) → IsPool P old → IsPiece P (piece_of piece) → note ≤ piece.threshold → IsGiven P old piece note new → IsSearch start old → GoesOn start old new
goes_given P start old new piece note own is seen given search =
    let left = given.gives.left in
    let falls = given.falls in
    let noted = given.noted in
    goes_by P start old new given.word (Gives (piece_of piece)) own (is, omega (arith, noted, seen), falls) tt given.gives search
    (ap (λ (p : Pool). p.begun) left) (ap (λ (p : Pool). p.rows) left) (ap (λ (p : Pool). p.budget) left) (ap (λ (p : Pool). p.view.shares) left) (let e = ap (λ (p : Pool). p.view.seen) left in omega (arith, e, falls))

pub goes_swept : (P : Network) (start : Start) (old new : Pool) → IsPool P old → answers.Sweeps P old new → IsSearch start old → GoesOn start old new
goes_swept P start old new own swept search =
    let falls = swept.falls in
    let is = swept.sweeps in
    goes_by P start old new swept.word Sweeps own falls tt is search
    (ap (λ (p : Pool). p.begun) is) (ap (λ (p : Pool). p.rows) is) (ap (λ (p : Pool). p.budget) is) (ap (λ (p : Pool). p.view.shares) is) (let e = ap (λ (p : Pool). p.view.seen) is in omega (arith, e, falls))

-- a task that is given back
pub goes_back : (P : Network) (start : Start) (old new : Held) (task : Task) → IsPool P (pool old) → 1 ≤ task.grant → IsReturned old task new → IsSearch start (pool old) → GoesOn start (pool old) (pool new)
goes_back P start old new task own some (inl back) search = goes_returned P start (pool old) (pool new) task own some back search
goes_back P start old new task own some (inr same) search = goes_same start (pool old) (pool new) search (ap pool same.0)
