-- The chosen steps of a block are made one after another.
use Rattle.std.proofs.Common.{◌≡◌, ℕ, ◌<◌, ◌≤◌, List, [], ◌∷◌, ◌++◌, length, length-append, append_assoc, refl, sym, ap, ◌∙◌, subst, arith}
use Rattle.cfn_model.specs.declared.step.Step.{Step}
use Rattle.cfn_model.specs.Steps.{InRange, Run, Allowed, after}
use Rattle.cfn_gain.proofs.CallerLemmas.{run_push}
use Rattle.cfn_store.specs.Standing.{Standing, history, with_step}
use Rattle.cfn_trim.specs.Making.{CanMake, AreInRange}
use Rattle.cfn_trim.specs.Trimming.{AreSome, IsBeside}
use Rattle.cfn_trim.proofs.Parts.{some_longer, some_more}
use Rattle.cfn_trim.proofs.Making.{can_allowed}

pub beside_same : (s : Standing) → IsBeside s s
beside_same s = record { network = refl; base = refl; room = refl }

-- where making the steps of a block is
pub record IsRunning (before now : Standing) (whole left : List Step) (k : ℕ) : Type 0 where
  pub done : List Step
  pub whole_is : whole ≡ done ++ left
  pub beside : IsBeside before now
  pub runs : Run before.network before.base now.block k
  pub some : AreSome now.block done
  pub range : AreInRange before.network left
  pub room : length left ≤ now.spare

pub running_start : (s : Standing) (whole : List Step) (k : ℕ) → s.block ≡ [] → AreInRange s.network whole → length whole ≤ s.spare → IsRunning s s whole whole k
running_start s whole k none range room = record {
  done = [];
  whole_is = refl;
  beside = beside_same s;
  runs = subst (λ l. Run s.network s.base l k) (sym none) tt;
  some = none;
  range = range;
  room = room;
}

-- a step is left out
pub running_past : (before now : Standing) (whole left rest : List Step) (step : Step) (k : ℕ) → IsRunning before now whole left k → left ≡ step ∷ rest → IsRunning before now whole rest k
running_past before now whole left rest step k r is = record {
  done = r.done ++ step ∷ [];
  whole_is = r.whole_is ∙ ap (λ l. r.done ++ l) is ∙ sym (append_assoc r.done (step ∷ []) rest);
  beside = r.beside;
  runs = r.runs;
  some = some_longer now.block r.done (step ∷ []) r.some;
  range = (subst (AreInRange before.network) is r.range).1;
  room = (let room = r.room in let long = ap length is in omega (arith, room, long));
}

pub next_range : (before now : Standing) (whole left rest : List Step) (step : Step) (k : ℕ) → IsRunning before now whole left k → left ≡ step ∷ rest → InRange now.network step
next_range before now whole left rest step k r is = subst (λ P. InRange P step) (sym r.beside.network) (subst (AreInRange before.network) is r.range).0

pub next_room : (before now : Standing) (whole left rest : List Step) (step : Step) (k : ℕ) → IsRunning before now whole left k → left ≡ step ∷ rest → 0 < now.spare
next_room before now whole left rest step k r is = (let room = r.room in let long = ap length is in omega (arith, room, long))

-- a step is made
pub running_made : (before now next : Standing) (whole left rest : List Step) (step : Step) (k : ℕ) → IsRunning before now whole left k → left ≡ step ∷ rest → CanMake now k step → next ≡ with_step now step → IsRunning before next whole rest k
running_made before now next whole left rest step k r is can made =
    let some = next_room before now whole left rest step k r is in
    let at = r.beside.base in
    let allowed : Allowed before.network (after now.block before.base) k step =
    subst (λ base. Allowed before.network (after now.block base) k step) at (subst (λ P. Allowed P (history now) k step) r.beside.network (can_allowed now k step can)) in
    subst (λ t. IsRunning before t whole rest k) (sym made) (record {
      done = r.done ++ step ∷ [];
      whole_is = r.whole_is ∙ ap (λ l. r.done ++ l) is ∙ sym (append_assoc r.done (step ∷ []) rest);
      beside = record {
        network = r.beside.network;
        base = r.beside.base;
        room = (let room = r.beside.room in let long = length-append now.block (step ∷ []) in omega (arith, room, long, some));
      };
      runs = run_push before.network before.base now.block step k r.runs allowed;
      some = some_more now.block r.done step r.some;
      range = (subst (AreInRange before.network) is r.range).1;
      room = (let room = r.room in let long = ap length is in omega (arith, room, long));
    })

-- wherever it ends
pub running_some : (before now : Standing) (whole left : List Step) (k : ℕ) → IsRunning before now whole left k → AreSome now.block whole
running_some before now whole left k r = subst (AreSome now.block) (sym r.whole_is) (some_longer now.block r.done left r.some)
