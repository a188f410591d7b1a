-- Which leaves are out after a step.
use Rattle.std.proofs.Common.{◌≡◌, ℕ, inl, inr, List, [], refl, sym, ap, ◌∙◌, subst}
use Rattle.cfn_model.specs.declared.step.Event.{Event}
use Rattle.cfn_model.specs.Network.{Network}
use Rattle.cfn_model.specs.Sums.{floor}
use Rattle.cfn_machine.specs.Pool.{Mark, Free, Out, PoolTree, Leaf, IsLeaf, Replaced, numbered, Task, Pool}
use Rattle.cfn_machine.specs.Steps.{PoolTakes, IsOut, Takes, Gives, Returns, Recalls, Sweeps, Meets}
use Rattle.cfn_machine.specs.Steps.{Notes}
use Rattle.cfn_machine.specs.Laws.{StaysOut, WasOut}
use Rattle.cfn_machine.proofs.Numbering.{by_noted, replaced_stays, replaced_back, numbered_free, recalled_free, swept_stays, swept_back, free_not_out, same_worker, same_grant}

-- another leaf stays out
other_stays : (pool : Pool) (n : ℕ) (mark : Mark) (path : List Event) (place tree : PoolTree) (task : Task) → Replaced pool.tree [] n mark path place tree → IsOut pool task →
    ((task.leaf ≡ n) × (Out task.worker task.grant ≡ mark) → ⊥) → IsLeaf tree [] task.leaf (Out task.worker task.grant) task.path
other_stays pool n mark path place tree task at out other =
    elim (replaced_stays n mark path place task.leaf (Out task.worker task.grant) task.path pool.tree [] tree at out) [
      | inl it ↦ absurd (other it)
      | inr stays ↦ stays
    ]

pub stays_out : StaysOut
stays_out P pool new word (Takes worker want taken) task step out free =
    subst (λ (p : Pool). IsOut p task) (sym step.left)
    (other_stays pool taken.leaf Free taken.path (Leaf taken.leaf (Out worker taken.grant) []) step.tree task step.marked out (λ it. free_not_out (sym it.1)))
stays_out P pool new word (Gives piece) task step out free =
    subst (λ (p : Pool). IsOut p task) (sym step.left)
    (other_stays pool piece.task.leaf (Out piece.task.worker piece.task.grant) piece.task.path (numbered pool.next piece.tree) step.tree task step.placed out (λ it. free (sym it.0)))
stays_out P pool new word (Returns back) task step out free =
    subst (λ (p : Pool). IsOut p task) (sym step.left)
    (other_stays pool back.leaf (Out back.worker back.grant) step.path (Leaf back.leaf Free []) step.tree task step.freed out (λ it. free (sym it.0)))
stays_out P pool new word Recalls task step out free = absurd (free tt)
stays_out P pool new word Sweeps task step out free =
    subst (λ (p : Pool). IsOut p task) (sym step) (swept_stays P word pool.tree task.leaf [] task.worker task.grant task.path out)
stays_out P pool new word (Meets view) task step out free = subst (λ (p : Pool). IsOut p task) (sym step) out
stays_out P pool new word Notes task step out free = subst (λ (p : Pool). IsOut p task) (sym step) (by_noted P pool (λ p. IsOut p task) out out)

-- the task of a leaf that was just handed out
new_task : (P : Network) (pool new : Pool) (worker want : ℕ) (taken task : Task) → PoolTakes P pool worker want taken new → task.floor ≡ floor P task.path →
    IsLeaf (Leaf taken.leaf (Out worker taken.grant) []) taken.path task.leaf (Out task.worker task.grant) task.path → task ≡ taken
new_task P pool new worker want taken task takes floors here =
    let leaves : task.leaf ≡ taken.leaf = sym here.0 in
    let workers : task.worker ≡ taken.worker = sym (same_worker here.1) ∙ sym (ap (λ (t : Task). t.worker) takes.handed) in
    let grants : task.grant ≡ taken.grant = sym (same_grant here.1) in
    let paths : task.path ≡ taken.path = here.2 in
    let of_path : task.floor ≡ taken.floor = floors ∙ ap (floor P) here.2 ∙ sym (ap (λ (t : Task). t.floor) takes.handed) in
    let one : task ≡ record { leaf = task.leaf; worker = task.worker; grant = task.grant; floor = task.floor; path = task.path } = refl in
    let two : taken ≡ record { leaf = taken.leaf; worker = taken.worker; grant = taken.grant; floor = taken.floor; path = taken.path } = refl in
    cc

pub was_out : WasOut
was_out P pool new word (Takes worker want taken) task own step out floors =
    elim (replaced_back taken.leaf Free taken.path (Leaf taken.leaf (Out worker taken.grant) []) task.leaf (Out task.worker task.grant) task.path pool.tree [] step.tree step.marked (own.different taken.leaf)
    (subst (λ (p : Pool). IsOut p task) step.left out)) [
      | inl here ↦ inr (new_task P pool new worker want taken task step floors here)
      | inr old ↦ inl (old.0, λ ends. ends)
    ]
was_out P pool new word (Gives piece) task own step out floors =
    elim (replaced_back piece.task.leaf (Out piece.task.worker piece.task.grant) piece.task.path (numbered pool.next piece.tree) task.leaf (Out task.worker task.grant) task.path pool.tree [] step.tree step.placed (own.different piece.task.leaf)
    (subst (λ (p : Pool). IsOut p task) step.left out)) [
      | inl here ↦ absurd (numbered_free piece.tree pool.next task.leaf piece.task.path task.worker task.grant task.path here)
      | inr old ↦ inl (old.0, λ ends. old.1 (sym ends))
    ]
was_out P pool new word (Returns back) task own step out floors =
    elim (replaced_back back.leaf (Out back.worker back.grant) step.path (Leaf back.leaf Free []) task.leaf (Out task.worker task.grant) task.path pool.tree [] step.tree step.freed (own.different back.leaf)
    (subst (λ (p : Pool). IsOut p task) step.left out)) [
      | inl here ↦ free_not_out here.1
      | inr old ↦ inl (old.0, λ ends. old.1 (sym ends))
    ]
was_out P pool new word Recalls task own step out floors =
    absurd (recalled_free pool.tree task.leaf [] task.worker task.grant task.path (subst (λ (p : Pool). IsOut p task) step out))
was_out P pool new word Sweeps task own step out floors =
    inl (swept_back P word pool.tree task.leaf [] task.worker task.grant task.path (subst (λ (p : Pool). IsOut p task) step out), λ ends. ends)
was_out P pool new word (Meets view) task own step out floors = inl (subst (λ (p : Pool). IsOut p task) step out, λ ends. ends)
was_out P pool new word Notes task own step out floors =
    inl (by_noted P pool (λ p. IsOut p task → IsOut pool task) (λ there. there) (λ there. there) (subst (λ (p : Pool). IsOut p task) step out), λ ends. ends)
