-- Leaves that are taken for a lane, and a board's answers.
use Rattle.std.proofs.Common.{◌≡◌, ℕ, ◌+◌, ◌<◌, ◌≤◌, ◌⊎◌, inl, inr, List, [], ◌∷◌, ◌++◌, length, refl, sym, ap, ap₂, ◌∙◌, subst, arith, true, false, true≢false, Bool, append_assoc}
use Rattle.std.proofs.lemmas.List.{append-nil, length-append}
use Rattle.cfn_model.specs.declared.step.Event.{Event}
use Rattle.cfn_model.specs.declared.step.Event.TheVariants.{Took, Refused}
use Rattle.cfn_model.specs.Network.{Network}
use Rattle.cfn_model.specs.Steps.{after}
use Rattle.cfn_machine.specs.Pool.{Pool, PoolTree, Task, Free, Out, Leaf, Shut, Fork, Replaced, leaves_with, AreNumbered}
use Rattle.cfn_machine.specs.Steps.{PoolTakes}
use Rattle.cfn_machine.proofs.CallerLemmas.{leaf_counts, replaced_leaf, takes_out}
use Rattle.cfn_pool.specs.Views.{Held, pool}
use Rattle.cfn_rota.specs.Values.{EndsValue}
use Rattle.cfn_explore.specs.Values.{TaskValue}
use Rattle.cfn_search.specs.Searching.{IsReturned}
use Rattle.cfn_search.specs.Boards.{TakesAll, IsLaid, Lays, laid}

-- a free leaf that is out and then free again is as it was
freed : (n worker grant : ℕ) (path other : List Event) (tree : PoolTree) (history : List Event) (out new : PoolTree) → leaves_with n tree ≤ 1 →
    Replaced tree history n Free path (Leaf n (Out worker grant) []) out → Replaced out history n (Out worker grant) other (Leaf n Free []) new → new ≡ tree
freed n worker grant path other (Leaf number mark block) history out new few took back =
    let again = subst (λ t. Replaced t history n (Out worker grant) other (Leaf n Free []) new) took.3 back in
    again.3 ∙ ap (λ b. Leaf n Free b) (append-nil (block ++ []) ∙ append-nil block) ∙ ap₂ (λ m k. Leaf m k block) (sym took.0) (sym took.1)
freed n worker grant path other (Shut block) history out new few took back = absurd took
freed n worker grant path other (Fork block d first second) history out new few (inl took) back =
    let one = Took d ∷ after block history in
    let two = Refused d ∷ after block history in
    let counted = leaf_counts first one n Free path (replaced_leaf n Free path (Leaf n (Out worker grant) []) first one took.0 took.1) in
    let again = subst (λ t. Replaced t history n (Out worker grant) other (Leaf n Free []) new) took.2 back in
    elim again [
      | inl here ↦ here.2 ∙ ap (λ t. Fork block d t second) (freed n worker grant path other first one took.0 here.0 (omega (arith, few)) took.1 here.1)
      | inr there ↦ absurd (let more = leaf_counts second two n (Out worker grant) other (replaced_leaf n (Out worker grant) other (Leaf n Free []) second two there.0 there.1) in omega (arith, counted, more, few))
    ]
freed n worker grant path other (Fork block d first second) history out new few (inr took) back =
    let one = Took d ∷ after block history in
    let two = Refused d ∷ after block history in
    let counted = leaf_counts second two n Free path (replaced_leaf n Free path (Leaf n (Out worker grant) []) second two took.0 took.1) in
    let again = subst (λ t. Replaced t history n (Out worker grant) other (Leaf n Free []) new) took.2 back in
    elim again [
      | inl there ↦ absurd (let more = leaf_counts first one n (Out worker grant) other (replaced_leaf n (Out worker grant) other (Leaf n Free []) first one there.0 there.1) in omega (arith, counted, more, few))
      | inr here ↦ here.2 ∙ ap (λ t. Fork block d first t) (freed n worker grant path other second two took.0 here.0 (omega (arith, few)) took.1 here.1)
    ]

-- where a task that was just taken is given back, the pool is as before
pub taken_back : (P : Network) (worker want : ℕ) (task : Task) (old : Pool) (taken new : Held) → AreNumbered old → PoolTakes P old worker want task (pool taken) → IsReturned taken task new → pool new ≡ old
taken_back P worker want task old taken new own takes (inl back) =
    let tree = ap (λ (p : Pool). p.tree) takes.left in
    let name : worker ≡ task.worker = sym (ap (λ (t : Task). t.worker) takes.handed) in
    let marked = subst (λ w. Replaced old.tree [] task.leaf Free task.path (Leaf task.leaf (Out w task.grant) []) takes.tree) name takes.marked in
    let again = subst (λ t. Replaced t [] task.leaf (Out task.worker task.grant) back.path (Leaf task.leaf Free []) back.tree) tree back.freed in
    let same = freed task.leaf task.worker task.grant task.path back.path old.tree [] takes.tree back.tree (own.different task.leaf) marked again in
    back.left ∙ ap (λ (p : Pool). record p { tree = back.tree }) takes.left ∙ ap (λ t. record old { tree = t }) same
taken_back P worker want task old taken new own takes (inr same) = absurd (same.1 task.path (takes_out P old (pool taken) worker want task takes))

takes_more : (P : Network) (worker want : ℕ) (old mid new : Pool) (tasks : List TaskValue) (task : TaskValue) → TakesAll P worker want old tasks mid → task.network ≡ P → PoolTakes P mid worker want task.task new →
    TakesAll P worker want old (tasks ++ task ∷ []) new
takes_more P worker want old mid new [] task all own takes = (own, new, subst (λ (p : Pool). PoolTakes P p worker want task.task new) all takes, refl)
takes_more P worker want old mid new (first ∷ tasks) task all own takes = (all.0, all.1, all.2, takes_more P worker want all.1 mid new tasks task all.3 own takes)

-- one more
pub lays_more : (P : Network) (worker want most next : ℕ) (old mid new : Pool) (lanes between after : EndsValue TaskValue) (more : Bool) → most + 1 ≤ next →
    Lays P worker want most old lanes more mid between → IsLaid P worker want mid between new after → Lays P worker want next old lanes true new after
lays_more P worker want most next old mid new lanes between after more one lays is = record {
  tasks = lays.tasks ++ is.task ∷ [];
  few = let few = lays.few in let count = length-append lays.tasks (is.task ∷ []) in omega (arith, few, count, one);
  taken = takes_more P worker want old mid new lays.tasks is.task lays.taken is.own is.takes;
  lanes_are = is.lanes_are ∙ ap (λ ends. laid ends (is.task ∷ [])) lays.lanes_are
      ∙ ap (λ (ps : List TaskValue). record lanes { lane = record lanes.lane { pushed = ps } }) (append_assoc lanes.lane.pushed lays.tasks (is.task ∷ []));
  some = λ yes. let count = length-append lays.tasks (is.task ∷ []) in omega (arith, count);
  none = λ no. absurd (true≢false no);
}
