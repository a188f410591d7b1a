-- The path of a leaf runs where the tree is valid, and its costs are small where the tree is tame.
use Rattle.std.proofs.Common.{ℕ, inl, inr, List, [], ◌∷◌, refl, sym, ap, subst, arith}
use Rattle.cfn_model.specs.declared.step.Step.{Step}
use Rattle.cfn_model.specs.declared.step.Event.{Event}
use Rattle.cfn_model.specs.declared.step.Event.TheVariants.{Did, Took, Refused}
use Rattle.cfn_model.specs.Network.{Network}
use Rattle.cfn_model.specs.Steps.{Run, after}
use Rattle.cfn_model.specs.Tree.{Tree, Open, Closed, Split, Valid}
use Rattle.cfn_model.specs.Paths.{HasSmallCosts, TameBlock, Tame, RunsAlong, TameAlong}
use Rattle.cfn_machine.specs.Pool.{Mark, Free, Out, PoolTree, Leaf, Shut, Fork, tree_of, IsLeaf, Task, IsTask, Pool}
use Rattle.cfn_machine.specs.Steps.{task_for, IsOut}
use Rattle.cfn_machine.specs.Laws.{HandsOutTasks, TakesOut}
use Rattle.cfn_machine.proofs.Numbering.{replaced_in}

after_runs : (P : Network) (block : List Step) (history : List Event) (k : ℕ) → RunsAlong P history k → Run P history block k → RunsAlong P (after block history) k
after_runs P [] history k along run = along
after_runs P (step ∷ block) history k along run = after_runs P block (Did step ∷ history) k (run.0, along) run.1

leaf_runs : (P : Network) (k : ℕ) (tree : PoolTree) (history : List Event) (n : ℕ) (mark : Mark) (path : List Event) → IsLeaf tree history n mark path →
    RunsAlong P history k → Valid P history (tree_of tree) k → RunsAlong P path k
leaf_runs P k (Leaf number m block) history n mark path at along valid = subst (λ h. RunsAlong P h k) (sym at.2) (after_runs P block history k along valid)
leaf_runs P k (Shut block) history n mark path at along valid = absurd at
leaf_runs P k (Fork block d first second) history n mark path (inl at) along valid =
    leaf_runs P k first (Took d ∷ after block history) n mark path at (valid.1, after_runs P block history k along valid.0) valid.2
leaf_runs P k (Fork block d first second) history n mark path (inr at) along valid =
    leaf_runs P k second (Refused d ∷ after block history) n mark path at (valid.1, after_runs P block history k along valid.0) valid.3

block_small : (P : Network) (block : List Step) (history : List Event) → TameBlock P history block → HasSmallCosts P history
block_small P [] history tame = tame
block_small P (step ∷ block) history tame = tame.0

tree_small : (P : Network) (tree : Tree) (history : List Event) → Tame P history tree → HasSmallCosts P history
tree_small P (Open block) history tame = block_small P block history tame
tree_small P (Closed block) history tame = block_small P block history tame
tree_small P (Split block d first second) history tame = block_small P block history tame.0

after_tame : (P : Network) (block : List Step) (history : List Event) → TameAlong P history → TameBlock P history block → TameAlong P (after block history)
after_tame P [] history along tame = along
after_tame P (step ∷ block) history along tame = after_tame P block (Did step ∷ history) (block_small P block (Did step ∷ history) tame.1, along) tame.1

leaf_tame : (P : Network) (tree : PoolTree) (history : List Event) (n : ℕ) (mark : Mark) (path : List Event) → IsLeaf tree history n mark path →
    TameAlong P history → Tame P history (tree_of tree) → TameAlong P path
leaf_tame P (Leaf number m block) history n mark path at along tame = subst (TameAlong P) (sym at.2) (after_tame P block history along tame)
leaf_tame P (Shut block) history n mark path at along tame = absurd at
leaf_tame P (Fork block d first second) history n mark path (inl at) along tame =
    leaf_tame P first (Took d ∷ after block history) n mark path at (tree_small P (tree_of first) (Took d ∷ after block history) tame.1, after_tame P block history along tame.0) tame.1
leaf_tame P (Fork block d first second) history n mark path (inr at) along tame =
    leaf_tame P second (Refused d ∷ after block history) n mark path at (tree_small P (tree_of second) (Refused d ∷ after block history) tame.2, after_tame P block history along tame.0) tame.2

pub hands_out : HandsOutTasks
hands_out P pool new worker want task sound takes =
    let here : IsTask P (task_for P pool worker want task.leaf task.path) = record {
      runs = (pool.view.seen, leaf_runs P pool.view.seen pool.tree [] task.leaf Free task.path takes.first.leaf tt sound.valid);
      tame = leaf_tame P pool.tree [] task.leaf Free task.path takes.first.leaf (tree_small P (tree_of pool.tree) [] sound.tame) sound.tame;
      floor = refl;
      some = omega (arith, sound.within, takes.room, takes.wants);
    } in
    (subst (IsTask P) (sym takes.handed) here, ap (λ (t : Task). t.worker) takes.handed, (let g = ap (λ (t : Task). t.grant) takes.handed in omega (arith, g)))

pub takes_out : TakesOut
takes_out P pool new worker want task takes =
    subst (λ (p : Pool). IsOut p task) (sym takes.left)
    (replaced_in task.leaf Free task.path (Leaf task.leaf (Out worker task.grant) []) task.leaf (Out task.worker task.grant) task.path pool.tree [] takes.tree takes.marked
    (refl, ap (λ k. Out k task.grant) (sym (ap (λ (t : Task). t.worker) takes.handed)), refl))
