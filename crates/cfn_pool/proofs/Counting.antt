-- How many leaves of the pool's tree are out, and what is true of their numbers and grants.
use Rattle.std.proofs.Common.{◌≡◌, ℕ, ◌+◌, ◌<◌, ◌≤◌, Bool, true, false, List, [], ◌∷◌, Option, Some, None, refl, sym, ap, ap₂, ◌∙◌, subst, arith, inl, inr, nat_le, if◌then◌else◌}
use Rattle.std.proofs.lemmas.Bool.{cases_lt}
use Rattle.cfn_model.specs.declared.step.Step.{Step}
use Rattle.cfn_model.specs.declared.step.Event.{Event}
use Rattle.cfn_model.specs.declared.step.Event.TheVariants.{Took, Refused}
use Rattle.cfn_model.specs.Network.{Network}
use Rattle.cfn_model.specs.Sums.{floor}
use Rattle.cfn_model.specs.Steps.{after}
use Rattle.cfn_model.specs.Tree.{Tree, Open, Closed, Split, open_leaves}
use Rattle.cfn_machine.specs.Pool.{Mark, Free, Out, PoolTree, Leaf, Shut, Fork, Pool, AreNumbered, IsLeaf, Replaced, behind, granted, numbered, recalled, swept}
use Rattle.cfn_machine.specs.Steps.{PoolStep, PoolSteps, Takes, Gives, Returns, Recalls, Sweeps, Meets, Notes}
use Rattle.cfn_machine.proofs.CallerLemmas.{by_noted, leaf_counts}
use Rattle.cfn_record.specs.Entries.{Entry, entry_of}
use Rattle.cfn_pool.specs.Recorded.{out_of, outs, out_after}

behind_outs : (block : List Step) (tree : PoolTree) → outs (behind block tree) ≡ outs tree
behind_outs block (Leaf n m more) = refl
behind_outs block (Shut more) = refl
behind_outs block (Fork more d first second) = refl

replaced_outs : (n : ℕ) (mark : Mark) (path : List Event) (place tree : PoolTree) (history : List Event) (new : PoolTree) → Replaced tree history n mark path place new → outs new + out_of mark ≡ outs tree + outs place
replaced_outs n mark path place (Leaf number m block) history new at = rw at.3 (rw at.1 (omega (arith, behind_outs block place)))
replaced_outs n mark path place (Shut block) history new at = absurd at
replaced_outs n mark path place (Fork block d first second) history new (inl at) =
    let below = replaced_outs n mark path place first (Took d ∷ after block history) at.0 at.1 in rw at.2 (omega (arith, below))
replaced_outs n mark path place (Fork block d first second) history new (inr at) =
    let below = replaced_outs n mark path place second (Refused d ∷ after block history) at.0 at.1 in rw at.2 (omega (arith, below))

numbered_outs : (tree : Tree) (next : ℕ) → outs (numbered next tree) ≡ 0
numbered_outs (Open block) next = refl
numbered_outs (Closed block) next = refl
numbered_outs (Split block d first second) next = omega (arith, numbered_outs first next, numbered_outs second (next + open_leaves first))

recalled_outs : (tree : PoolTree) → outs (recalled tree) ≡ 0
recalled_outs (Leaf number mark block) = refl
recalled_outs (Shut block) = refl
recalled_outs (Fork block d first second) = omega (arith, recalled_outs first, recalled_outs second)

closed_outs : (b : Bool) (n : ℕ) (block : List Step) → outs (if b then Shut block else Leaf n Free block) ≡ 0
closed_outs true n block = refl
closed_outs false n block = refl

swept_outs : (P : Network) (k : ℕ) (tree : PoolTree) (history : List Event) → outs (swept P k tree history) ≡ outs tree
swept_outs P k (Leaf n Free block) history = closed_outs (nat_le k (floor P (after block history))) n block
swept_outs P k (Leaf n (Out w g) block) history = refl
swept_outs P k (Shut block) history = refl
swept_outs P k (Fork block d first second) history =
    ap₂ (λ f s. f + s) (swept_outs P k first (Took d ∷ after block history)) (swept_outs P k second (Refused d ∷ after block history))

-- how many leaves are out behind a step
abbrev pub counted_after : Option Entry → ℕ → ℕ
counted_after None out = out
counted_after (Some entry) out = out_after entry out

pub counts_by_step : (P : Network) (old new : Pool) (word : ℕ) (step : PoolStep) → PoolSteps P old word step new → outs new.tree ≡ counted_after (entry_of word step) (outs old.tree)
counts_by_step P old new word (Takes worker want task) step =
    ap (λ (p : Pool). outs p.tree) step.left ∙ (let e = replaced_outs task.leaf Free task.path (Leaf task.leaf (Out worker task.grant) []) old.tree [] step.tree step.marked in omega (arith, e))
counts_by_step P old new word (Gives piece) step =
    ap (λ (p : Pool). outs p.tree) step.left ∙ (let e = replaced_outs piece.task.leaf (Out piece.task.worker piece.task.grant) piece.task.path (numbered old.next piece.tree) old.tree [] step.tree step.placed in omega (arith, e, numbered_outs piece.tree old.next))
counts_by_step P old new word (Returns task) step =
    ap (λ (p : Pool). outs p.tree) step.left ∙ (let e = replaced_outs task.leaf (Out task.worker task.grant) step.path (Leaf task.leaf Free []) old.tree [] step.tree step.freed in omega (arith, e))
counts_by_step P old new word Recalls step = ap (λ (p : Pool). outs p.tree) step ∙ recalled_outs old.tree
counts_by_step P old new word Sweeps step = ap (λ (p : Pool). outs p.tree) step ∙ swept_outs P word old.tree []
counts_by_step P old new word (Meets view) step = ap (λ (p : Pool). outs p.tree) step
counts_by_step P old new word Notes step = subst (λ (p : Pool). outs p.tree ≡ outs old.tree) (sym step) (by_noted P old (λ p. outs p.tree ≡ outs old.tree) refl refl)

-- where a leaf is out, one is, and its grant is among those of all
pub out_counts : (tree : PoolTree) (history : List Event) (n worker grant : ℕ) (path : List Event) → IsLeaf tree history n (Out worker grant) path → (1 ≤ outs tree) × (grant ≤ granted tree)
out_counts (Leaf number mark block) history n worker grant path at = subst (λ (m : Mark). (1 ≤ out_of m) × (grant ≤ granted (Leaf number m block))) (sym at.1) (omega arith, omega arith)
out_counts (Shut block) history n worker grant path at = absurd at
out_counts (Fork block d first second) history n worker grant path (inl at) =
    let below = out_counts first (Took d ∷ after block history) n worker grant path at in ((let one = below.0 in omega (arith, one)), (let few = below.1 in omega (arith, few)))
out_counts (Fork block d first second) history n worker grant path (inr at) =
    let below = out_counts second (Refused d ∷ after block history) n worker grant path at in ((let one = below.0 in omega (arith, one)), (let few = below.1 in omega (arith, few)))

-- the number of a leaf is below the next one
pub number_below : (pool : Pool) (n : ℕ) (mark : Mark) (path : List Event) → AreNumbered pool → IsLeaf pool.tree [] n mark path → n < pool.next
number_below pool n mark path numbers at = elim (cases_lt n pool.next) [
  | inl less ↦ less
  | inr most ↦ absurd (let none = numbers.fresh n most in let some = leaf_counts pool.tree [] n mark path at in omega (arith, some, none))
]
