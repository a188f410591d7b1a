-- The store goes on behind the leaf that is expanded.
use Rattle.std.proofs.Common.{◌≡◌, ℕ, ◌+◌, ◌<◌, ◌≤◌, ◌^◌, ◌++◌, Bool, true, false, inl, inr, List, [], length, refl, sym, ap, ◌∙◌, subst, arith}
use Rattle.std.specs.Prelude.{Some, MatchOption, Result, Ok, Err, IfOk, OnOk}
use Rattle.cfn_model.specs.declared.step.Event.{Event}
use Rattle.cfn_model.specs.declared.step.Step.{Step}
use Rattle.cfn_model.specs.Network.{Network}
use Rattle.cfn_model.specs.Paths.{TameBlock}
use Rattle.cfn_model.specs.Steps.{Run, after}
use Rattle.cfn_model.specs.Tree.{CanClose, open_leaves}
use Rattle.cfn_model.proofs.CallerLemmas.{run_lower}
use Rattle.cfn_proof.specs.Nodes.{tree_of}
use Rattle.cfn_proof.proofs.CallerLemmas.{run_append}
use Rattle.cfn_store.specs.Standing.{Standing, history}
use Rattle.cfn_trim.specs.Trimming.{IsBegin}
use Rattle.cfn_gain.specs.declared.settling.Settling.{Settling}
use Rattle.cfn_gain.specs.declared.settling.Settling.TheVariants.{Settled, Spent}
use Rattle.cfn_dive.specs.Enforcing.{GoesOn, Finds, Groups, IsSpent, IsRooted}
use Rattle.cfn_dive.specs.Limit.{step_limit}
use Rattle.cfn_dive.proofs.Grouping.{block_groups}
use Rattle.cfn_dive.specs.declared.parts.Parts.{Parts}
use Rattle.cfn_dive.specs.declared.growth.Growth.{Growth}
use Rattle.cfn_dive.specs.declared.growth.Leaf.{Leaf}
use Rattle.cfn_dive.specs.Growing.{InGroups, IsRootBlock}
use Rattle.cfn_dive.specs.Diving.{IsAt, IsDiving, IsClosing, IsSettledOrSpent}
use Rattle.cfn_dive.proofs.Trees.{grown_lower}

pub current_at : (P : Network) (p : Parts) (g : Growth) (leaf : Leaf) → IsDiving P p g → g.current ≡ Some leaf → IsAt P p g leaf
current_at P p g leaf diving is = subst (λ o. MatchOption o (open_leaves (tree_of g.tree) ≡ 0) (IsAt P p g)) is diving.at

-- steps behind an empty block
pub runs_on : (P : Network) (s t : Standing) (k : ℕ) → s.network ≡ P → s.block ≡ [] → GoesOn s t k → Run P t.base t.block k
runs_on P s t k network none goes =
    let steps : t.block ≡ goes.steps = goes.block ∙ ap (λ b. b ++ goes.steps) none in
    let way : history s ≡ t.base = ap (λ b. after b s.base) none ∙ sym goes.base in
    subst (λ b. Run P t.base b k) (sym steps) (subst (λ h. Run P h goes.steps k) way (subst (λ Q. Run Q (history s) goes.steps k) network goes.runs))

pub begins_at : (s t : Standing) (k : ℕ) → s.block ≡ [] → GoesOn s t k → IsBegin s t
begins_at s t k none goes = record { network = sym goes.network; base = sym goes.base; none = none }

-- steps behind a block, at a threshold that is no more
pub runs_further : (P : Network) (s t : Standing) (k less : ℕ) → s.network ≡ P → less ≤ k → Run P s.base s.block k → GoesOn s t less → Run P t.base t.block less
runs_further P s t k less network h runs goes =
    subst (λ b. Run P b t.block less) (sym goes.base) (subst (λ b. Run P s.base b less) (sym goes.block)
    (run_append P s.base s.block goes.steps less (run_lower P s.base s.block k less h runs)
    (subst (λ Q. Run Q (history s) goes.steps less) network goes.runs)))

-- at a lower threshold the dive stands as it did
pub diving_lower : (P : Network) (p : Parts) (g : Growth) (leaf : Leaf) (k : ℕ) → IsDiving P p g → g.current ≡ Some leaf → k ≤ g.threshold → IsDiving P p (record g { threshold = k })
diving_lower P p g leaf k diving is less =
    let at = current_at P p g leaf diving is in
    record {
      kept = record {
        of = diving.kept.of;
        grown = grown_lower P g.base.value g.threshold k g.granted g.tree g.nodes g.left less diving.kept.grown;
        waiting = diving.kept.waiting;
      };
      at = subst (λ o. MatchOption o (open_leaves (tree_of g.tree) ≡ 0) (IsAt P p (record g { threshold = k }))) (sym is) (record { stack = at.stack; block = at.block; floor = at.floor; since = at.since; root = at.root });
    }

-- the floor of the current leaf reaches the threshold
pub closes_at_once : (P : Network) (p : Parts) (g : Growth) (leaf : Leaf) (k : ℕ) (block : List Step) → IsDiving P p g → g.current ≡ Some leaf → k ≤ g.threshold → block ≡ [] → k ≤ leaf.floor → TameBlock P p.store.base p.store.block → 1 ≤ g.left → g.nodes + 1 < 2 ^ 64 → IsClosing P p (record g { threshold = k }) leaf.id block
closes_at_once P p g leaf k block diving is less none reached tame left few =
    let at = current_at P p g leaf diving is in
    let now = diving_lower P p g leaf k diving is less in
    let low = at.floor in
    record {
      kept = now.kept;
      stack = at.stack;
      runs = subst (λ b. Run P p.store.base b k) (sym none) tt;
      closes = subst (λ b. CanClose P (after b p.store.base) k) (sym none) (inl (omega (arith, reached, low)));
      tame = subst (λ b. TameBlock P p.store.base b) (at.block ∙ sym none) tame;
      left = left;
      few = few;
    }

-- what enforcing found where it is not dead
pub from_settled : (s : Standing) (k : ℕ) (found : Settling) (settled : Bool) → settled ≡ true → found ≡ Settled → Finds s.network (history s) k found → IsSettledOrSpent settled s k
from_settled s k found settled is found_is finds = subst (λ b. IsSettledOrSpent b s k) (sym is) (subst (Finds s.network (history s) k) found_is finds).0

pub from_spent : (P : Network) (s : Standing) (k : ℕ) (found : Settling) (settled : Bool) → settled ≡ false → found ≡ Spent → P ≡ s.network → IsSpent (step_limit P) s found → IsSettledOrSpent settled s k
from_spent P s k found settled is found_is same spent = subst (λ b. IsSettledOrSpent b s k) (sym is) (subst (λ Q. step_limit Q ≤ length s.block) same (subst (IsSpent (step_limit P) s) found_is spent))

-- and no leaf can be closed there
pub settled_alive : (P : Network) (path : List Event) (k : ℕ) (found : Settling) → found ≡ Settled → Finds P path k found → CanClose P path k → ⊥
settled_alive P path k found is finds = (subst (Finds P path k) is finds).1

pub spent_alive : (P : Network) (path : List Event) (k : ℕ) (found : Settling) → found ≡ Spent → Finds P path k found → CanClose P path k → ⊥
spent_alive P path k found is finds = (subst (Finds P path k) is finds).0

-- what was made at a leaf, at the root and below it
pub groups_made : {E : Type 0} (is_root : Bool) (before now : Standing) (result : Result Settling E) → (is_root ≡ true → before.base ≡ []) → now.network ≡ before.network → now.base ≡ before.base → before.block ≡ [] → (is_root ≡ false → IfOk result (Groups before now)) → OnOk result (IsRooted before.network before now)
    → OnOk result (InGroups now.network now.base now.block)
groups_made true before now (Ok found) root network base empty gains rooted =
    inl (base ∙ root refl, subst (λ P. IsRootBlock P now.block) (sym network) (record { before = before; now = now; network = refl; base = root refl; begins = empty; rooted = rooted; block_is = refl }))
groups_made false before now (Ok found) root network base empty gains rooted = inr (block_groups before now found empty (gains refl))
groups_made true before now (Err e) root network base empty gains rooted = tt
groups_made false before now (Err e) root network base empty gains rooted = tt
