-- What a split or a closing of the current leaf keeps of the tree.
use Rattle.std.proofs.Common.{◌≡◌, ℕ, ◌+◌, ◌≤◌, List, [], ◌∷◌, ◌++◌, refl, sym, ap, ◌∙◌, subst, arith}
use Rattle.cfn_model.specs.declared.step.Step.{Step}
use Rattle.cfn_model.specs.declared.step.Decision.{Decision}
use Rattle.cfn_model.specs.declared.step.Event.{Event}
use Rattle.cfn_model.specs.declared.step.Event.TheVariants.{Did}
use Rattle.cfn_model.specs.Network.{Network}
use Rattle.cfn_model.specs.Paths.{HasSmallCosts, TameBlock, Tame}
use Rattle.cfn_model.specs.Steps.{IsDecision, Run, after}
use Rattle.cfn_model.specs.Tree as trees
use Rattle.cfn_model.specs.Tree.{CanClose, IsStrictSplit, Valid, Strict, count, open_leaves}
use Rattle.cfn_model.proofs.CallerLemmas.{valid_lower, small_took, small_refused}
use Rattle.cfn_proof.specs.declared.tree.Node.{Node}
use Rattle.cfn_proof.specs.Nodes.{node_at, tree_at, tree_of, IsLinked, split_behind_at, close_at}
use Rattle.cfn_explore.specs.Backtracks.{one_if_none, backtracks}
use Rattle.cfn_dive.specs.Stack.{Place, IsOpenLeaf, Stack}
use Rattle.cfn_dive.specs.Growing.{IsEnforced, AreEnforced, IsGrown}
use Rattle.cfn_dive.proofs.Stacks.{IsChanged, current_open, climbed}
use Rattle.cfn_dive.proofs.Going.{counts_none, changed_by_split, leaf_was, leaf_split, changed_by_close, leaf_closed, all_closed, gone_back}

small_end : (P : Network) (path : List Event) (block : List Step) → TameBlock P path block → HasSmallCosts P (after block path)
small_end P path [] tame = tame
small_end P path (step ∷ block) tame = small_end P (Did step ∷ path) block tame.1

-- a lower threshold keeps all
pub grown_lower : (P : Network) (base : List Event) (k less granted : ℕ) (nodes : List Node) (spent left : ℕ) → less ≤ k → IsGrown P base k granted nodes spent left → IsGrown P base less granted nodes spent left
grown_lower P base k less granted nodes spent left h is = record {
  valid = valid_lower P base (tree_of nodes) k less h is.valid;
  strict = is.strict;
  tame = is.tame;
  enforced = is.enforced;
  counted = is.counted;
  gone_back = is.gone_back;
}

-- one node is changed, and what its tree keeps the whole tree keeps
module _ (P : Network) (nodes new : List Node) (current : Place) (changed : IsChanged nodes new current.leaf) (base : List Event) (waiting : List Place) (stack : Stack nodes 0 base current waiting) where
  kept_valid : (k : ℕ) → Valid P current.path (tree_at new current.leaf) k → Valid P base (tree_of nodes) k → Valid P base (tree_of new) k
  kept_valid k here =
      climbed nodes new current changed (λ history old now. Valid P history old k → Valid P history now k)
      (λ block d above old now other f v. (v.0, v.1, f v.2, v.3))
      (λ block d above old now other f v. (v.0, v.1, v.2, f v.3))
      (λ v. here) 0 base waiting stack

  kept_strict : Strict P current.path (tree_at new current.leaf) → Strict P base (tree_of nodes) → Strict P base (tree_of new)
  kept_strict here =
      climbed nodes new current changed (λ history old now. Strict P history old → Strict P history now)
      (λ block d above old now other f v. (v.0, f v.1, v.2))
      (λ block d above old now other f v. (v.0, v.1, f v.2))
      (λ v. here) 0 base waiting stack

  kept_tame : Tame P current.path (tree_at new current.leaf) → Tame P base (tree_of nodes) → Tame P base (tree_of new)
  kept_tame here =
      climbed nodes new current changed (λ history old now. Tame P history old → Tame P history now)
      (λ block d above old now other f v. (v.0, f v.1, v.2))
      (λ block d above old now other f v. (v.0, v.1, f v.2))
      (λ v. here) 0 base waiting stack

  kept_enforced : AreEnforced P current.path (tree_at new current.leaf) → AreEnforced P base (tree_of nodes) → AreEnforced P base (tree_of new)
  kept_enforced here =
      climbed nodes new current changed (λ history old now. AreEnforced P history old → AreEnforced P history now)
      (λ block d above old now other f v. (v.0, f v.1, v.2))
      (λ block d above old now other f v. (v.0, v.1, f v.2))
      (λ v. here) 0 base waiting stack

  counts_one_more : count (tree_at new current.leaf) ≡ count (tree_at nodes current.leaf) + 1 → count (tree_of new) ≡ count (tree_of nodes) + 1
  counts_one_more here =
      climbed nodes new current changed (λ history old now. count now ≡ count old + 1)
      (λ block d above old now other more. omega (arith, more))
      (λ block d above old now other more. omega (arith, more))
      here 0 base waiting stack

-- trees that differ within open parts alone have the same backtracks
abbrev StaysOpen : trees.Tree → trees.Tree → Type 0
StaysOpen old now = (backtracks now ≡ backtracks old) × (1 ≤ open_leaves old) × (1 ≤ open_leaves now)

took_stays : (block : List Step) (d : Decision) (old now other : trees.Tree) → StaysOpen old now → StaysOpen (trees.Split block d old other) (trees.Split block d now other)
took_stays block d old now other is =
    let one = counts_none (open_leaves old) is.1 in
    let two = counts_none (open_leaves now) is.2 in
    let same = is.0 in
    let a = is.1 in
    let b = is.2 in
    (omega (arith, one, two, same), omega (arith, a), omega (arith, b))

refused_stays : (block : List Step) (d : Decision) (old now other : trees.Tree) → StaysOpen old now → StaysOpen (trees.Split block d other old) (trees.Split block d other now)
refused_stays block d old now other is =
    let same = is.0 in
    let a = is.1 in
    let b = is.2 in
    (ap (λ n. one_if_none (open_leaves other) + (backtracks other + n)) same, omega (arith, a), omega (arith, b))

-- the current leaf is split
module _ (P : Network) (base : List Event) (k granted : ℕ) (nodes : List Node) (spent left : ℕ) (current : Place) (waiting : List Place) (block : List Step) (d : Decision) (linked : IsLinked nodes) (linked_new : IsLinked (split_behind_at nodes current.leaf block d)) (stack : Stack nodes 0 base current waiting) (was : IsGrown P base k granted nodes spent left) where
  here_open : IsOpenLeaf nodes current.leaf
  here_open = current_open nodes 0 base current waiting stack

  change : IsChanged nodes (split_behind_at nodes current.leaf block d) current.leaf
  change = changed_by_split nodes current block d linked linked_new here_open

  tree_is : tree_at (split_behind_at nodes current.leaf block d) current.leaf ≡ trees.Split block d (trees.Open []) (trees.Open [])
  tree_is = leaf_split nodes current block d linked linked_new here_open

  tree_was : tree_at nodes current.leaf ≡ trees.Open []
  tree_was = leaf_was nodes current block d linked linked_new here_open

  pub grown_split : Run P current.path block k → IsDecision P d → IsStrictSplit P (after block current.path) d → TameBlock P current.path block → IsEnforced P current.path block → IsGrown P base k granted (split_behind_at nodes current.leaf block d) (spent + 1) left
  grown_split runs decision strict tame enforced =
      let new = split_behind_at nodes current.leaf block d in
      let small = small_end P current.path block tame in
      let now = ap count tree_is in
      let before = ap count tree_was in
      let more = counts_one_more P nodes new current change base waiting stack (omega (arith, now, before)) in
      let same = climbed nodes new current change (λ history old now. StaysOpen old now)
      (λ block d above old now other is. took_stays block d old now other is)
      (λ block d above old now other is. refused_stays block d old now other is)
      (ap backtracks tree_is ∙ sym (ap backtracks tree_was), (let e = ap open_leaves tree_was in omega (arith, e)), (let e = ap open_leaves tree_is in omega (arith, e)))
      0 base waiting stack in
      record {
        valid = kept_valid P nodes new current change base waiting stack k (subst (λ t. Valid P current.path t k) (sym tree_is) (runs, decision, tt, tt)) was.valid;
        strict = kept_strict P nodes new current change base waiting stack (subst (λ t. Strict P current.path t) (sym tree_is) (strict, tt, tt)) was.strict;
        tame = kept_tame P nodes new current change base waiting stack (subst (λ t. Tame P current.path t) (sym tree_is) (tame, small_took P (after block current.path) d small, small_refused P (after block current.path) d small)) was.tame;
        enforced = kept_enforced P nodes new current change base waiting stack (subst (λ t. AreEnforced P current.path t) (sym tree_is) (enforced, refl, refl)) was.enforced;
        counted = let c = was.counted in omega (arith, more, c);
        gone_back = let c = was.gone_back in let s = same.0 in omega (arith, s, c);
      }

-- the current leaf is closed
module _ (P : Network) (base : List Event) (k granted : ℕ) (nodes : List Node) (spent left : ℕ) (current : Place) (waiting : List Place) (block : List Step) (linked : IsLinked nodes) (linked_new : IsLinked (close_at nodes current.leaf block)) (stack : Stack nodes 0 base current waiting) (was : IsGrown P base k granted nodes spent left) (runs : Run P current.path block k) (closes : CanClose P (after block current.path) k) (tame : TameBlock P current.path block) where
  open_here : IsOpenLeaf nodes current.leaf
  open_here = current_open nodes 0 base current waiting stack

  change_closed : IsChanged nodes (close_at nodes current.leaf block) current.leaf
  change_closed = changed_by_close nodes current block linked linked_new open_here

  closed_is : tree_at (close_at nodes current.leaf block) current.leaf ≡ trees.Closed block
  closed_is = leaf_closed nodes current block linked linked_new open_here

  grown_closed : (less : ℕ) → backtracks (tree_of (close_at nodes current.leaf block)) + less ≡ granted → IsGrown P base k granted (close_at nodes current.leaf block) (spent + 1) less
  grown_closed less back =
      let new = close_at nodes current.leaf block in
      let now = ap count closed_is in
      let before = ap count (was_open) in
      let more = counts_one_more P nodes new current change_closed base waiting stack (omega (arith, now, before)) in
      record {
        valid = kept_valid P nodes new current change_closed base waiting stack k (subst (λ t. Valid P current.path t k) (sym closed_is) (runs, closes)) was.valid;
        strict = kept_strict P nodes new current change_closed base waiting stack (subst (λ t. Strict P current.path t) (sym closed_is) tt) was.strict;
        tame = kept_tame P nodes new current change_closed base waiting stack (subst (λ t. Tame P current.path t) (sym closed_is) tame) was.tame;
        enforced = kept_enforced P nodes new current change_closed base waiting stack (subst (λ t. AreEnforced P current.path t) (sym closed_is) tt) was.enforced;
        counted = let c = was.counted in omega (arith, more, c);
        gone_back = back;
      }
    where
      was_open : tree_at nodes current.leaf ≡ trees.Open (node_at nodes current.leaf).block
      was_open = Rattle.cfn_dive.proofs.Stacks.as_free nodes current.leaf linked open_here.there open_here.free

  -- and all is closed then
  pub grown_end : waiting ≡ [] → IsGrown P base k granted (close_at nodes current.leaf block) (spent + 1) left
  grown_end none =
      let ends = all_closed nodes current block linked linked_new open_here 0 base waiting stack none in
      grown_closed left (let b = ends.1 in let c = was.gone_back in omega (arith, b, c))

  -- and the newest leaf that waited is current then
  pub grown_back : (ws : List Place) (w : Place) → waiting ≡ ws ++ w ∷ [] → (less : ℕ) → less + 1 ≡ left → IsGrown P base k granted (close_at nodes current.leaf block) (spent + 1) less × Stack (close_at nodes current.leaf block) 0 base w ws
  grown_back ws w list less one =
      let back = gone_back nodes current block linked linked_new open_here 0 base waiting stack ws w list in
      (grown_closed less (let b = back.1 in let c = was.gone_back in omega (arith, b, c, one)), back.0)
