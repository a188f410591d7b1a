-- Where a stack stands after its current leaf was split, or closed.
use Rattle.std.proofs.Common.{◌≡◌, ℕ, zero, suc, ◌+◌, ◌<◌, ◌≤◌, inl, inr, List, [], ◌∷◌, ◌++◌, length, refl, sym, ap, ◌∙◌, subst, arith}
use Rattle.cfn_model.specs.declared.step.Step.{Step}
use Rattle.cfn_model.specs.declared.step.Decision.{Decision}
use Rattle.cfn_model.specs.declared.step.Event.{Event}
use Rattle.cfn_model.specs.declared.step.Event.TheVariants.{Took, Refused}
use Rattle.cfn_model.specs.Steps.{after}
use Rattle.cfn_model.specs.Tree as trees
use Rattle.cfn_model.specs.Tree.{open_leaves}
use Rattle.cfn_proof.specs.declared.tree.Node.{Node}
use Rattle.cfn_proof.specs.Nodes.{node_at, tree_at, IsLinked, split_behind_at, split_end, close_at}
use Rattle.cfn_proof.proofs.CallerLemmas.{length-split_behind_at, split_behind_at-same, split_behind_at-other, split_behind_at-first, split_behind_at-second, length-close_at, close_at-same, close_at-other}
use Rattle.cfn_explore.specs.Backtracks.{one_if_none, backtracks}
use Rattle.cfn_dive.specs.Stack.{Place, IsOpenLeaf, IsNone, Stack, at_leaf, in_first, in_second}
use Rattle.cfn_dive.proofs.Stacks.{IsChanged, last_of, none_last, as_split, as_free, as_shut, some_open, other_open, split_apart, first_same, took_trees, refused_trees}

pub counts_none : (n : ℕ) → 1 ≤ n → one_if_none n ≡ 0
counts_none zero h = absurd (omega (arith, h))
counts_none (suc n) h = refl

counts_one : (n : ℕ) → n ≡ 0 → one_if_none n ≡ 1
counts_one zero h = refl
counts_one (suc n) h = absurd (omega (arith, h))

-- the split of the current leaf
module _ (nodes : List Node) (current : Place) (block : List Step) (d : Decision) (linked : IsLinked nodes) (linked_new : IsLinked (split_behind_at nodes current.leaf block d)) (here : IsOpenLeaf nodes current.leaf) where
  pub changed_by_split : IsChanged nodes (split_behind_at nodes current.leaf block d) current.leaf
  changed_by_split = record {
    linked = linked;
    linked_new = linked_new;
    longer = (let l = length-split_behind_at nodes current.leaf block d here.there in omega (arith, l));
    others = λ j there apart. split_behind_at-other nodes current.leaf block d here.there j there apart;
    there = here.there;
    was_free = here.free;
  }

  abbrev pub first_place : Place
  first_place = record { leaf = length nodes; path = Took d ∷ after block current.path }

  abbrev pub second_place : Place
  second_place = record { leaf = length nodes + 1; path = Refused d ∷ after block current.path }

  new_first : IsOpenLeaf (split_behind_at nodes current.leaf block d) (length nodes)
  new_first = let e = split_behind_at-first nodes current.leaf block d here.there in record {
    there = (let l = length-split_behind_at nodes current.leaf block d here.there in omega (arith, l));
    free = ap (λ (n : Node). n.end) e;
    empty = ap (λ (n : Node). n.block) e;
  }

  new_second : IsOpenLeaf (split_behind_at nodes current.leaf block d) (length nodes + 1)
  new_second = let e = split_behind_at-second nodes current.leaf block d here.there in record {
    there = (let l = length-split_behind_at nodes current.leaf block d here.there in omega (arith, l));
    free = ap (λ (n : Node). n.end) e;
    empty = ap (λ (n : Node). n.block) e;
  }

  leaf_is : node_at (split_behind_at nodes current.leaf block d) current.leaf ≡ record (node_at nodes current.leaf) { block = block; end = split_end d (length nodes) }
  leaf_is = split_behind_at-same nodes current.leaf block d here.there

  is_new : (i : ℕ) → i < length nodes → (ws : List Place) → IsNone i (current ∷ ws) → IsNone i (first_place ∷ (ws ++ second_place ∷ []))
  is_new i h ws none = ((λ same. omega (arith, same, h)), apart_more i h ws none.1)
    where
      apart_more : (i : ℕ) → i < length nodes → (ws : List Place) → IsNone i ws → IsNone i (ws ++ second_place ∷ [])
      apart_more i h [] none = ((λ same. omega (arith, same, h)), tt)
      apart_more i h (w ∷ ws) none = (none.0, apart_more i h ws none.1)

  pub stack_split : (i : ℕ) (history : List Event) (waiting : List Place) → Stack nodes i history current waiting → Stack (split_behind_at nodes current.leaf block d) i history first_place (waiting ++ second_place ∷ [])
  stack_split i history waiting (at_leaf open_here is none) =
      let new = split_behind_at nodes current.leaf block d in
      let at : i ≡ current.leaf = sym (ap (λ (p : Place). p.leaf) is) in
      let path : history ≡ current.path = sym (ap (λ (p : Place). p.path) is) in
      let is_block : (node_at new i).block ≡ block = ap (λ m. (node_at new m).block) at ∙ ap (λ (n : Node). n.block) leaf_is in
      let way : after block current.path ≡ after (node_at new i).block history = ap (after block) (sym path) ∙ ap (λ b. after b history) (sym is_block) in
      in_first d (record { number = length nodes }) (record { number = length nodes + 1 }) []
      (omega (arith, open_here.there, length-split_behind_at nodes current.leaf block d here.there))
      (ap (λ m. (node_at new m).end) at ∙ ap (λ (n : Node). n.end) leaf_is)
      new_second
      ((λ same. omega (arith, same)), tt)
      (at_leaf new_first (ap (λ h. record { leaf = length nodes; path = Took d ∷ h }) way) refl)
      (ap (λ l. l ++ second_place ∷ []) none ∙ ap (λ h. record { leaf = length nodes + 1; path = Refused d ∷ h } ∷ []) way)
  stack_split i history waiting (in_first c first second deeper there is other apart below list) =
      let new = split_behind_at nodes current.leaf block d in
      let same : node_at new i ≡ node_at nodes i = split_behind_at-other nodes current.leaf block d here.there i there (split_apart nodes new current.leaf changed_by_split i c first second is) in
      let up = stack_split first.number (Took c ∷ after (node_at nodes i).block history) deeper below in
      in_first c first second (deeper ++ second_place ∷ [])
      (omega (arith, there, length-split_behind_at nodes current.leaf block d here.there))
      (ap (λ (n : Node). n.end) same ∙ is)
      (other_open nodes new current.leaf changed_by_split second.number other (λ e. apart.0 (sym e)))
      (is_new second.number other.there deeper apart)
      (subst (λ b. Stack new first.number (Took c ∷ after b history) first_place (deeper ++ second_place ∷ [])) (sym (ap (λ (n : Node). n.block) same)) up)
      (ap (λ l. l ++ second_place ∷ []) list ∙ ap (λ b. record { leaf = second.number; path = Refused c ∷ after b history } ∷ (deeper ++ second_place ∷ [])) (sym (ap (λ (n : Node). n.block) same)))
  stack_split i history waiting (in_second c first second there is shut below) =
      let new = split_behind_at nodes current.leaf block d in
      let same : node_at new i ≡ node_at nodes i = split_behind_at-other nodes current.leaf block d here.there i there (split_apart nodes new current.leaf changed_by_split i c first second is) in
      let up = stack_split second.number (Refused c ∷ after (node_at nodes i).block history) waiting below in
      in_second c first second
      (omega (arith, there, length-split_behind_at nodes current.leaf block d here.there))
      (ap (λ (n : Node). n.end) same ∙ is)
      (ap open_leaves (first_same nodes new current changed_by_split i c first second there is shut) ∙ shut)
      (subst (λ b. Stack new second.number (Refused c ∷ after b history) first_place (waiting ++ second_place ∷ [])) (sym (ap (λ (n : Node). n.block) same)) up)

  -- the leaf's tree before and after
  pub leaf_was : tree_at nodes current.leaf ≡ trees.Open []
  leaf_was = as_free nodes current.leaf linked here.there here.free ∙ ap trees.Open here.empty

  pub leaf_split : tree_at (split_behind_at nodes current.leaf block d) current.leaf ≡ trees.Split block d (trees.Open []) (trees.Open [])
  leaf_split =
      let new = split_behind_at nodes current.leaf block d in
      let l = length-split_behind_at nodes current.leaf block d here.there in
      as_split new current.leaf d (record { number = length nodes }) (record { number = length nodes + 1 }) linked_new (omega (arith, here.there, l)) (ap (λ (n : Node). n.end) leaf_is)
      ∙ ap (λ b. trees.Split b d (tree_at new (length nodes)) (tree_at new (length nodes + 1))) (ap (λ (n : Node). n.block) leaf_is)
      ∙ ap (λ t. trees.Split block d t (tree_at new (length nodes + 1))) (as_free new (length nodes) linked_new new_first.there new_first.free ∙ ap trees.Open new_first.empty)
      ∙ ap (λ t. trees.Split block d (trees.Open []) t) (as_free new (length nodes + 1) linked_new new_second.there new_second.free ∙ ap trees.Open new_second.empty)

-- the closing of the current leaf
module _ (nodes : List Node) (current : Place) (block : List Step) (linked : IsLinked nodes) (linked_new : IsLinked (close_at nodes current.leaf block)) (here : IsOpenLeaf nodes current.leaf) where
  pub changed_by_close : IsChanged nodes (close_at nodes current.leaf block) current.leaf
  changed_by_close = record {
    linked = linked;
    linked_new = linked_new;
    longer = (let l = length-close_at nodes current.leaf block here.there in omega (arith, l));
    others = λ j there apart. close_at-other nodes current.leaf block here.there j apart;
    there = here.there;
    was_free = here.free;
  }

  pub leaf_closed : tree_at (close_at nodes current.leaf block) current.leaf ≡ trees.Closed block
  leaf_closed =
      let new = close_at nodes current.leaf block in
      let l = length-close_at nodes current.leaf block here.there in
      let is = close_at-same nodes current.leaf block here.there in
      as_shut new current.leaf linked_new (omega (arith, here.there, l)) (ap (λ (n : Node). n.end) is) ∙ ap trees.Closed (ap (λ (n : Node). n.block) is)

  -- where no leaf waits all is closed then, and no split is gone back over
  pub all_closed : (i : ℕ) (history : List Event) (waiting : List Place) → Stack nodes i history current waiting → waiting ≡ [] → (open_leaves (tree_at (close_at nodes current.leaf block) i) ≡ 0) × (backtracks (tree_at (close_at nodes current.leaf block) i) ≡ backtracks (tree_at nodes i))
  all_closed i history waiting (at_leaf open_here is none) none_waits =
      let at : i ≡ current.leaf = sym (ap (λ (p : Place). p.leaf) is) in
      let t = ap (tree_at (close_at nodes current.leaf block)) at ∙ leaf_closed in
      let o = ap (tree_at nodes) at ∙ as_free nodes current.leaf linked here.there here.free in
      (ap open_leaves t, ap backtracks t ∙ sym (ap backtracks o))
  all_closed i history waiting (in_first c first second deeper there is other apart below list) none_waits = absurd (some_none (sym list ∙ none_waits))
    where
      some_none : {w : Place} {ws : List Place} → w ∷ ws ≡ [] → ⊥
      some_none e = cc
  all_closed i history waiting (in_second c first second there is shut below) none_waits =
      let new = close_at nodes current.leaf block in
      let rest = all_closed second.number (Refused c ∷ after (node_at nodes i).block history) waiting below none_waits in
      let t = refused_trees nodes new current changed_by_close i c first second there is shut in
      let o = as_split nodes i c first second linked there is in
      let to = ap open_leaves t in
      let tb = ap backtracks t in
      let ob = ap backtracks o in
      ((let r = rest.0 in omega (arith, to, shut, r)), tb ∙ ap (λ n. one_if_none (open_leaves (tree_at nodes first.number)) + (backtracks (tree_at nodes first.number) + n)) rest.1 ∙ sym ob)

  none_older : (n : ℕ) (ws : List Place) (w : Place) → IsNone n (ws ++ w ∷ []) → IsNone n (w ∷ ws)
  none_older n [] w none = none
  none_older n (v ∷ ws) w none = let rest = none_older n ws w none.1 in (rest.0, (none.0, rest.1))

  -- where a leaf waits, the newest is current then, and that is one split gone back over
  pub gone_back : (i : ℕ) (history : List Event) (waiting : List Place) → Stack nodes i history current waiting → (ws : List Place) (w : Place) → waiting ≡ ws ++ w ∷ [] → Stack (close_at nodes current.leaf block) i history w ws × (backtracks (tree_at (close_at nodes current.leaf block) i) ≡ backtracks (tree_at nodes i) + 1)
  gone_back i history waiting (at_leaf open_here is none) ws w e = absurd (none_last ws w (sym none ∙ e))
  gone_back i history waiting (in_first c first second deeper there is other apart below list) ws w e =
      let new = close_at nodes current.leaf block in
      let same : node_at new i ≡ node_at nodes i = close_at-other nodes current.leaf block here.there i (split_apart nodes new current.leaf changed_by_close i c first second is) in
      let there_new : i < length new = omega (arith, there, length-close_at nodes current.leaf block here.there) in
      let is_new = ap (λ (n : Node). n.end) same ∙ is in
      let is_open = other_open nodes new current.leaf changed_by_close second.number other (λ e. apart.0 (sym e)) in
      let t = took_trees nodes new current changed_by_close i c first second deeper there is other apart in
      let o = as_split nodes i c first second linked there is in
      let tb = ap backtracks t in
      let ob = ap backtracks o in
      let was = some_open nodes first.number _ current deeper linked below in
      let before = counts_none (open_leaves (tree_at nodes first.number)) was in
      elim (last_of _ deeper ws w (sym list ∙ e)) [
        | inl one ↦
            (let ends = all_closed first.number _ deeper below one.0 in
            let now = counts_one (open_leaves (tree_at new first.number)) ends.0 in
            let eb = ends.1 in (
              in_second c first second there_new is_new ends.0 (at_leaf is_open (one.2 ∙ ap (λ b. record { leaf = second.number; path = Refused c ∷ after b history }) (sym (ap (λ (n : Node). n.block) same))) one.1),
              omega (arith, tb, ob, before, now, eb),
            ))
        | inr more ↦
            (let rest = gone_back first.number _ deeper below more.0 w more.2 in
            let now = counts_none (open_leaves (tree_at new first.number)) (some_open new first.number _ w more.0 linked_new rest.0) in
            let eb = rest.1 in (
              in_first c first second more.0 there_new is_new is_open
                  (none_older second.number more.0 w (subst (IsNone second.number) more.2 apart.1))
                  (subst (λ b. Stack new first.number (Took c ∷ after b history) w more.0) (sym (ap (λ (n : Node). n.block) same)) rest.0)
                  (more.1 ∙ ap (λ b. record { leaf = second.number; path = Refused c ∷ after b history } ∷ more.0) (sym (ap (λ (n : Node). n.block) same))),
              omega (arith, tb, ob, before, now, eb),
            ))
      ]
  gone_back i history waiting (in_second c first second there is shut below) ws w e =
      let new = close_at nodes current.leaf block in
      let same : node_at new i ≡ node_at nodes i = close_at-other nodes current.leaf block here.there i (split_apart nodes new current.leaf changed_by_close i c first second is) in
      let rest = gone_back second.number (Refused c ∷ after (node_at nodes i).block history) waiting below ws w e in
      let tb = ap backtracks (refused_trees nodes new current changed_by_close i c first second there is shut) in
      let ob = ap backtracks (as_split nodes i c first second linked there is) in
      let eb = rest.1 in (
        in_second c first second (omega (arith, there, length-close_at nodes current.leaf block here.there)) (ap (λ (n : Node). n.end) same ∙ is)
            (ap open_leaves (first_same nodes new current changed_by_close i c first second there is shut) ∙ shut)
            (subst (λ b. Stack new second.number (Refused c ∷ after b history) w ws) (sym (ap (λ (n : Node). n.block) same)) rest.0),
        tb ∙ ap (λ n. one_if_none (open_leaves (tree_at nodes first.number)) + (backtracks (tree_at nodes first.number) + n)) eb ∙ more_right (one_if_none (open_leaves (tree_at nodes first.number))) (backtracks (tree_at nodes first.number)) (backtracks (tree_at nodes second.number)) ∙ ap (λ n. n + 1) (sym ob),
      )
    where
      more_right : (a b c : ℕ) → a + (b + (c + 1)) ≡ (a + (b + c)) + 1
      more_right a b c = omega arith
