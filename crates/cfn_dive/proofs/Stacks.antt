-- What a split or a closing of the current leaf makes of a stack and of the tree.
use Rattle.std.proofs.Common.{◌≡◌, ◌≢◌, ℕ, zero, suc, ◌+◌, ◌<◌, ◌≤◌, ◌⊎◌, inl, inr, List, [], ◌∷◌, ◌++◌, length, refl, sym, ap, ◌∙◌, subst, arith, append_assoc}
use Rattle.cfn_model.specs.declared.step.Step.{Step}
use Rattle.cfn_model.specs.declared.step.Decision.{Decision}
use Rattle.cfn_model.specs.declared.step.Event.{Event}
use Rattle.cfn_model.specs.declared.step.Event.TheVariants.{Did, Took, Refused}
use Rattle.cfn_model.specs.Steps.{after}
use Rattle.cfn_model.specs.Tree as trees
use Rattle.cfn_model.specs.Tree.{open_leaves}
use Rattle.cfn_proof.specs.declared.tree.NodeId.{NodeId}
use Rattle.cfn_proof.specs.declared.tree.End.{End}
use Rattle.cfn_proof.specs.declared.tree.End.TheVariants.{Free, Shut, Split}
use Rattle.cfn_proof.specs.declared.tree.Node.{Node}
use Rattle.cfn_proof.specs.Nodes.{node_at, tree_at, with_children, IsLinked, IsFree}
use Rattle.cfn_proof.proofs.CallerLemmas.{tree_at_is}
use Rattle.cfn_dive.specs.Stack.{Place, IsOpenLeaf, IsNone, Stack, at_leaf, in_first, in_second}

split_not_free : {e : End} {d : Decision} {first second : NodeId} → e ≡ Split d first second → e ≡ Free → ⊥
split_not_free h k = cc

-- the current leaf is open
pub current_open : (nodes : List Node) (i : ℕ) (history : List Event) (current : Place) (waiting : List Place) → Stack nodes i history current waiting → IsOpenLeaf nodes current.leaf
current_open nodes i history current waiting (at_leaf here is none) = subst (λ (p : Place). IsOpenLeaf nodes p.leaf) (sym is) here
current_open nodes i history current waiting (in_first d first second deeper there is other apart below list) = current_open nodes first.number _ current deeper below
current_open nodes i history current waiting (in_second d first second there is shut below) = current_open nodes second.number _ current waiting below

-- what stands before a node stands before all that stands below it
pub after_later : (block : List Step) (path : List Event) → (later : List Event) × (after block path ≡ later ++ path)
after_later [] path = ([], refl)
after_later (step ∷ block) path = let rest = after_later block (Did step ∷ path) in (rest.0 ++ Did step ∷ [], rest.1 ∙ sym (append_assoc rest.0 (Did step ∷ []) path))

side_later : (block : List Step) (side : Event) (path leaf : List Event) → ((later : List Event) × (leaf ≡ later ++ side ∷ after block path)) → (later : List Event) × (leaf ≡ later ++ path)
side_later block side path leaf behind =
    let b = after_later block path in
    (behind.0 ++ side ∷ b.0, behind.1 ∙ ap (λ h. behind.0 ++ side ∷ h) b.1 ∙ sym (append_assoc behind.0 (side ∷ b.0) path))

pub stack_later : (nodes : List Node) (i : ℕ) (history : List Event) (current : Place) (waiting : List Place) → Stack nodes i history current waiting → (later : List Event) × (current.path ≡ later ++ history)
stack_later nodes i history current waiting (at_leaf here is none) = ([], ap (λ (p : Place). p.path) is)
stack_later nodes i history current waiting (in_first d first second deeper there is other apart below list) = side_later (node_at nodes i).block (Took d) history current.path (stack_later nodes first.number _ current deeper below)
stack_later nodes i history current waiting (in_second d first second there is shut below) = side_later (node_at nodes i).block (Refused d) history current.path (stack_later nodes second.number _ current waiting below)

-- the newest leaf that waits is the other side of a split on the way to the current leaf
pub record IsBeside (newest current : Place) : Type 0 where
  pub d : Decision
  pub above : List Event
  pub other : newest.path ≡ Refused d ∷ above
  pub later : List Event
  pub way : current.path ≡ later ++ Took d ∷ above

-- the last of a list, where another is its first
pub last_of : (x : Place) (deeper ws : List Place) (w : Place) → x ∷ deeper ≡ ws ++ w ∷ [] → ((deeper ≡ []) × (ws ≡ []) × (w ≡ x)) ⊎ ((older : List Place) × (ws ≡ x ∷ older) × (deeper ≡ older ++ w ∷ []))
last_of x deeper [] w e = inl (cc, refl, cc)
last_of x deeper (v ∷ ws) w e = inr (ws, cc, cc)

pub none_last : (ws : List Place) (w : Place) → [] ≡ ws ++ w ∷ [] → ⊥
none_last [] w e = cc
none_last (v ∷ ws) w e = cc

pub newest_beside : (nodes : List Node) (i : ℕ) (history : List Event) (current : Place) (waiting : List Place) → Stack nodes i history current waiting → (ws : List Place) (w : Place) → waiting ≡ ws ++ w ∷ [] → IsBeside w current
newest_beside nodes i history current waiting (at_leaf here is none) ws w e = absurd (none_last ws w (sym none ∙ e))
newest_beside nodes i history current waiting (in_first d first second deeper there is other apart below list) ws w e = elim (last_of _ deeper ws w (sym list ∙ e)) [
  | inl one ↦ (let later = stack_later nodes first.number _ current deeper below in record { d = d; above = after (node_at nodes i).block history; other = ap (λ (p : Place). p.path) one.2; later = later.0; way = later.1 })
  | inr more ↦ newest_beside nodes first.number _ current deeper below more.0 w more.2
]
newest_beside nodes i history current waiting (in_second d first second there is shut below) ws w e = newest_beside nodes second.number _ current waiting below ws w e

-- the tree of a split, and of an open leaf
pub as_split : (m : List Node) (j : ℕ) (d : Decision) (first second : NodeId) → IsLinked m → j < length m → (node_at m j).end ≡ Split d first second → tree_at m j ≡ trees.Split (node_at m j).block d (tree_at m first.number) (tree_at m second.number)
as_split m j d first second linked there is = tree_at_is m j linked there ∙ ap (λ e. with_children (node_at m j).block e (tree_at m)) is

pub as_free : (m : List Node) (j : ℕ) → IsLinked m → j < length m → IsFree m j → tree_at m j ≡ trees.Open (node_at m j).block
as_free m j linked there is = tree_at_is m j linked there ∙ ap (λ e. with_children (node_at m j).block e (tree_at m)) is

pub as_shut : (m : List Node) (j : ℕ) → IsLinked m → j < length m → (node_at m j).end ≡ Shut → tree_at m j ≡ trees.Closed (node_at m j).block
as_shut m j linked there is = tree_at_is m j linked there ∙ ap (λ e. with_children (node_at m j).block e (tree_at m)) is

-- only one node differs from what it was, an open leaf
pub record IsChanged (nodes new : List Node) (l : ℕ) : Type 0 where
  pub linked : IsLinked nodes
  pub linked_new : IsLinked new
  pub longer : length nodes ≤ length new
  pub others : (j : ℕ) → j < length nodes → j ≢ l → node_at new j ≡ node_at nodes j
  pub there : l < length nodes
  pub was_free : IsFree nodes l

module _ (nodes new : List Node) (l : ℕ) (changed : IsChanged nodes new l) where
  pub split_apart : (j : ℕ) (d : Decision) (first second : NodeId) → (node_at nodes j).end ≡ Split d first second → j ≢ l
  split_apart j d first second is same = split_not_free (subst (λ m. (node_at nodes m).end ≡ Split d first second) same is) changed.was_free

  pub same_split : (j : ℕ) (d : Decision) (first second : NodeId) → j < length nodes → (node_at nodes j).end ≡ Split d first second → tree_at new j ≡ trees.Split (node_at nodes j).block d (tree_at new first.number) (tree_at new second.number)
  same_split j d first second there is =
      let e = changed.others j there (split_apart j d first second is) in
      as_split new j d first second changed.linked_new (omega (arith, there, changed.longer)) (ap (λ (n : Node). n.end) e ∙ is) ∙ ap (λ (n : Node). trees.Split n.block d (tree_at new first.number) (tree_at new second.number)) e

  -- another open leaf stays
  pub other_open : (j : ℕ) → IsOpenLeaf nodes j → j ≢ l → IsOpenLeaf new j
  other_open j is apart = let e = changed.others j is.there apart in record { there = omega (arith, is.there, changed.longer); free = ap (λ (n : Node). n.end) e ∙ is.free; empty = ap (λ (n : Node). n.block) e ∙ is.empty }

  open_same : (j : ℕ) → IsOpenLeaf nodes j → j ≢ l → tree_at new j ≡ tree_at nodes j
  open_same j is apart =
      let now = other_open j is apart in
      as_free new j changed.linked_new now.there now.free ∙ ap trees.Open (now.empty ∙ sym is.empty) ∙ sym (as_free nodes j changed.linked is.there is.free)

  -- a tree without an open leaf stays
  closed_at : (n j : ℕ) (e : End) → length nodes ≤ j + suc n → j < length nodes → (node_at nodes j).end ≡ e → open_leaves (tree_at nodes j) ≡ 0 → ((c : ℕ) → length nodes ≤ c + n → c < length nodes → open_leaves (tree_at nodes c) ≡ 0 → tree_at new c ≡ tree_at nodes c) → tree_at new j ≡ tree_at nodes j
  closed_at n j Free far there is none below = absurd (let e = ap open_leaves (as_free nodes j changed.linked there is) in omega (arith, e, none))
  closed_at n j Shut far there is none below =
      let apart : j ≢ l = λ same. shut_not_free (subst (λ m. (node_at nodes m).end ≡ Shut) same is) changed.was_free in
      let e = changed.others j there apart in
      as_shut new j changed.linked_new (omega (arith, there, changed.longer)) (ap (λ (n : Node). n.end) e ∙ is) ∙ ap (λ (n : Node). trees.Closed n.block) e ∙ sym (as_shut nodes j changed.linked there is)
    where
      shut_not_free : {e : End} → e ≡ Shut → e ≡ Free → ⊥
      shut_not_free h k = cc
  closed_at n j (Split d first second) far there is none below =
      let family = changed.linked.children j d first second there is in
      let sum = ap open_leaves (as_split nodes j d first second changed.linked there is) in
      let one = below first.number (omega (arith, far, family.first_behind)) family.first_there (omega (arith, sum, none)) in
      let two = below second.number (omega (arith, far, family.second_behind)) family.second_there (omega (arith, sum, none)) in
      same_split j d first second there is ∙ ap (λ t. trees.Split (node_at nodes j).block d t (tree_at new second.number)) one ∙ ap (λ t. trees.Split (node_at nodes j).block d (tree_at nodes first.number) t) two ∙ sym (as_split nodes j d first second changed.linked there is)

  closed_from : (n j : ℕ) → length nodes ≤ j + n → j < length nodes → open_leaves (tree_at nodes j) ≡ 0 → tree_at new j ≡ tree_at nodes j
  closed_from zero j far there none = absurd (omega (arith, far, there))
  closed_from (suc n) j far there none = closed_at n j (node_at nodes j).end far there refl none (closed_from n)

  pub closed_same : (j : ℕ) → j < length nodes → open_leaves (tree_at nodes j) ≡ 0 → tree_at new j ≡ tree_at nodes j
  closed_same j there none = closed_from (length nodes) j (omega arith) there none

-- the current leaf of a stack is changed
module _ (nodes new : List Node) (current : Place) (changed : IsChanged nodes new current.leaf) where
  beside_same : (second : NodeId) (deeper : List Place) → IsOpenLeaf nodes second.number → IsNone second.number (current ∷ deeper) → tree_at new second.number ≡ tree_at nodes second.number
  beside_same second deeper other apart = open_same nodes new current.leaf changed second.number other (λ same. apart.0 (sym same))

  pub first_same : (i : ℕ) (d : Decision) (first second : NodeId) → i < length nodes → (node_at nodes i).end ≡ Split d first second → open_leaves (tree_at nodes first.number) ≡ 0 → tree_at new first.number ≡ tree_at nodes first.number
  first_same i d first second there is shut = closed_same nodes new current.leaf changed first.number (changed.linked.children i d first second there is).first_there shut

  -- both trees at a split on the way, where the way goes first, and where it goes second
  pub took_trees : (i : ℕ) (d : Decision) (first second : NodeId) (deeper : List Place) → i < length nodes → (node_at nodes i).end ≡ Split d first second → IsOpenLeaf nodes second.number → IsNone second.number (current ∷ deeper) → tree_at new i ≡ trees.Split (node_at nodes i).block d (tree_at new first.number) (tree_at nodes second.number)
  took_trees i d first second deeper there is other apart = same_split nodes new current.leaf changed i d first second there is ∙ ap (λ t. trees.Split (node_at nodes i).block d (tree_at new first.number) t) (beside_same second deeper other apart)

  pub refused_trees : (i : ℕ) (d : Decision) (first second : NodeId) → i < length nodes → (node_at nodes i).end ≡ Split d first second → open_leaves (tree_at nodes first.number) ≡ 0 → tree_at new i ≡ trees.Split (node_at nodes i).block d (tree_at nodes first.number) (tree_at new second.number)
  refused_trees i d first second there is shut = same_split nodes new current.leaf changed i d first second there is ∙ ap (λ t. trees.Split (node_at nodes i).block d t (tree_at new second.number)) (first_same i d first second there is shut)

  -- what holds of the leaf's tree before and after, and goes over to a split above it, holds all the way up
  pub climbed : (R : List Event → trees.Tree → trees.Tree → Type 0) → ((block : List Step) (d : Decision) (above : List Event) (old now other : trees.Tree) → R (Took d ∷ after block above) old now → R above (trees.Split block d old other) (trees.Split block d now other)) → ((block : List Step) (d : Decision) (above : List Event) (old now other : trees.Tree) → R (Refused d ∷ after block above) old now → R above (trees.Split block d other old) (trees.Split block d other now)) → R current.path (tree_at nodes current.leaf) (tree_at new current.leaf) → (i : ℕ) (history : List Event) (waiting : List Place) → Stack nodes i history current waiting → R history (tree_at nodes i) (tree_at new i)
  climbed R took refused holds i history waiting (at_leaf here is none) = subst (λ (p : Place). R p.path (tree_at nodes p.leaf) (tree_at new p.leaf)) is holds
  climbed R took refused holds i history waiting (in_first d first second deeper there is other apart below list) =
      let up = climbed R took refused holds first.number _ deeper below in
      subst (λ t. R history t (tree_at new i)) (sym (as_split nodes i d first second changed.linked there is))
      (subst (λ t. R history (trees.Split (node_at nodes i).block d (tree_at nodes first.number) (tree_at nodes second.number)) t) (sym (took_trees i d first second deeper there is other apart)) (took _ d history _ _ _ up))
  climbed R took refused holds i history waiting (in_second d first second there is shut below) =
      let up = climbed R took refused holds second.number _ waiting below in
      subst (λ t. R history t (tree_at new i)) (sym (as_split nodes i d first second changed.linked there is))
      (subst (λ t. R history (trees.Split (node_at nodes i).block d (tree_at nodes first.number) (tree_at nodes second.number)) t) (sym (refused_trees i d first second there is shut)) (refused _ d history _ _ _ up))

-- below the root of a stack a leaf is open
pub some_open : (nodes : List Node) (i : ℕ) (history : List Event) (current : Place) (waiting : List Place) → IsLinked nodes → Stack nodes i history current waiting → 1 ≤ open_leaves (tree_at nodes i)
some_open nodes i history current waiting linked (at_leaf here is none) = let e = ap open_leaves (as_free nodes i linked here.there here.free) in omega (arith, e)
some_open nodes i history current waiting linked (in_first d first second deeper there is other apart below list) = let e = ap open_leaves (as_split nodes i d first second linked there is) in let h = some_open nodes first.number _ current deeper linked below in omega (arith, e, h)
some_open nodes i history current waiting linked (in_second d first second there is shut below) = let e = ap open_leaves (as_split nodes i d first second linked there is) in let h = some_open nodes second.number _ current waiting linked below in omega (arith, e, h)
