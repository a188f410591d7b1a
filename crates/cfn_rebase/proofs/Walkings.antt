-- A walk goes from node to node.
use Rattle.std.proofs.Common.{◌≡◌, ℕ, ◌+◌, ◌<◌, ◌≤◌, inl, List, [], ◌∷◌, ◌++◌, length, reverse, refl, sym, ap, ◌∙◌, subst, arith, append_assoc, Vec, Global}
use Rattle.std.proofs.lemmas.List.{reverse-append}
use Rattle.std.specs.Prelude.{None, Bool, true, false, if◌then◌else◌, vec_len}
use Rattle.cfn_model.specs.declared.step.Step.{Step}
use Rattle.cfn_model.specs.declared.step.Decision.{Decision}
use Rattle.cfn_model.specs.declared.step.Event.{Event}
use Rattle.cfn_model.specs.declared.step.Event.TheVariants.{Did, Took, Refused}
use Rattle.cfn_model.specs.Network.{Network}
use Rattle.cfn_model.specs.Steps.{IsDecision, after}
use Rattle.cfn_model.specs.Tree as trees
use Rattle.cfn_model.specs.Tree.{IsStrictSplit}
use Rattle.cfn_proof.specs.declared.path.Side.{Side}
use Rattle.cfn_proof.specs.declared.path.Side.TheVariants.{Holds, Fails}
use Rattle.cfn_proof.specs.declared.tree.NodeId.{NodeId}
use Rattle.cfn_proof.specs.declared.tree.End.{End}
use Rattle.cfn_proof.specs.declared.tree.End.TheVariants.{Free, Shut, Split}
use Rattle.cfn_proof.specs.declared.tree.Node.{Node}
use Rattle.cfn_proof.specs.Legs.{event_of}
use Rattle.cfn_proof.specs.Nodes.{node_at, open_node, tree_at, tree_of, with_children, IsLinked, leave_at, close_at, split_behind_at}
use Rattle.cfn_proof.proofs.CallerLemmas.{tree_at_is}
use Rattle.cfn_store.specs.Marking.{IsBehind}
use Rattle.cfn_store.specs.Standing.{Standing, history}
use Rattle.cfn_mending.specs.Keeping.{IsFront, Kept}
use Rattle.cfn_rebase.specs.declared.walk.Waiting.{Waiting}
use Rattle.cfn_rebase.specs.declared.walk.Walk.{Walk}
use Rattle.cfn_rebase.specs.Fronts.{IsCutFront, IsEnding}
use Rattle.cfn_rebase.specs.Making.{decision_of}
use Rattle.cfn_rebase.specs.Walking.{Due, at_free, leaves_of, IsOwed, AreBehind, IsWalking, Walks, IsAt, IsAtNode, weight, weights}
use Rattle.cfn_rebase.proofs.Keepings.{all_kept, left, closed, divided, due_at, with_sides, side_first, side_second}

-- ---- where it begins

pub starts : (P : Network) (k : ℕ) (old nodes : List Node) (s : Standing) → s.network ≡ P → s.base ≡ [] → nodes ≡ open_node None ∷ [] → IsWalking P k old nodes (λ j. due_at s.base (tree_of old)) s (0 ∷ []) []
starts P k old nodes s network base is = subst (λ ns. IsWalking P k old ns (λ j. due_at s.base (tree_of old)) s (0 ∷ []) []) (sym is) (record {
  network = network;
  keeps = at_free (omega arith) refl (ap (λ p. due_at p (tree_of old)) base);
  rest = λ i there free. inl (inl (omega (arith, there)));
  leaves = (omega arith, refl, (λ in_it. in_it), tt);
  owed = tt;
  behind = tt;
})

-- ---- from place to place

behind_later : (s next : Standing) (ws : List Waiting) (later : List Event) → s.network ≡ next.network → history next ≡ later ++ history s → AreBehind s ws → AreBehind next ws
behind_later s next [] later network at behind = tt
behind_later s next (w ∷ ws) later network at behind =
    (record { network = behind.0.network ∙ network; later = later ++ behind.0.later; path = at ∙ ap (λ h. later ++ h) behind.0.path ∙ sym (append_assoc later behind.0.later (history w.spot)) }, behind.1)

after_later : (block : List Step) (path : List Event) → (later : List Event) × (after block path ≡ later ++ path)
after_later [] path = ([], refl)
after_later (step ∷ block) path = let rest = after_later block (Did step ∷ path) in (rest.0 ++ Did step ∷ [], rest.1 ∙ sym (append_assoc rest.0 (Did step ∷ []) path))

-- a side that waited is entered
pub entered : (P : Network) (k : ℕ) (old nodes : List Node) (due : ℕ → Due) (s next : Standing) (w : Waiting) (ws : List Waiting) → IsWalking P k old nodes due s (leaves_of (w ∷ ws)) (w ∷ ws) → next.network ≡ P → next.base ≡ event_of w.side ∷ history w.spot → next.block ≡ [] → IsWalking P k old nodes due next (w.leaf.number ∷ leaves_of ws) ws
entered P k old nodes due s next w ws is network base block = record {
  network = network;
  keeps = is.keeps;
  rest = is.rest;
  leaves = is.leaves;
  owed = is.owed.1;
  behind = behind_later w.spot next ws (event_of w.side ∷ []) (is.behind.0.network ∙ is.network ∙ sym network) (ap (λ b. after b next.base) block ∙ base) is.behind.1;
}

-- the steps of a node are made
pub fronted : (P : Network) (k : ℕ) (old nodes : List Node) (due : ℕ → Due) (s next : Standing) (numbers : List ℕ) (ws : List Waiting) → IsWalking P k old nodes due s numbers ws → s.block ≡ [] → next.network ≡ s.network → next.base ≡ s.base → IsWalking P k old nodes due next numbers ws
fronted P k old nodes due s next numbers ws is none network base =
    let later = after_later next.block next.base in
    record {
      network = network ∙ is.network;
      keeps = is.keeps;
      rest = is.rest;
      leaves = is.leaves;
      owed = is.owed;
      behind = behind_later s next ws later.0 (sym network) (later.1 ∙ ap (λ h. later.0 ++ h) (base ∙ sym (ap (λ b. after b s.base) none))) is.behind;
    }

-- ---- how a node ends

itself : (m t : Standing) → m ≡ t → IsBehind m t
itself m t e = record { network = ap (λ (u : Standing). u.network) e; later = []; path = ap history (sym e) }

pub weight_some : (t : trees.Tree) → 1 ≤ weight t
weight_some (trees.Open block) = omega arith
weight_some (trees.Closed block) = omega arith
weight_some (trees.Split block d first second) = omega arith

module _ (P : Network) (k : ℕ) (old nodes : List Node) (due : ℕ → Due) (s : Standing) (id l : ℕ) (ws : List Waiting) (w : IsWalking P k old nodes due s (l ∷ leaves_of ws) ws)
    (here : due l ≡ record { path = s.base; old = tree_at old id }) (there : id < length old) (linked : IsLinked old) (block : List Step) (block_is : block ≡ s.block) where
  path_is : (due l).path ≡ s.base
  path_is = ap (λ (d : Due). d.path) here

  tree_is : (end : End) → (node_at old id).end ≡ end → tree_at old id ≡ with_children (node_at old id).block end (tree_at old)
  tree_is end is = tree_at_is old id linked there ∙ ap (λ (e : End). with_children (node_at old id).block e (tree_at old)) is

  old_is : (end : End) → (node_at old id).end ≡ end → (due l).old ≡ with_children (node_at old id).block end (tree_at old)
  old_is end is = ap (λ (d : Due). d.old) here ∙ tree_is end is

  as_due : (new : List Step → trees.Tree) → Kept P s.base k (with_children (node_at old id).block (node_at old id).end (tree_at old)) (new s.block) → Kept P (due l).path k (due l).old (new block)
  as_due new kept = subst (λ b. Kept P (due l).path k (due l).old (new b)) (sym block_is) (subst (λ p. Kept P p k (due l).old (new s.block)) (sym path_is) (subst (λ t. Kept P s.base k t (new s.block)) (sym (old_is (node_at old id).end refl)) kept))

  pub ends_open : IsEnding P s.base k (node_at old id) s.block Free → IsWalking P k old (leave_at nodes l block) due s (leaves_of ws) ws
  ends_open kept = left P k old nodes due s l (leaves_of ws) ws w block (as_due (λ b. trees.Open b) (kept (tree_at old)))

  pub ends_closed : IsEnding P s.base k (node_at old id) s.block Shut → IsWalking P k old (close_at nodes l block) due s (leaves_of ws) ws
  ends_closed kept = closed P k old nodes due s l (leaves_of ws) ws w block (as_due (λ b. trees.Closed b) (kept (tree_at old)))

  module _ (d : Decision) (first second : NodeId) (ending : IsEnding P s.base k (node_at old id) s.block (Split d first second)) (a b : Waiting)
      (a_leaf : a.leaf.number ≡ length nodes) (b_leaf : b.leaf.number ≡ length nodes + 1) (a_old : a.old ≡ first) (b_old : b.old ≡ second)
      (a_side : a.side ≡ Holds d) (b_side : b.side ≡ Fails d) (a_spot : a.spot ≡ s) (b_spot : b.spot ≡ s) where
    is_split : (due l).old ≡ trees.Split (node_at old id).block d (tree_at old first.number) (tree_at old second.number)
    is_split = old_is (Split d first second) ending.0

    front : IsFront P (due l).path k (node_at old id).block block []
    front = subst (λ p. IsFront P p k (node_at old id).block block []) (sym path_is) (subst (λ c. IsFront P s.base k (node_at old id).block c []) (sym block_is) ending.1)

    strict : IsStrictSplit P (after block (due l).path) d
    strict = subst (λ p. IsStrictSplit P (after block p) d) (sym path_is) (subst (λ c. IsStrictSplit P (after c s.base) d) (sym block_is) ending.3)

    stands : after block (due l).path ≡ history s
    stands = ap (λ p. after block p) path_is ∙ ap (λ c. after c s.base) block_is

    abbrev new_due : ℕ → Due
    new_due = with_sides due (length nodes) (due_at (Took d ∷ after block (due l).path) (tree_at old first.number)) (due_at (Refused d ∷ after block (due l).path) (tree_at old second.number))

    owes_a : IsOwed P old new_due a
    owes_a = record {
      there = subst (λ (n : NodeId). n.number < length old) (sym a_old) (linked.children id d first second there ending.0).first_there;
      is = ap new_due a_leaf ∙ side_first due (length nodes) _ _
          ∙ ap (λ h. due_at (Took d ∷ h) (tree_at old first.number)) (stands ∙ ap history (sym a_spot))
          ∙ ap (λ (e : Side). due_at (event_of e ∷ history a.spot) (tree_at old first.number)) (sym a_side)
          ∙ ap (λ (n : NodeId). due_at (event_of a.side ∷ history a.spot) (tree_at old n.number)) (sym a_old);
      decision = subst (λ (e : Side). IsDecision P (decision_of e)) (sym a_side) ending.2;
    }

    owes_b : IsOwed P old new_due b
    owes_b = record {
      there = subst (λ (n : NodeId). n.number < length old) (sym b_old) (linked.children id d first second there ending.0).second_there;
      is = ap new_due b_leaf ∙ side_second due (length nodes) _ _
          ∙ ap (λ h. due_at (Refused d ∷ h) (tree_at old second.number)) (stands ∙ ap history (sym b_spot))
          ∙ ap (λ (e : Side). due_at (event_of e ∷ history b.spot) (tree_at old second.number)) (sym b_side)
          ∙ ap (λ (n : NodeId). due_at (event_of b.side ∷ history b.spot) (tree_at old n.number)) (sym b_old);
      decision = subst (λ (e : Side). IsDecision P (decision_of e)) (sym b_side) ending.2;
    }

    behind : AreBehind s (a ∷ b ∷ ws)
    behind = (itself a.spot s a_spot, (itself b.spot a.spot (b_spot ∙ sym a_spot), subst (λ (u : Standing). AreBehind u ws) (sym b_spot) w.behind))

    ends_split : IsWalking P k old (split_behind_at nodes l block d) new_due s (leaves_of (a ∷ b ∷ ws)) (a ∷ b ∷ ws)
    ends_split = divided P k old nodes due s l ws w block (node_at old id).block d (tree_at old first.number) (tree_at old second.number) is_split front ending.2 strict a b a_leaf b_leaf owes_a owes_b behind

    pub fewer : weights old (a ∷ b ∷ ws) < weight (tree_at old id) + weights old ws
    fewer =
        let t = ap weight (tree_is (Split d first second) ending.0) in
        let one = ap (λ (n : NodeId). weight (tree_at old n.number)) a_old in
        let two = ap (λ (n : NodeId). weight (tree_at old n.number)) b_old in
        omega (arith, t, one, two)

    pub ends_parted : (new : ℕ → Due) × IsWalking P k old (split_behind_at nodes l block d) new s (leaves_of (a ∷ b ∷ ws)) (a ∷ b ∷ ws)
    ends_parted = (new_due, ends_split)

-- the newest of those that wait, which are kept the other way round
pub newest : (items rest : List Waiting) (w : Waiting) → items ≡ rest ++ w ∷ [] → reverse items ≡ w ∷ reverse rest
newest items rest w is = ap reverse is ∙ reverse-append rest (w ∷ [])

pub two_more : (items first last : List Waiting) (a b : Waiting) → first ≡ items ++ b ∷ [] → last ≡ first ++ a ∷ [] → reverse last ≡ a ∷ b ∷ reverse items
two_more items first last a b one two = newest last first a two ∙ ap (λ l. a ∷ l) (newest first items b one)

pub none_wait : (ws : Vec Waiting Global) → vec_len ws ≡ 0 → ws.items ≡ []
none_wait ws none = empty ws.items (let len = ws.ok.0 in omega (arith, len, none))
  where
    empty : (items : List Waiting) → length items ≡ 0 → items ≡ []
    empty [] h = refl
    empty (w ∷ items) h = absurd (omega (arith, h))

-- how far a block is kept, where the store has gone on along it
pub cut_moved : (s next : Standing) (k : ℕ) (block : List Step) (whole : Bool) → next.network ≡ s.network → next.base ≡ s.base → IsCutFront s.network s.base k block next.block whole → IsCutFront next.network next.base k block next.block whole
cut_moved s next k block whole network base is = subst (λ b. IsCutFront next.network b k block next.block whole) (sym base) (subst (λ P. IsCutFront P s.base k block next.block whole) (sym network) is)

-- the place of an old node, where its steps are made
pub node_ends : (k : ℕ) (old : List Node) (w : Walk) (next : Standing) (id l : ℕ) → IsAtNode w.ground.network k old w id l → next.network ≡ w.ground.network → next.base ≡ w.ground.base → IsAt next.network k old (record w { ground = next }) id l
node_ends k old w next id l is network base = record {
  due = is.at.due;
  walking = subst (λ P. IsWalking P k old w.tree is.at.due next (l ∷ leaves_of (reverse w.waiting.items)) (reverse w.waiting.items)) (sym network)
      (fronted w.ground.network k old w.tree is.at.due w.ground next (l ∷ leaves_of (reverse w.waiting.items)) (reverse w.waiting.items) is.at.walking is.none network base);
  threshold = is.at.threshold;
  here = is.at.here ∙ ap (λ p. due_at p (tree_at old id)) (sym base);
  there = is.at.there;
}

-- a walk by its own network and threshold
pub at_own : (P : Network) (k : ℕ) (old : List Node) (w : Walk) (id l : ℕ) → IsAtNode P k old w id l → IsAtNode w.ground.network w.threshold old w id l
at_own P k old w id l is = subst (λ m. IsAtNode w.ground.network m old w id l) (sym is.at.threshold) (subst (λ Q. IsAtNode Q k old w id l) (sym is.at.walking.network) is)

pub walks_own : (P : Network) (k : ℕ) (old : List Node) (w : Walk) → Walks P k old w → Walks w.ground.network w.threshold old w
walks_own P k old w is = subst (λ m. Walks w.ground.network m old w) (sym is.threshold) (subst (λ Q. Walks Q k old w) (sym is.walking.network) is)

pub walks_as : (P : Network) (k : ℕ) (old : List Node) (w now : Walk) → w.ground.network ≡ P → w.threshold ≡ k → Walks w.ground.network w.threshold old now → Walks P k old now
walks_as P k old w now network threshold is = subst (λ m. Walks P m old now) threshold (subst (λ Q. Walks Q w.threshold old now) network is)

pub walk_ends : (P : Network) (k : ℕ) (old : List Node) (w : Walk) → IsLinked w.tree → Walks P k old w → w.waiting.items ≡ [] → Kept P [] k (tree_of old) (tree_of w.tree)
walk_ends P k old w linked is none = all_kept P k old w.tree is.due w.ground linked (subst (λ ws. IsWalking P k old w.tree is.due w.ground (leaves_of (reverse ws)) (reverse ws)) none is.walking)

-- where no side waits any more
pub falls : (b m : Bool) (new old : ℕ) → m ≡ true → (b ≡ true → new < old) → (b ≡ false → new ≡ 0) → (if b then 1 else 0) + new < (if m then 1 else 0) + old
falls true true new old is less none = (let l = less refl in omega (arith, l))
falls false true new old is less none = (let e = none refl in omega (arith, e))
falls b false new old is less none = absurd (let e : false ≡ true = is in cc)
