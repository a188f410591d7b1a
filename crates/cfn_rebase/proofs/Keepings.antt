-- What a change at one leaf makes of the nodes that are kept of an old tree.
use Rattle.std.proofs.Common.{◌≡◌, ◌≢◌, ℕ, ◌+◌, ◌<◌, ◌≤◌, inl, inr, List, [], ◌∷◌, length, refl, sym, ap, ◌∙◌, subst, arith}
use Rattle.std.proofs.lemmas.Bool.{cases_eq}
use Rattle.std.specs.Prelude.{◌==◌, if◌then◌else◌}
use Rattle.cfn_model.specs.declared.step.Step.{Step}
use Rattle.cfn_model.specs.declared.step.Decision.{Decision}
use Rattle.cfn_model.specs.declared.step.Event.{Event}
use Rattle.cfn_model.specs.declared.step.Event.TheVariants.{Took, Refused}
use Rattle.cfn_model.specs.Network.{Network}
use Rattle.cfn_model.specs.Steps.{IsDecision, after}
use Rattle.cfn_model.specs.Tree as trees
use Rattle.cfn_model.specs.Tree.{IsStrictSplit}
use Rattle.cfn_model.proofs.CallerLemmas.{eqb_same, eqb_other}
use Rattle.cfn_proof.specs.declared.tree.End.{End}
use Rattle.cfn_proof.specs.declared.tree.End.TheVariants.{Free, Shut, Split}
use Rattle.cfn_proof.specs.declared.tree.Node.{Node}
use Rattle.cfn_proof.specs.Nodes.{node_at, tree_at, tree_of, with_children, IsFree, IsLinked, leave_at, close_at, split_behind_at}
use Rattle.cfn_proof.proofs.CallerLemmas.{tree_at_is, length-leave_at, leave_at-other, leave_at-same, length-close_at, close_at-other, close_at-same, length-split_behind_at, split_behind_at-first, split_behind_at-other, split_behind_at-same, split_behind_at-second}
use Rattle.cfn_store.specs.Standing.{Standing}
use Rattle.cfn_mending.specs.Keeping.{IsFront, Kept}
use Rattle.cfn_rebase.specs.declared.walk.Waiting.{Waiting}
use Rattle.cfn_rebase.specs.Walking.{Due, Keeps, at_free, at_shut, at_split, IsIn, AreLeaves, leaves_of, IsOwed, AreOwed, AreBehind, IsWalking}

-- ---- a change at one leaf

module _ (P : Network) (k : ℕ) (nodes changed : List Node) (due new : ℕ → Due) (l : ℕ) (free : IsFree nodes l) (grows : length nodes ≤ length changed)
    (others : (j : ℕ) → j < length nodes → j ≢ l → node_at changed j ≡ node_at nodes j) (same : (j : ℕ) → j < length nodes → j ≢ l → new j ≡ due j)
    (here : Keeps P k changed new l (due l).path (due l).old) where
  changes : (i : ℕ) (path : List Event) (old : trees.Tree) → Keeps P k nodes due i path old → Keeps P k changed new i path old
  changes i path old (at_free there frees is) = elim (cases_eq i l) [
    | inl at ↦ subst (λ m. Keeps P k changed new m path old) (sym at) (subst (λ (d : Due). Keeps P k changed new l d.path d.old) (ap due (sym at) ∙ is) here)
    | inr other ↦ at_free (omega (arith, there, grows)) (ap (λ (n : Node). n.end) (others i there other) ∙ frees) (same i there other ∙ is)
  ]
  changes i path old (at_shut there end kept) = elim (cases_eq i l) [
    | inl at ↦ absurd (let e : Free ≡ Shut = sym free ∙ subst (λ m. (node_at nodes m).end ≡ Shut) at end in cc)
    | inr other ↦ (let e = others i there other in at_shut (omega (arith, there, grows)) (ap (λ (n : Node). n.end) e ∙ end) (subst (λ (n : Node). Kept P path k old (trees.Closed n.block)) (sym e) kept))
  ]
  changes i path old (at_split d first second block one two there end is front range strict a b) = elim (cases_eq i l) [
    | inl at ↦ absurd (let e : Free ≡ Split d first second = sym free ∙ subst (λ m. (node_at nodes m).end ≡ Split d first second) at end in cc)
    | inr other ↦ (let e = others i there other in
        at_split d first second block one two (omega (arith, there, grows)) (ap (λ (n : Node). n.end) e ∙ end) is
        (subst (λ (n : Node). IsFront P path k block n.block []) (sym e) front) range (subst (λ (n : Node). IsStrictSplit P (after n.block path) d) (sym e) strict)
        (subst (λ (n : Node). Keeps P k changed new first.number (Took d ∷ after n.block path) one) (sym e) (changes first.number _ one a))
        (subst (λ (n : Node). Keeps P k changed new second.number (Refused d ∷ after n.block path) two) (sym e) (changes second.number _ two b)))
  ]

-- ---- the end

module _ (P : Network) (k : ℕ) (nodes : List Node) (due : ℕ → Due) (linked : IsLinked nodes)
    (rest : (i : ℕ) → i < length nodes → IsFree nodes i → Kept P (due i).path k (due i).old (trees.Open (node_at nodes i).block)) where
  tree_is : (i : ℕ) (end : End) → i < length nodes → (node_at nodes i).end ≡ end → tree_at nodes i ≡ with_children (node_at nodes i).block end (tree_at nodes)
  tree_is i end there is = tree_at_is nodes i linked there ∙ ap (λ (e : End). with_children (node_at nodes i).block e (tree_at nodes)) is

  kept_at : (i : ℕ) (path : List Event) (old : trees.Tree) → Keeps P k nodes due i path old → Kept P path k old (tree_at nodes i)
  kept_at i path old (at_free there free is) =
      subst (λ t. Kept P path k old t) (sym (tree_is i Free there free)) (subst (λ (d : Due). Kept P d.path k d.old (trees.Open (node_at nodes i).block)) is (rest i there free))
  kept_at i path old (at_shut there end kept) = subst (λ t. Kept P path k old t) (sym (tree_is i Shut there end)) kept
  kept_at i path old (at_split d first second block one two there end is front range strict a b) =
      subst (λ t. Kept P path k t (tree_at nodes i)) (sym is)
      ((node_at nodes i).block, [], front, inl (refl, range, strict, (tree_at nodes first.number, tree_at nodes second.number, kept_at first.number _ one a, kept_at second.number _ two b, tree_is i (Split d first second) there end)))

pub all_kept : (P : Network) (k : ℕ) (old nodes : List Node) (due : ℕ → Due) (s : Standing) → IsLinked nodes → IsWalking P k old nodes due s [] [] → Kept P [] k (tree_of old) (tree_of nodes)
all_kept P k old nodes due s linked w = kept_at P k nodes due linked (λ i there free. elim (w.rest i there free) [ inl is ↦ absurd is | inr kept ↦ kept ]) 0 [] (tree_of old) w.keeps

-- ---- numbers of leaves

in_rest : (i l : ℕ) (numbers : List ℕ) → i ≢ l → IsIn i (l ∷ numbers) → IsIn i numbers
in_rest i l numbers other (inl at) = absurd (other at)
in_rest i l numbers other (inr is) = is

in_below : (nodes : List Node) (i : ℕ) (numbers : List ℕ) → AreLeaves nodes numbers → IsIn i numbers → i < length nodes
in_below nodes i [] leaves is = absurd is
in_below nodes i (n ∷ numbers) leaves (inl at) = (let l = leaves.0 in omega (arith, at, l))
in_below nodes i (n ∷ numbers) leaves (inr is) = in_below nodes i numbers leaves.3 is

leaves_stay : (nodes changed : List Node) (l : ℕ) → length nodes ≤ length changed → ((j : ℕ) → j < length nodes → j ≢ l → node_at changed j ≡ node_at nodes j) → (numbers : List ℕ) → (IsIn l numbers → ⊥) → AreLeaves nodes numbers → AreLeaves changed numbers
leaves_stay nodes changed l grows others [] apart leaves = tt
leaves_stay nodes changed l grows others (n ∷ numbers) apart leaves =
    let other : n ≢ l = λ e. apart (inl (sym e)) in
    let there = leaves.0 in
    (omega (arith, there, grows), ap (λ (m : Node). m.end) (others n there other) ∙ leaves.1, leaves.2, leaves_stay nodes changed l grows others numbers (λ is. apart (inr is)) leaves.3)

-- ---- a leaf ends

module _ (P : Network) (k : ℕ) (old nodes changed : List Node) (due : ℕ → Due) (s : Standing) (l : ℕ) (numbers : List ℕ) (waiting : List Waiting) (w : IsWalking P k old nodes due s (l ∷ numbers) waiting)
    (long : length changed ≡ length nodes) (others : (j : ℕ) → j < length nodes → j ≢ l → node_at changed j ≡ node_at nodes j) where
  ends : Keeps P k changed due l (due l).path (due l).old → (IsFree changed l → Kept P (due l).path k (due l).old (trees.Open (node_at changed l).block)) → IsWalking P k old changed due s numbers waiting
  ends here opens = record {
    network = w.network;
    keeps = changes P k nodes changed due due l w.leaves.1 (omega (arith, long)) others (λ j h other. refl) here 0 [] (tree_of old) w.keeps;
    rest = λ i there free. elim (cases_eq i l) [
      | inl at ↦ inr (subst (λ m. Kept P (due m).path k (due m).old (trees.Open (node_at changed m).block)) (sym at) (opens (subst (λ m. IsFree changed m) at free)))
      | inr other ↦ (let was : i < length nodes = omega (arith, there, long) in let e = others i was other in
          elim (w.rest i was (ap (λ (n : Node). n.end) (sym e) ∙ free)) [
            | inl is ↦ inl (in_rest i l numbers other is)
            | inr kept ↦ inr (subst (λ (n : Node). Kept P (due i).path k (due i).old (trees.Open n.block)) (sym e) kept)
          ])
    ];
    leaves = leaves_stay nodes changed l (omega (arith, long)) others numbers w.leaves.2 w.leaves.3;
    owed = w.owed;
    behind = w.behind;
  }

module _ (P : Network) (k : ℕ) (old nodes : List Node) (due : ℕ → Due) (s : Standing) (l : ℕ) (numbers : List ℕ) (waiting : List Waiting) (w : IsWalking P k old nodes due s (l ∷ numbers) waiting) (block : List Step) where
  pub left : Kept P (due l).path k (due l).old (trees.Open block) → IsWalking P k old (leave_at nodes l block) due s numbers waiting
  left kept =
      let there = w.leaves.0 in
      let now = leave_at nodes l block in
      let is = leave_at-same nodes l block there in
      let long = length-leave_at nodes l block there in
      let free : IsFree now l = ap (λ (n : Node). n.end) is ∙ w.leaves.1 in
      ends P k old nodes now due s l numbers waiting w long (λ j h other. leave_at-other nodes l block there j other) (at_free (omega (arith, there, long)) free refl)
      (λ frees. subst (λ (n : Node). Kept P (due l).path k (due l).old (trees.Open n.block)) (sym is) kept)

  pub closed : Kept P (due l).path k (due l).old (trees.Closed block) → IsWalking P k old (close_at nodes l block) due s numbers waiting
  closed kept =
      let there = w.leaves.0 in
      let now = close_at nodes l block in
      let is = close_at-same nodes l block there in
      let long = length-close_at nodes l block there in
      let shut : (node_at now l).end ≡ Shut = ap (λ (n : Node). n.end) is in
      ends P k old nodes now due s l numbers waiting w long (λ j h other. close_at-other nodes l block there j other)
      (at_shut (omega (arith, there, long)) shut (subst (λ (n : Node). Kept P (due l).path k (due l).old (trees.Closed n.block)) (sym is) kept))
      (λ free. absurd (let e : Free ≡ Shut = sym free ∙ shut in cc))

-- ---- a leaf is split

abbrev pub due_at : List Event → trees.Tree → Due
due_at path old = record { path = path; old = old }

abbrev pub with_sides : (ℕ → Due) → ℕ → Due → Due → ℕ → Due
with_sides due n a b j = if j == n then a else (if j == n + 1 then b else due j)

pub side_first : (due : ℕ → Due) (n : ℕ) (a b : Due) → with_sides due n a b n ≡ a
side_first due n a b = ap (λ t. if t then a else (if n == n + 1 then b else due n)) (eqb_same n n refl)

pub side_second : (due : ℕ → Due) (n : ℕ) (a b : Due) → with_sides due n a b (n + 1) ≡ b
side_second due n a b = ap (λ t. if t then a else (if n + 1 == n + 1 then b else due (n + 1))) (eqb_other (n + 1) n (λ e. omega (arith, e))) ∙ ap (λ t. if t then b else due (n + 1)) (eqb_same (n + 1) (n + 1) refl)

pub side_other : (due : ℕ → Due) (n : ℕ) (a b : Due) (j : ℕ) → j < n → with_sides due n a b j ≡ due j
side_other due n a b j l = ap (λ t. if t then a else (if j == n + 1 then b else due j)) (eqb_other j n (λ e. omega (arith, e, l))) ∙ ap (λ t. if t then b else due j) (eqb_other j (n + 1) (λ e. omega (arith, e, l)))

owed_stays : (P : Network) (old nodes : List Node) (due : ℕ → Due) (a b : Due) (waiting : List Waiting) → AreLeaves nodes (leaves_of waiting) → AreOwed P old due waiting → AreOwed P old (with_sides due (length nodes) a b) waiting
owed_stays P old nodes due a b [] leaves owed = tt
owed_stays P old nodes due a b (w ∷ waiting) leaves owed =
    (record { there = owed.0.there; is = side_other due (length nodes) a b w.leaf.number leaves.0 ∙ owed.0.is; decision = owed.0.decision }, owed_stays P old nodes due a b waiting leaves.3 owed.1)

module _ (P : Network) (k : ℕ) (old nodes : List Node) (due : ℕ → Due) (s : Standing) (l : ℕ) (waiting : List Waiting) (w : IsWalking P k old nodes due s (l ∷ leaves_of waiting) waiting)
    (block old_block : List Step) (d : Decision) (one two : trees.Tree) (is : (due l).old ≡ trees.Split old_block d one two) (front : IsFront P (due l).path k old_block block [])
    (range : IsDecision P d) (strict : IsStrictSplit P (after block (due l).path) d) where
  abbrev pub now : List Node
  now = split_behind_at nodes l block d

  abbrev pub sides : ℕ → Due
  sides = with_sides due (length nodes) (due_at (Took d ∷ after block (due l).path) one) (due_at (Refused d ∷ after block (due l).path) two)

  long : length now ≡ length nodes + 2
  long = length-split_behind_at nodes l block d w.leaves.0

  first_free : IsFree now (length nodes)
  first_free = ap (λ (n : Node). n.end) (split_behind_at-first nodes l block d w.leaves.0)

  second_free : IsFree now (length nodes + 1)
  second_free = ap (λ (n : Node). n.end) (split_behind_at-second nodes l block d w.leaves.0)

  other_same : (j : ℕ) → j < length nodes → j ≢ l → node_at now j ≡ node_at nodes j
  other_same j h other = split_behind_at-other nodes l block d w.leaves.0 j h other

  block_is : (node_at now l).block ≡ block
  block_is = ap (λ (n : Node). n.block) (split_behind_at-same nodes l block d w.leaves.0)

  end_is : (node_at now l).end ≡ Split d (record { number = length nodes }) (record { number = length nodes + 1 })
  end_is = ap (λ (n : Node). n.end) (split_behind_at-same nodes l block d w.leaves.0)

  here : Keeps P k now sides l (due l).path (due l).old
  here = at_split d (record { number = length nodes }) (record { number = length nodes + 1 }) old_block one two (let there = w.leaves.0 in omega (arith, there, long)) end_is is
      (subst (λ b. IsFront P (due l).path k old_block b []) (sym block_is) front) range (subst (λ b. IsStrictSplit P (after b (due l).path) d) (sym block_is) strict)
      (subst (λ b. Keeps P k now sides (length nodes) (Took d ∷ after b (due l).path) one) (sym block_is) (at_free (omega (arith, long)) first_free (side_first due (length nodes) _ _)))
      (subst (λ b. Keeps P k now sides (length nodes + 1) (Refused d ∷ after b (due l).path) two) (sym block_is) (at_free (omega (arith, long)) second_free (side_second due (length nodes) _ _)))

  pub divided : (a b : Waiting) → a.leaf.number ≡ length nodes → b.leaf.number ≡ length nodes + 1 → IsOwed P old sides a → IsOwed P old sides b → AreBehind s (a ∷ b ∷ waiting) → IsWalking P k old now sides s (leaves_of (a ∷ b ∷ waiting)) (a ∷ b ∷ waiting)
  divided a b first second owes_a owes_b behind = record {
    network = w.network;
    keeps = changes P k nodes now due sides l w.leaves.1 (omega (arith, long)) other_same (λ j h other. side_other due (length nodes) _ _ j h) here 0 [] (tree_of old) w.keeps;
    rest = λ i there free. elim (cases_eq i l) [
      | inl at ↦ absurd (let e : Free ≡ Split d (record { number = length nodes }) (record { number = length nodes + 1 }) = sym (subst (λ m. IsFree now m) at free) ∙ end_is in cc)
      | inr other ↦ elim (cases_eq i (length nodes)) [
        | inl at ↦ inl (inl (at ∙ sym first))
        | inr not_first ↦ elim (cases_eq i (length nodes + 1)) [
          | inl at ↦ inl (inr (inl (at ∙ sym second)))
          | inr not_second ↦ (let was : i < length nodes = omega (arith, there, long, not_first, not_second) in let e = other_same i was other in
              elim (w.rest i was (ap (λ (n : Node). n.end) (sym e) ∙ free)) [
                | inl is_in ↦ inl (inr (inr (in_rest i l (leaves_of waiting) other is_in)))
                | inr kept ↦ inr (subst (λ (u : Due). Kept P u.path k u.old (trees.Open (node_at now i).block)) (sym (side_other due (length nodes) _ _ i was)) (subst (λ (n : Node). Kept P (due i).path k (due i).old (trees.Open n.block)) (sym e) kept))
              ])
        ]
      ]
    ];
    leaves = (
      omega (arith, first, long),
      subst (λ m. IsFree now m) (sym first) first_free,
      (λ in_it. elim in_it [
        | inl at ↦ omega (arith, at, first, second)
        | inr more ↦ (let below = in_below nodes a.leaf.number (leaves_of waiting) w.leaves.3 more in omega (arith, below, first))
      ]),
      (
        omega (arith, second, long),
        subst (λ m. IsFree now m) (sym second) second_free,
        (λ in_it. let below = in_below nodes b.leaf.number (leaves_of waiting) w.leaves.3 in_it in omega (arith, below, second)),
        leaves_stay nodes now l (omega (arith, long)) other_same (leaves_of waiting) w.leaves.2 w.leaves.3,
      ),
    );
    owed = (owes_a, (owes_b, owed_stays P old nodes due _ _ waiting w.leaves.3 w.owed));
    behind = behind;
  }
