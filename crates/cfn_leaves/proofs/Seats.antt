-- The leaves of a tree, numbered in the order of its text, stand where the table has them.
use Rattle.std.proofs.Common.{◌≡◌, ℕ, zero, suc, ◌+◌, ◌-◌, ◌<◌, ◌≤◌, List, [], ◌∷◌, ◌++◌, map, length, refl, sym, ap, ap₂, ◌∙◌, subst, arith, Option, Some, All, append_assoc, length-append}
use Rattle.std.proofs.lemmas.List.{length-map, map-append}
use Rattle.std.proofs.lemmas.List.Elements.{All-nil, All-cons, All-append}
use Rattle.cfn_model.specs.declared.step.Event.{Event}
use Rattle.cfn_model.specs.declared.step.Event.TheVariants.{Took, Refused}
use Rattle.cfn_model.specs.Network.{Network}
use Rattle.cfn_model.specs.Sums.{floor}
use Rattle.cfn_model.specs.Steps.{after}
use Rattle.cfn_model.specs.Tree.{open_leaves}
use Rattle.cfn_proof.specs.declared.tree.End.{End}
use Rattle.cfn_proof.specs.declared.tree.End.TheVariants as ends
use Rattle.cfn_proof.specs.declared.tree.Node.{Node}
use Rattle.cfn_proof.specs.Nodes.{node_at, tree_at, with_children, IsLinked, moved, moved_end, graft_at}
use Rattle.cfn_proof.proofs.CallerLemmas.{tree_at_is, graft_at-moved, graft_at-same, length-graft_at}
use Rattle.cfn_machine.specs.Pool.{Mark, Free, PoolTree, Leaf, Shut, Fork, behind, numbered}
use Rattle.cfn_machine.proofs.CallerLemmas.{after_append}
use Rattle.cfn_leaves.specs.declared.entry.Entry.{Entry}
use Rattle.cfn_leaves.specs.declared.walk.Spot.{Spot}
use Rattle.cfn_leaves.specs.Standing.{entry_at, entry, Stands}
use Rattle.cfn_leaves.specs.Walked.{lifts, spots_with, spots_at}
use Rattle.cfn_leaves.specs.Placed.{placed}
use Rattle.cfn_leaves.proofs.Walks.{floor_after}

-- what stands in the middle of a table
pub middle : (front : List (Option Entry)) (o : Option Entry) (back : List (Option Entry)) (n : ℕ) → length front ≡ n → entry_at (front ++ o ∷ back) n ≡ o
middle [] o back zero len = refl
middle [] o back (suc n) len = absurd (omega (arith, len))
middle (f ∷ front) o back zero len = absurd (omega (arith, len))
middle (f ∷ front) o back (suc n) len = middle front o back n (omega (arith, len))

pub unmoved : (j : ℕ) → moved 0 1 j ≡ j
unmoved zero = refl
unmoved (suc m) = omega arith

module _ (P : Network) (nodes : List Node) (linked : IsLinked nodes) where
  at_end : (i : ℕ) (e : End) → i < length nodes → (node_at nodes i).end ≡ e → tree_at nodes i ≡ with_children (node_at nodes i).block e (tree_at nodes)
  at_end i e there is = tree_at_is nodes i linked there ∙ ap (λ e. with_children (node_at nodes i).block e (tree_at nodes)) is

  -- as many as the tree has
  count_by : (deep i low : ℕ) → i < length nodes → length nodes ≤ i + suc deep →
      ((c l : ℕ) → c < length nodes → length nodes ≤ c + deep → length (spots_at nodes deep c l) ≡ open_leaves (tree_at nodes c)) →
      (e : End) → (node_at nodes i).end ≡ e → length (spots_with i low (node_at nodes i).end (spots_at nodes deep)) ≡ open_leaves (tree_at nodes i)
  count_by deep i low there far below ends.Free is = ap (λ e. length (spots_with i low e (spots_at nodes deep))) is ∙ sym (ap open_leaves (at_end i ends.Free there is))
  count_by deep i low there far below ends.Shut is = ap (λ e. length (spots_with i low e (spots_at nodes deep))) is ∙ sym (ap open_leaves (at_end i ends.Shut there is))
  count_by deep i low there far below (ends.Split d first second) is =
      let family = linked.children i d first second there is in
      ap (λ e. length (spots_with i low e (spots_at nodes deep))) is
      ∙ length-append (spots_at nodes deep first.number low) (spots_at nodes deep second.number low)
      ∙ ap₂ (λ f s. f + s) (below first.number low family.first_there (omega (arith, far, family.first_behind))) (below second.number low family.second_there (omega (arith, far, family.second_behind)))
      ∙ sym (ap open_leaves (at_end i (ends.Split d first second) there is))

  pub spots_count : (deep i low : ℕ) → i < length nodes → length nodes ≤ i + deep → length (spots_at nodes deep i low) ≡ open_leaves (tree_at nodes i)
  spots_count zero i low there far = absurd (omega (arith, there, far))
  spots_count (suc deep) i low there far = count_by deep i (low + lifts (node_at nodes i).block) there far (λ c l h f. spots_count deep c l h f) (node_at nodes i).end refl

  -- their nodes are there
  within_by : (deep i low : ℕ) → i < length nodes → ((c l : ℕ) → c < length nodes → All (λ (s : Spot). s.node.number < length nodes) (spots_at nodes deep c l)) →
      (e : End) → (node_at nodes i).end ≡ e → All (λ (s : Spot). s.node.number < length nodes) (spots_with i low (node_at nodes i).end (spots_at nodes deep))
  within_by deep i low there below ends.Free is =
      subst (λ e. All (λ (s : Spot). s.node.number < length nodes) (spots_with i low e (spots_at nodes deep))) (sym is) (All-cons (λ (s : Spot). s.node.number < length nodes) (record { node = record { number = i }; floor = low }) [] there (All-nil (λ (s : Spot). s.node.number < length nodes)))
  within_by deep i low there below ends.Shut is =
      subst (λ e. All (λ (s : Spot). s.node.number < length nodes) (spots_with i low e (spots_at nodes deep))) (sym is) (All-nil (λ (s : Spot). s.node.number < length nodes))
  within_by deep i low there below (ends.Split d first second) is =
      let family = linked.children i d first second there is in
      subst (λ e. All (λ (s : Spot). s.node.number < length nodes) (spots_with i low e (spots_at nodes deep))) (sym is)
      (All-append (λ (s : Spot). s.node.number < length nodes) (spots_at nodes deep first.number low) (spots_at nodes deep second.number low) (below first.number low family.first_there) (below second.number low family.second_there))

  pub spots_within : (deep i low : ℕ) → i < length nodes → All (λ (s : Spot). s.node.number < length nodes) (spots_at nodes deep i low)
  spots_within zero i low there = All-nil (λ (s : Spot). s.node.number < length nodes)
  spots_within (suc deep) i low there = within_by deep i (low + lifts (node_at nodes i).block) there (λ c l h. spots_within deep c l h) (node_at nodes i).end refl

  -- and the table has them
  abbrev Seated : ℕ → ℕ → Type 0
  Seated deep i = (low next : ℕ) (history : List Event) (table front back : List (Option Entry)) → i < length nodes → length nodes ≤ i + deep → low ≡ floor P history →
      table ≡ front ++ (map (placed 0 1) (spots_at nodes deep i low) ++ back) → length front ≡ next → Stands P nodes table i history (numbered next (tree_at nodes i))

  seated_by : (deep i : ℕ) → ((c : ℕ) → Seated deep c) → (e : End) → (node_at nodes i).end ≡ e → Seated (suc deep) i
  seated_by deep i below ends.Free is low next history table front back there far low_is table_is len =
      let block = (node_at nodes i).block in
      let here = low + lifts block in
      let own : spots_with i here (node_at nodes i).end (spots_at nodes deep) ≡ record { node = record { number = i }; floor = here } ∷ [] = ap (λ e. spots_with i here e (spots_at nodes deep)) is in
      let read : entry_at table next ≡ Some (entry (moved 0 1 i) Free here) =
      ap (λ t. entry_at t next) (table_is ∙ ap (λ s. front ++ (map (placed 0 1) s ++ back)) own) ∙ middle front (Some (entry (moved 0 1 i) Free here)) back next len in
      subst (λ t. Stands P nodes table i history (numbered next t)) (sym (at_end i ends.Free there is))
      (there, refl, is, read ∙ ap₂ (λ j f. Some (entry j Free f)) (unmoved i) (ap (λ l. l + lifts block) low_is ∙ sym (floor_after P block history)))
  seated_by deep i below ends.Shut is low next history table front back there far low_is table_is len =
      subst (λ t. Stands P nodes table i history (numbered next t)) (sym (at_end i ends.Shut there is)) (there, refl, is)
  seated_by deep i below (ends.Split d first second) is low next history table front back there far low_is table_is len =
      let block = (node_at nodes i).block in
      let here = low + lifts block in
      let here_is : here ≡ floor P (after block history) = ap (λ l. l + lifts block) low_is ∙ sym (floor_after P block history) in
      let family = linked.children i d first second there is in
      let one = spots_at nodes deep first.number here in
      let two = spots_at nodes deep second.number here in
      let whole : table ≡ front ++ (map (placed 0 1) one ++ (map (placed 0 1) two ++ back)) =
      table_is ∙ ap (λ e. front ++ (map (placed 0 1) (spots_with i here e (spots_at nodes deep)) ++ back)) is
      ∙ ap (λ l. front ++ (l ++ back)) (map-append (placed 0 1) one two) ∙ ap (λ l. front ++ l) (append_assoc (map (placed 0 1) one) (map (placed 0 1) two) back) in
      let count = spots_count deep first.number here family.first_there (omega (arith, far, family.first_behind)) in
      let left = below first.number here next (Took d ∷ after block history) table front (map (placed 0 1) two ++ back) family.first_there (omega (arith, far, family.first_behind)) (omega (arith, here_is)) whole len in
      let right = below second.number here (next + open_leaves (tree_at nodes first.number)) (Refused d ∷ after block history) table (front ++ map (placed 0 1) one) back family.second_there (omega (arith, far, family.second_behind)) (omega (arith, here_is))
      (whole ∙ sym (append_assoc front (map (placed 0 1) one) (map (placed 0 1) two ++ back)))
      (omega (arith, length-append front (map (placed 0 1) one), length-map one (placed 0 1), count, len)) in
      subst (λ t. Stands P nodes table i history (numbered next t)) (sym (at_end i (ends.Split d first second) there is)) (there, refl, (first, second, is, left, right))

  pub seated : (deep i : ℕ) → Seated deep i
  seated zero i low next history table front back there far low_is table_is len = absurd (omega (arith, there, far))
  seated (suc deep) i low next history table front back there far low_is table_is len =
      seated_by deep i (λ c l k h t f b inside enough is same size. seated deep c l k h t f b inside enough is same size) (node_at nodes i).end refl low next history table front back there far low_is table_is len

-- a piece's leaves stand where its nodes stand behind those of a tree
module _ (P : Network) (nodes : List Node) (i : ℕ) (piece : List Node) (linked : IsLinked piece) (there : i < length nodes) (own more : List (Option Entry))
    (entries : (m a : ℕ) (k : Mark) (low : ℕ) → entry_at own m ≡ Some (entry a k low) → entry_at more m ≡ Some (entry (moved i (length nodes) a) k low)) where
  n : ℕ
  n = length nodes

  late : (m : ℕ) → suc m < length piece → n + m < length (graft_at nodes i piece)
  unfolding n
  late m h = omega (arith, length-graft_at nodes i piece there linked.some, h)

  next_is : (c : ℕ) → 0 < c → c ≡ suc (c - 1)
  next_is c some = omega (arith, some)

  moves_on : (tree : PoolTree) (m : ℕ) (history : List Event) → Stands P piece own (suc m) history tree → Stands P (graft_at nodes i piece) more (moved i (length nodes) (suc m)) history tree
  unfolding n
  moves_on (Leaf k mark block) m history stands =
      let at = graft_at-moved nodes i piece there linked.some m stands.0 in
      (late m stands.0, ap (λ (x : Node). x.block) at ∙ stands.1, ap (λ (x : Node). x.end) at ∙ ap (moved_end i (length nodes)) stands.2, entries k (suc m) mark (floor P (after block history)) stands.3)
  moves_on (Shut block) m history stands =
      let at = graft_at-moved nodes i piece there linked.some m stands.0 in
      (late m stands.0, ap (λ (x : Node). x.block) at ∙ stands.1, ap (λ (x : Node). x.end) at ∙ ap (moved_end i (length nodes)) stands.2)
  moves_on (Fork block d first second) m history stands =
      let at = graft_at-moved nodes i piece there linked.some m stands.0 in
      let split = stands.2 in
      let family = linked.children (suc m) d split.0 split.1 stands.0 split.2 in
      let one = next_is split.0.number (omega (arith, family.first_behind)) in
      let two = next_is split.1.number (omega (arith, family.second_behind)) in
      let left = moves_on first (split.0.number - 1) (Took d ∷ after block history) (subst (λ c. Stands P piece own c (Took d ∷ after block history) first) one split.3) in
      let right = moves_on second (split.1.number - 1) (Refused d ∷ after block history) (subst (λ c. Stands P piece own c (Refused d ∷ after block history) second) two split.4) in (
        late m stands.0,
        ap (λ (x : Node). x.block) at ∙ stands.1,
        (
          record { number = moved i (length nodes) split.0.number },
          record { number = moved i (length nodes) split.1.number },
          ap (λ (x : Node). x.end) at ∙ ap (moved_end i (length nodes)) split.2,
          subst (λ c. Stands P (graft_at nodes i piece) more (moved i (length nodes) c) (Took d ∷ after block history) first) (sym one) left,
          subst (λ c. Stands P (graft_at nodes i piece) more (moved i (length nodes) c) (Refused d ∷ after block history) second) (sym two) right,
        ),
      )

  moves : (j : ℕ) (history : List Event) (tree : PoolTree) → 0 < j → Stands P piece own j history tree → Stands P (graft_at nodes i piece) more (moved i (length nodes) j) history tree
  moves j history tree some stands =
      let is = next_is j some in
      subst (λ c. Stands P (graft_at nodes i piece) more (moved i (length nodes) c) history tree) (sym is) (moves_on tree (j - 1) history (subst (λ c. Stands P piece own c history tree) is stands))

  -- the root stands behind the leaf's own block
  pub root_moves : (path history : List Event) (tree : PoolTree) → path ≡ after (node_at nodes i).block history → Stands P piece own 0 path tree → Stands P (graft_at nodes i piece) more i history (behind (node_at nodes i).block tree)
  unfolding n
  root_moves path history (Leaf k mark block) path_is stands =
      let at = graft_at-same nodes i piece there linked.some in
      let low : floor P (after block path) ≡ floor P (after ((node_at nodes i).block ++ block) history) = ap (λ h. floor P (after block h)) path_is ∙ ap (floor P) (sym (after_append (node_at nodes i).block block history)) in (
        omega (arith, length-graft_at nodes i piece there linked.some, there, linked.some),
        ap (λ (x : Node). x.block) at ∙ ap (λ b. (node_at nodes i).block ++ b) stands.1,
        ap (λ (x : Node). x.end) at ∙ ap (moved_end i (length nodes)) stands.2,
        entries k 0 mark (floor P (after block path)) stands.3 ∙ ap (λ f. Some (entry i mark f)) low,
      )
  root_moves path history (Shut block) path_is stands =
      let at = graft_at-same nodes i piece there linked.some in
      (omega (arith, length-graft_at nodes i piece there linked.some, there, linked.some), ap (λ (x : Node). x.block) at ∙ ap (λ b. (node_at nodes i).block ++ b) stands.1, ap (λ (x : Node). x.end) at ∙ ap (moved_end i (length nodes)) stands.2)
  root_moves path history (Fork block d first second) path_is stands =
      let at = graft_at-same nodes i piece there linked.some in
      let split = stands.2 in
      let family = linked.children 0 d split.0 split.1 stands.0 split.2 in
      let path' : after block path ≡ after ((node_at nodes i).block ++ block) history = ap (after block) path_is ∙ sym (after_append (node_at nodes i).block block history) in (
        omega (arith, length-graft_at nodes i piece there linked.some, there, linked.some),
        ap (λ (x : Node). x.block) at ∙ ap (λ b. (node_at nodes i).block ++ b) stands.1,
        (
          record { number = moved i (length nodes) split.0.number },
          record { number = moved i (length nodes) split.1.number },
          ap (λ (x : Node). x.end) at ∙ ap (moved_end i (length nodes)) split.2,
          subst (λ h. Stands P (graft_at nodes i piece) more (moved i (length nodes) split.0.number) (Took d ∷ h) first) path' (moves split.0.number (Took d ∷ after block path) first (omega (arith, family.first_behind)) split.3),
          subst (λ h. Stands P (graft_at nodes i piece) more (moved i (length nodes) split.1.number) (Refused d ∷ h) second) path' (moves split.1.number (Refused d ∷ after block path) second (omega (arith, family.second_behind)) split.4),
        ),
      )
