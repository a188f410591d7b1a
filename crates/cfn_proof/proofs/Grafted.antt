-- What a graft adds to a tree, and what stands before its nodes.
use Rattle.std.proofs.Common.{◌≡◌, ℕ, zero, suc, ◌+◌, ◌-◌, ◌<◌, ◌≤◌, ◌^◌, ◌⊎◌, inl, inr, List, [], ◌∷◌, ◌++◌, length, refl, sym, ap, ◌∙◌, subst, arith}
use Rattle.std.proofs.lemmas.Bool.{cases_eq, cases_lt}
use Rattle.cfn_model.specs.declared.step.Step.{Step}
use Rattle.cfn_model.specs.declared.step.Decision.{Decision}
use Rattle.cfn_model.specs.declared.step.Event.{Event}
use Rattle.cfn_model.specs.declared.step.Event.TheVariants.{Took, Refused}
use Rattle.cfn_model.specs.Network.{Network}
use Rattle.cfn_model.specs.Steps.{Run, after}
use Rattle.cfn_model.specs.Tree as trees
use Rattle.cfn_model.specs.Tree.{CanClose, IsStrictSplit, count, splits}
use Rattle.cfn_proof.specs.declared.tree.NodeId.{NodeId}
use Rattle.cfn_proof.specs.declared.tree.End.{End}
use Rattle.cfn_proof.specs.declared.tree.End.TheVariants.{Free, Shut, Split}
use Rattle.cfn_proof.specs.declared.tree.Node.{Node}
use Rattle.cfn_proof.specs.Nodes.{node_at, tree_at, tree_of, with_children, moved, moved_end, moved_node, graft_at, IsLinked, IsFree, Before, at_root, at_first, at_second}
use Rattle.cfn_proof.specs.Local.{ValidNode, StrictNode, IsOfPiece, Replaced, behind, BeforeGraftLaw, CountGraftLaw, SplitsGraftLaw, GraftLaw, ValidGraftLaw, StrictGraftLaw}
use Rattle.cfn_proof.proofs.Bases.{after_behind, after_append, run_append}
use Rattle.cfn_proof.proofs.TreeLemmas.{tree_at_is, from_last}
use Rattle.cfn_proof.proofs.Growth.{Changed, before_old}
use Rattle.cfn_proof.proofs.Histories.{AddsOverSplits, climbed, gained, count_adds, splits_adds, itself, leaf_measure}
use Rattle.cfn_proof.proofs.Grafts.{length-graft_at, graft_at-same, graft_at-other, graft_at-moved, was_split, late_is, late_there, moved_apart, moved_behind, moved_there, changed_by_graft, linked_by_graft}

-- nodes of a piece have one number each
same_node : (i n p q : ℕ) → i < n → moved i n p ≡ moved i n q → p ≡ q
same_node i n p q there e = elim (cases_eq p q) [ inl same ↦ same | inr other ↦ absurd (moved_apart i n p q there other e) ]

-- what stands before a node of the piece
module _ (nodes : List Node) (i : ℕ) (piece : List Node) (linked : IsLinked nodes) (inner : IsLinked piece) (there : i < length nodes) (free : IsFree nodes i) where
  changed : Changed nodes (graft_at nodes i piece) i
  changed = changed_by_graft nodes i piece inner there free

  -- a parent that was in the piece, its root too, and what stands before its end
  record WasParent (parent : ℕ) (above : List Event) : Type 0 where
    pub number : ℕ
    pub within : number < length piece
    pub is : parent ≡ moved i (length nodes) number
    pub inside : List Event
    pub before_inside : Before piece number inside
    pub outside : List Event
    pub before_outside : Before nodes i outside
    pub end_is : after (node_at (graft_at nodes i piece) parent).block above ≡ after (node_at piece number).block inside ++ after (node_at nodes i).block outside

  root_is_parent : (parent : ℕ) (above : List Event) → Before (graft_at nodes i piece) parent above → parent ≡ i → WasParent parent above
  root_is_parent parent above before same = record {
    number = 0;
    within = inner.some;
    is = same;
    inside = [];
    before_inside = at_root refl refl;
    outside = above;
    before_outside = subst (λ p. Before nodes p above) same (before_old nodes (graft_at nodes i piece) i parent above linked changed before (omega (arith, there)));
    end_is =
        ap (λ p. after (node_at (graft_at nodes i piece) p).block above) same
        ∙ ap (λ (n : Node). after n.block above) (graft_at-same nodes i piece there inner.some)
        ∙ after_append (node_at nodes i).block (node_at piece 0).block above
        ∙ after_behind (node_at piece 0).block [] (after (node_at nodes i).block above);
  }

  late_is_parent : (parent : ℕ) (above : List Event) → parent < length (graft_at nodes i piece) → length nodes ≤ parent → ((m : ℕ) → 0 < m → parent ≡ moved i (length nodes) m → IsOfPiece nodes i piece m above) → WasParent parent above
  late_is_parent parent above h late up =
      let m = parent - length nodes in
      let is : parent ≡ length nodes + m = late_is nodes i piece there inner.some parent late in
      let within = late_there nodes i piece there inner.some parent late h in
      let before = up (suc m) (omega arith) is in
      record {
        number = suc m;
        within = within;
        is = is;
        inside = before.inner;
        before_inside = before.inside;
        outside = before.above;
        before_outside = before.before;
        end_is =
            ap (λ p. after (node_at (graft_at nodes i piece) p).block above) is
            ∙ ap (λ (n : Node). after n.block above) (graft_at-moved nodes i piece there inner.some m within)
            ∙ ap (after (node_at piece (suc m)).block) before.is
            ∙ after_behind (node_at piece (suc m)).block before.inner (after (node_at nodes i).block before.above);
      }

  -- a parent that has a child behind the tree's nodes
  parent_was : (parent : ℕ) (d : Decision) (first second : NodeId) (above : List Event) (j : ℕ) → parent < length (graft_at nodes i piece) → (node_at (graft_at nodes i piece) parent).end ≡ Split d first second → Before (graft_at nodes i piece) parent above → (j ≡ first.number) ⊎ (j ≡ second.number) → length nodes ≤ j → ((m : ℕ) → 0 < m → parent ≡ moved i (length nodes) m → IsOfPiece nodes i piece m above) → WasParent parent above
  parent_was parent d first second above j h is before child late up =
      elim (cases_eq parent i) [
        | inl same ↦ root_is_parent parent above before same
        | inr other ↦ elim (cases_lt parent (length nodes)) [
          | inr far ↦ late_is_parent parent above h far up
          | inl old ↦
              (let family = linked.children parent d first second old (ap (λ (n : Node). n.end) (sym (changed.others parent old other)) ∙ is) in
              absurd (elim child [ inl e ↦ omega (arith, e, family.first_there) | inr e ↦ omega (arith, e, family.second_there) ]))
        ]
      ]

  before_moved : (j : ℕ) (history : List Event) → Before (graft_at nodes i piece) j history → (m : ℕ) → 0 < m → j ≡ moved i (length nodes) m → IsOfPiece nodes i piece m history
  before_moved j history (at_root is_root is_empty) m some is = absurd (omega (arith, linked.some, moved_behind i (length nodes) m some))
  before_moved j history (at_first parent d first second above h is_split before is_child is_history) m some is =
      let late : length nodes ≤ j = omega (arith, moved_behind i (length nodes) m some) in
      let up = parent_was parent d first second above j h is_split before (inl is_child) late (before_moved parent above before) in
      let was = was_split nodes i piece there inner.some up.number d first second up.within (subst (λ p. (node_at (graft_at nodes i piece) p).end ≡ Split d first second) up.is is_split) in
      record {
        above = up.outside;
        before = up.before_outside;
        inner = Took d ∷ after (node_at piece up.number).block up.inside;
        inside = at_first up.number d was.one was.two up.inside up.within was.is up.before_inside (same_node i (length nodes) m was.one.number there (sym is ∙ is_child ∙ was.first_is)) refl;
        is = is_history ∙ ap (λ h. Took d ∷ h) up.end_is;
      }
  before_moved j history (at_second parent d first second above h is_split before is_child is_history) m some is =
      let late : length nodes ≤ j = omega (arith, moved_behind i (length nodes) m some) in
      let up = parent_was parent d first second above j h is_split before (inr is_child) late (before_moved parent above before) in
      let was = was_split nodes i piece there inner.some up.number d first second up.within (subst (λ p. (node_at (graft_at nodes i piece) p).end ≡ Split d first second) up.is is_split) in
      record {
        above = up.outside;
        before = up.before_outside;
        inner = Refused d ∷ after (node_at piece up.number).block up.inside;
        inside = at_second up.number d was.one was.two up.inside up.within was.is up.before_inside (same_node i (length nodes) m was.two.number there (sym is ∙ is_child ∙ was.second_is)) refl;
        is = is_history ∙ ap (λ h. Refused d ∷ h) up.end_is;
      }

pub before_graft : BeforeGraftLaw
before_graft nodes i piece j history linked inner there free before = (
  λ old. before_old nodes (graft_at nodes i piece) i j history linked (changed_by_graft nodes i piece inner there free) before old,
  before_moved nodes i piece linked inner there free j history before,
)

-- a node's tree behind a block
behind_children : (block more : List Step) (e : End) (child : ℕ → trees.Tree) → with_children (block ++ more) e child ≡ behind block (with_children more e child)
behind_children block more Free child = refl
behind_children block more Shut child = refl
behind_children block more (Split d first second) child = refl

-- the trees of the piece's nodes stay
module _ (nodes : List Node) (i : ℕ) (piece : List Node) (linked : IsLinked nodes) (inner : IsLinked piece) (there : i < length nodes) (free : IsFree nodes i) (room : length nodes + length piece ≤ 2 ^ 32 + 1) where
  now_linked : IsLinked (graft_at nodes i piece)
  now_linked = linked_by_graft nodes i piece linked inner there free room

  children_moved : (block : List Step) (e : End) → ((d : Decision) (one two : NodeId) → e ≡ Split d one two → (tree_at (graft_at nodes i piece) (moved i (length nodes) one.number) ≡ tree_at piece one.number) × (tree_at (graft_at nodes i piece) (moved i (length nodes) two.number) ≡ tree_at piece two.number)) → with_children block (moved_end i (length nodes) e) (tree_at (graft_at nodes i piece)) ≡ with_children block e (tree_at piece)
  children_moved block Free same = refl
  children_moved block Shut same = refl
  children_moved block (Split d one two) same =
      let s = same d one two refl in
      ap (λ t. trees.Split block d t (tree_at (graft_at nodes i piece) (moved i (length nodes) two.number))) s.0 ∙ ap (λ t. trees.Split block d (tree_at piece one.number) t) s.1

  node_moved : (p : ℕ) → 0 < p → p < length piece → node_at (graft_at nodes i piece) (moved i (length nodes) p) ≡ moved_node i (length nodes) (node_at piece p)
  node_moved zero some h = absurd (omega arith)
  node_moved (suc m) some h = graft_at-moved nodes i piece there inner.some m h

  tree_moved : (p : ℕ) → p < length piece → 0 < p → tree_at (graft_at nodes i piece) (moved i (length nodes) p) ≡ tree_at piece p
  tree_moved = from_last (length piece) (λ p. 0 < p → tree_at (graft_at nodes i piece) (moved i (length nodes) p) ≡ tree_at piece p)
      (λ p h later some.
      tree_at_is (graft_at nodes i piece) (moved i (length nodes) p) now_linked (moved_there i (length nodes) p (length piece) (length (graft_at nodes i piece)) some h (length-graft_at nodes i piece there inner.some))
      ∙ ap (λ (n : Node). with_children n.block n.end (tree_at (graft_at nodes i piece))) (node_moved p some h)
      ∙ children_moved (node_at piece p).block (node_at piece p).end (λ d one two is.
      let family = inner.children p d one two h is in
      (later one.number family.first_behind family.first_there (omega (arith, family.first_behind)), later two.number family.second_behind family.second_there (omega (arith, family.second_behind))))
      ∙ sym (tree_at_is piece p inner h))

  tree_at_leaf : tree_at (graft_at nodes i piece) i ≡ behind (node_at nodes i).block (tree_of piece)
  tree_at_leaf =
      tree_at_is (graft_at nodes i piece) i now_linked (omega (arith, length-graft_at nodes i piece there inner.some, inner.some))
      ∙ ap (λ (n : Node). with_children n.block n.end (tree_at (graft_at nodes i piece))) (graft_at-same nodes i piece there inner.some)
      ∙ children_moved ((node_at nodes i).block ++ (node_at piece 0).block) (node_at piece 0).end (λ d one two is.
      let family = inner.children 0 d one two inner.some is in
      (tree_moved one.number family.first_there family.first_behind, tree_moved two.number family.second_there family.second_behind))
      ∙ behind_children (node_at nodes i).block (node_at piece 0).block (node_at piece 0).end (tree_at piece)
      ∙ ap (behind (node_at nodes i).block) (sym (tree_at_is piece 0 inner inner.some))

  leaf_was : tree_at nodes i ≡ trees.Open (node_at nodes i).block
  leaf_was = tree_at_is nodes i linked there ∙ ap (λ e. with_children (node_at nodes i).block e (tree_at nodes)) free

  pub replaced : (history : List Event) → Before nodes i history → Replaced (tree_of nodes) [] (after (node_at nodes i).block history) (tree_of piece) (tree_of (graft_at nodes i piece))
  replaced history before =
      let path = after (node_at nodes i).block history in
      climbed nodes (graft_at nodes i piece) i history linked now_linked (changed_by_graft nodes i piece inner there free) before (λ above old now. Replaced old above path (tree_of piece) now)
      (λ block d above old now other below. inl (now, below, refl))
      (λ block d above old now other below. inr (now, below, refl))
      i history before (itself history)
      (subst (λ t. Replaced t history path (tree_of piece) (tree_at (graft_at nodes i piece) i)) (sym leaf_was) (refl, tree_at_leaf))

  -- a measure that adds over splits, and of which blocks have none
  pub graft_gains : (measure : trees.Tree → ℕ) → AddsOverSplits measure → ((block : List Step) → measure (trees.Open block) ≡ 0) → ((block : List Step) (tree : trees.Tree) → measure (behind block tree) ≡ measure tree) → ((history : List Event) × Before nodes i history) → measure (tree_of (graft_at nodes i piece)) ≡ measure (tree_of nodes) + measure (tree_of piece)
  graft_gains measure adds none same some =
      gained nodes (graft_at nodes i piece) i some.0 linked now_linked (changed_by_graft nodes i piece inner there free) some.1 measure adds (measure (tree_of piece)) i some.0 some.1 (itself some.0)
      (omega (arith, ap measure tree_at_leaf ∙ same (node_at nodes i).block (tree_of piece), leaf_measure measure none nodes i linked there free))

count_behind : (block : List Step) (tree : trees.Tree) → count (behind block tree) ≡ count tree
count_behind block (trees.Open more) = refl
count_behind block (trees.Closed more) = refl
count_behind block (trees.Split more d first second) = refl

splits_behind : (block : List Step) (tree : trees.Tree) → splits (behind block tree) ≡ splits tree
splits_behind block (trees.Open more) = refl
splits_behind block (trees.Closed more) = refl
splits_behind block (trees.Split more d first second) = refl

pub count_graft : CountGraftLaw
count_graft nodes i piece linked inner there free room = graft_gains nodes i piece linked inner there free room count count_adds (λ block. refl) count_behind

pub splits_graft : SplitsGraftLaw
splits_graft nodes i piece linked inner there free room = graft_gains nodes i piece linked inner there free room splits splits_adds (λ block. refl) splits_behind

pub graft_law : GraftLaw
graft_law nodes i piece history linked inner there free room before = replaced nodes i piece linked inner there free room history before

-- what each node has after what stands before it, where a piece's nodes have it behind the leaf's path
pub kept_by_graft : (Has : List Event → Node → Type 0) (nodes : List Node) (i : ℕ) (piece : List Node) → IsLinked nodes → IsLinked piece → i < length nodes → IsFree nodes i → ((j : ℕ) (history : List Event) → j < length nodes → Before nodes j history → Has history (node_at nodes j)) → ((history : List Event) → Before nodes i history → Has history (record (node_at nodes i) { block = (node_at nodes i).block ++ (node_at piece 0).block; end = moved_end i (length nodes) (node_at piece 0).end })) → ((above : List Event) → Before nodes i above → (m : ℕ) (inside : List Event) → m < length piece → Before piece m inside → Has (inside ++ after (node_at nodes i).block above) (moved_node i (length nodes) (node_at piece m))) → (j : ℕ) (history : List Event) → j < length (graft_at nodes i piece) → Before (graft_at nodes i piece) j history → Has history (node_at (graft_at nodes i piece) j)
kept_by_graft Has nodes i piece linked inner there free each at_leaf at_piece j history h before =
    let new = graft_at nodes i piece in
    let ways = before_graft nodes i piece j history linked inner there free before in
    elim (cases_lt j (length nodes)) [
      | inl old ↦ elim (cases_eq j i) [
        | inl leaf ↦ subst (λ m. Has history (node_at new m)) (sym leaf) (subst (λ n. Has history n) (sym (graft_at-same nodes i piece there inner.some)) (at_leaf history (subst (λ m. Before nodes m history) leaf (ways.0 old))))
        | inr other ↦ subst (λ n. Has history n) (sym (graft_at-other nodes i piece there inner.some j old other)) (each j history old (ways.0 old))
      ]
      | inr late ↦
          (let m = j - length nodes in
          let is : j ≡ length nodes + m = late_is nodes i piece there inner.some j late in
          let within = late_there nodes i piece there inner.some j late h in
          let was = ways.1 (suc m) (omega arith) is in
          subst (λ p. Has history (node_at new p)) (sym is)
          (subst (λ n. Has history n) (sym (graft_at-moved nodes i piece there inner.some m within))
          (subst (λ l. Has l (moved_node i (length nodes) (node_at piece (suc m)))) (sym was.is) (at_piece was.above was.before (suc m) was.inner within was.inside))))
    ]

-- a moved end asks the same of its node
valid_moved : (P : Network) (history : List Event) (block : List Step) (e : End) (k i n : ℕ) → ValidNode P history block e k → ValidNode P history block (moved_end i n e) k
valid_moved P history block Free k i n valid = valid
valid_moved P history block Shut k i n valid = valid
valid_moved P history block (Split d first second) k i n valid = valid

strict_moved : (P : Network) (history : List Event) (block : List Step) (e : End) (i n : ℕ) → StrictNode P history block e → StrictNode P history block (moved_end i n e)
strict_moved P history block Free i n strict = tt
strict_moved P history block Shut i n strict = tt
strict_moved P history block (Split d first second) i n strict = strict

-- a root behind a block that runs
valid_joined : (P : Network) (history : List Event) (block more : List Step) (e : End) (k : ℕ) → Run P history block k → ValidNode P (after block history) more e k → ValidNode P history (block ++ more) e k
valid_joined P history block more Free k runs valid = run_append P history block more k runs valid
valid_joined P history block more Shut k runs valid = (run_append P history block more k runs valid.0, subst (λ h. CanClose P h k) (sym (after_append block more history)) valid.1)
valid_joined P history block more (Split d first second) k runs valid = (run_append P history block more k runs valid.0, valid.1)

strict_joined : (P : Network) (history : List Event) (block more : List Step) (e : End) → StrictNode P (after block history) more e → StrictNode P history (block ++ more) e
strict_joined P history block more Free strict = tt
strict_joined P history block more Shut strict = tt
strict_joined P history block more (Split d first second) strict = subst (λ h. IsStrictSplit P h d) (sym (after_append block more history)) strict

pub valid_graft : ValidGraftLaw
valid_graft P nodes k i piece linked inner there free valid behind_leaf = record {
  each = kept_by_graft (λ history n. ValidNode P history n.block n.end k) nodes i piece linked inner there free valid.each
      (λ history before.
      let runs : Run P history (node_at nodes i).block k = subst (λ e. ValidNode P history (node_at nodes i).block e k) free (valid.each i history there before) in
      let root = (behind_leaf history before).each 0 [] inner.some (at_root refl refl) in
      valid_moved P history ((node_at nodes i).block ++ (node_at piece 0).block) (node_at piece 0).end k i (length nodes) (valid_joined P history (node_at nodes i).block (node_at piece 0).block (node_at piece 0).end k runs root))
      (λ above before m inside h within. valid_moved P (inside ++ after (node_at nodes i).block above) (node_at piece m).block (node_at piece m).end k i (length nodes) ((behind_leaf above before).each m inside h within));
}

pub strict_graft : StrictGraftLaw
strict_graft P nodes i piece linked inner there free strict behind_leaf = record {
  each = kept_by_graft (λ history n. StrictNode P history n.block n.end) nodes i piece linked inner there free strict.each
      (λ history before.
      strict_moved P history ((node_at nodes i).block ++ (node_at piece 0).block) (node_at piece 0).end i (length nodes) (strict_joined P history (node_at nodes i).block (node_at piece 0).block (node_at piece 0).end ((behind_leaf history before).each 0 [] inner.some (at_root refl refl))))
      (λ above before m inside h within. strict_moved P (inside ++ after (node_at nodes i).block above) (node_at piece m).block (node_at piece m).end i (length nodes) ((behind_leaf above before).each m inside h within));
}
