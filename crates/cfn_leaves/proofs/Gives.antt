-- What comes of a piece that is given.
use Rattle.std.proofs.Common.{◌≡◌, ℕ, ◌+◌, ◌-◌, ◌<◌, ◌≤◌, ◌^◌, List, [], ◌++◌, map, length, set, refl, sym, ap, ap₂, ◌∙◌, subst, arith, Option, None, All, length-append}
use Rattle.std.proofs.lemmas.List.{get_or-set_same, get_or-set_other, length-set, length-map}
use Rattle.std.proofs.lemmas.List.Elements.{All-weaker}
use Rattle.cfn_model.specs.Network.{Network}
use Rattle.cfn_model.specs.Sums.{floor}
use Rattle.cfn_model.specs.Tree.{open_leaves, count}
use Rattle.cfn_queue.specs.Listing.{Listing}
use Rattle.cfn_proof.specs.declared.tree.Node.{Node}
use Rattle.cfn_proof.specs.Nodes.{tree_of, IsLinked, IsFree, graft_at}
use Rattle.cfn_proof.specs.Local.{BeforeOnceLaw}
use Rattle.cfn_proof.proofs.CallerLemmas.{length-graft_at}
use Rattle.cfn_machine.specs.Pool as pool
use Rattle.cfn_machine.specs.Pool.{Mark, Out, PoolTree, IsLeaf, Replaced, granted, numbered, Task, Piece, View}
use Rattle.cfn_machine.specs.Steps.{PoolGives, IsOut}
use Rattle.cfn_machine.proofs.CallerLemmas.{numbered_is, numbered_granted, replaced_granted}
use Rattle.cfn_leaves.specs.declared.entry.Entry.{Entry}
use Rattle.cfn_leaves.specs.declared.walk.Spot.{Spot}
use Rattle.cfn_leaves.specs.Standing.{entry_at, entry, marked, Are}
use Rattle.cfn_leaves.specs.Listed.{outs, out_entry, out_mark, free_entry, free_mark, IsListed}
use Rattle.cfn_leaves.specs.Ways.{IsPathOf}
use Rattle.cfn_leaves.specs.Walked.{spots_of}
use Rattle.cfn_leaves.specs.Placed.{placed, FitsPlace}
use Rattle.cfn_leaves.specs.Given.{IsTaskEntry}
use Rattle.cfn_leaves.specs.Value.{Holding, Body, IsBody, pool_of, pool_tree}
use Rattle.cfn_leaves.proofs.Trees.{leaf_node, marked_is}
use Rattle.cfn_leaves.proofs.Marks.{entry_there, replaced_opened}
use Rattle.cfn_leaves.proofs.Lists.{listed_kept, outs_set}
use Rattle.cfn_leaves.proofs.Bodies.{is_held, out_is, path_once}
use Rattle.cfn_leaves.proofs.HandingOut.{body_of}
use Rattle.cfn_leaves.proofs.Recalled.{out_granted}
use Rattle.cfn_leaves.proofs.Seats.{spots_count, spots_within}
use Rattle.cfn_leaves.proofs.Grafting.{grafted, outs_behind}

-- a leaf that is out has an entry
pub task_entry : (h : Holding) (b : Body) (task : Task) (view : View) → BeforeOnceLaw → Are h.network h.tree h.table (pool_tree h) → IsOut (pool_of h view) task → (e : Entry) × IsTaskEntry h task e
task_entry h b task view once are leaf =
    let node = leaf_node h.network h.tree h.table (pool_tree h) once are task.leaf (Out task.worker task.grant) task.path leaf in
    (entry node.node (Out task.worker task.grant) (floor h.network task.path), record { is = node.is; mark = refl; of = node.of })

-- the leaf that the entry is of
pub record IsTaskLeaf (h : Holding) (task : Task) (e : Entry) : Type 0 where
  pub leaf : IsLeaf (pool_tree h) [] task.leaf (Out task.worker task.grant) task.path
  pub there : e.node.number < length h.tree
  pub free : IsFree h.tree e.node.number
  pub few : task.grant ≤ granted (pool_tree h)

pub task_leaf : (h : Holding) (b : Body) (task : Task) (e : Entry) → BeforeOnceLaw → b.nodes ≡ h.tree → b.table ≡ h.table → IsBody h.network b (pool_tree h) → IsTaskEntry h task e → IsTaskLeaf h task e
task_leaf h b task e once same_nodes same_table body own =
    let P = h.network in
    let at = is_held P b (pool_tree h) task.leaf e once body (ap (λ t. entry_at t task.leaf) same_table ∙ own.is) in
    let mark : at.mark ≡ Out task.worker task.grant = out_is at.mark task.worker task.grant (sym own.mark ∙ at.mark_is) in
    let path : at.path ≡ task.path = path_once h.tree e.node.number at.path task.path once (subst IsLinked same_nodes body.are.linked) (subst (λ n. IsPathOf n e.node.number at.path) same_nodes at.of) own.of in
    let leaf = subst (λ p. IsLeaf (pool_tree h) [] task.leaf (Out task.worker task.grant) p) path (subst (λ m. IsLeaf (pool_tree h) [] task.leaf m at.path) mark at.leaf) in
    record {
      leaf = leaf;
      there = subst (λ n. e.node.number < length n) same_nodes at.there;
      free = subst (λ n. IsFree n e.node.number) same_nodes at.free;
      few = out_granted (pool_tree h) [] task.leaf task.worker task.grant task.path leaf;
    }

-- the leaves of the piece keep their numbers of nodes small
fits_place : (n len : ℕ) (spot : Spot) → n + len ≤ 2 ^ 32 + 1 → spot.node.number < len → FitsPlace n spot
fits_place n len spot few h = omega (arith, few, h)

pub all_fit : (nodes : List Node) (i : ℕ) (piece : List Node) (low : ℕ) → i < length nodes → IsLinked piece → IsLinked (graft_at nodes i piece) → All (FitsPlace (length nodes)) (spots_of piece low)
all_fit nodes i piece low there inner linked =
    let len = length-graft_at nodes i piece there inner.some in
    All-weaker (λ (s : Spot). s.node.number < length piece) (FitsPlace (length nodes)) (λ spot h. fits_place (length nodes) (length piece) spot (omega (arith, len, linked.few)) h)
    (spots_of piece low) (spots_within pool_free piece inner (length piece) 0 low inner.some) where
      pool_free : Network
      pool_free = record { name = []; sizes = []; upper = 0; functions = [] }

-- the piece is in its leaf's place
pub record Took (h new : Holding) (b : Body) (piece : Piece) : Type 0 where
  pub gives : (view : View) (word : ℕ) → PoolGives (pool_of h view) word piece (pool_of new (record view { seen = word }))
  pub body : IsBody h.network b (pool_tree new)

pub record Change (h : Holding) (listing left : Listing) (e : Entry) (task : Task) (piece nodes : List Node) (spots : List Spot) (table : List (Option Entry)) : Type 0 where
  pub inner : IsLinked piece
  pub linked : IsLinked nodes
  pub nodes_is : nodes ≡ graft_at h.tree e.node.number piece
  pub spots_is : spots ≡ spots_of piece task.floor
  pub floor_is : task.floor ≡ floor h.network task.path
  pub table_is : table ≡ set h.table task.leaf None ++ map (placed e.node.number (length h.tree)) spots
  pub listed : IsListed (set h.table task.leaf None) listing.leaves → IsListed table left.leaves
  pub long : length left.leaves ≡ length listing.leaves + length spots

pub took : (h : Holding) (listing left : Listing) (opened given threshold : ℕ) (e : Entry) (task : Task) (piece nodes : List Node) (spots : List Spot) (table : List (Option Entry)) → BeforeOnceLaw →
    IsBody h.network (body_of h listing opened given) (pool_tree h) → IsTaskEntry h task e → Change h listing left e task piece nodes spots table →
    opened ≤ length listing.leaves + left.spare → length h.table + length spots ≤ 2 ^ 32 →
    Took h (record h { tree = nodes; table = table; nodes = h.nodes + count (tree_of piece) })
    (record { nodes = nodes; table = table; listing = left; opened = opened + length spots - 1; granted = given - task.grant })
    (record { task = task; tree = tree_of piece; threshold = threshold })
took h listing left opened given threshold e task piece nodes spots table once body own change room few =
    let P = h.network in
    let b = body_of h listing opened given in
    let tree = pool_tree h in
    let n = task.leaf in
    let next = length h.table in
    let at = task_leaf h b task e once refl refl body own in
    let i = e.node.number in
    let back = set h.table n None in
    let there = entry_there h.table n e own.is in
    let spots_are : spots ≡ spots_of piece (floor P task.path) = change.spots_is ∙ ap (spots_of piece) change.floor_is in
    let size : length spots ≡ open_leaves (tree_of piece) = ap length spots_are ∙ spots_count P piece change.inner (length piece) 0 (floor P task.path) change.inner.some (omega arith) in
    let g = grafted P h.tree h.table tree once body.are n (Out task.worker task.grant) task.path at.leaf piece e own.is change.inner (subst IsLinked change.nodes_is change.linked) in
    let place = numbered next (tree_of piece) in
    let table' : table ≡ back ++ map (placed i (length h.tree)) (spots_of piece (floor P task.path)) = change.table_is ∙ ap (λ s. back ++ map (placed i (length h.tree)) s) spots_are in
    let are : Are P nodes table g.tree' = subst (λ t. Are P nodes t g.tree') (sym table') (subst (λ m. Are P m (back ++ map (placed i (length h.tree)) (spots_of piece (floor P task.path))) g.tree') (sym change.nodes_is) g.are) in
    let new_tree : marked nodes table ≡ g.tree' = marked_is P nodes table g.tree' once are in
    let new_len : length table ≡ next + length spots = ap length change.table_is ∙ length-append back (map (placed i (length h.tree)) spots) ∙ ap₂ (λ x y. x + y) (length-set h.table n None) (length-map spots (placed i (length h.tree))) in
    let was : out_entry (entry_at h.table n) ≡ 1 = ap out_entry own.is ∙ ap out_mark own.mark in
    let not_free : free_entry (entry_at h.table n) ≡ 0 = ap free_entry own.is ∙ ap free_mark own.mark in
    let outs' : outs table ≡ outs back = ap outs change.table_is ∙ outs_behind back i (length h.tree) spots in
    let outs'' : outs back + out_entry (entry_at h.table n) ≡ outs h.table + 0 = outs_set h.table n None there in
    let opened' = replaced_opened n (Out task.worker task.grant) task.path place tree [] g.tree' g.replaced in
    let granted' = replaced_granted n (Out task.worker task.grant) task.path place tree [] g.tree' g.replaced in
    let place_open : open_leaves (pool.tree_of place) ≡ length spots = ap open_leaves (numbered_is (tree_of piece) next) ∙ sym size in
    let nothing = numbered_granted (tree_of piece) next in
    let listed = listed_kept h.table back listing.leaves n body.listed (λ m other. get_or-set_other h.table n m _ None other) not_free (ap free_entry (get_or-set_same h.table n None None there)) in
    record {
      gives = λ view word. record {
        tree = g.tree';
        placed = g.replaced;
        left =
            ap (λ t. record { tree = t; next = length table; budget = h.budget; begun = h.begun; nodes = h.nodes + count (tree_of piece); rows = h.rows; view = record view { seen = word } }) new_tree
            ∙ ap (λ m. record { tree = g.tree'; next = m; budget = h.budget; begun = h.begun; nodes = h.nodes + count (tree_of piece); rows = h.rows; view = record view { seen = word } }) (new_len ∙ ap (λ k. next + k) size);
      };
      body = subst (IsBody P (record { nodes = nodes; table = table; listing = left; opened = opened + length spots - 1; granted = given - task.grant })) (sym new_tree) (record {
        are = are;
        listed = change.listed listed;
        room = omega (arith, outs', outs'', was, body.both, room);
        opened = omega (arith, opened', place_open, body.opened);
        granted = omega (arith, granted', nothing, body.granted);
        both = omega (arith, body.both, change.long, outs', outs'', was);
        fits = omega (arith, new_len, body.fits);
        few = omega (arith, new_len, few);
      });
    }

-- more room changes nothing
pub reserved : (h : Holding) (listing listing' : Listing) (opened given : ℕ) (tree : PoolTree) → IsBody h.network (body_of h listing opened given) tree → listing'.leaves ≡ listing.leaves → listing.spare ≤ listing'.spare → IsBody h.network (body_of h listing' opened given) tree
reserved h listing listing' opened given tree body same room =
    let len = ap length same in
    record {
      are = body.are;
      listed = subst (IsListed h.table) (sym same) body.listed;
      room = omega (arith, body.room, room);
      opened = body.opened;
      granted = body.granted;
      both = omega (arith, body.both, len);
      fits = body.fits;
      few = body.few;
    }
