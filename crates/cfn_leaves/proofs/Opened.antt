-- The leaves of a tree at the opening.
use Rattle.std.proofs.Common.{◌≡◌, ℕ, ◌+◌, ◌<◌, ◌≤◌, ◌^◌, List, [], ◌∷◌, ◌++◌, map, length, refl, sym, ap, ◌∙◌, subst, arith, Option, append-nil, All, Bool}
use Rattle.std.proofs.lemmas.List.{length-map}
use Rattle.std.proofs.lemmas.List.Elements.{All-weaker, All-nil}
use Rattle.cfn_model.specs.Network.{Network}
use Rattle.cfn_model.specs.Sums.{floor}
use Rattle.cfn_model.specs.Tree.{open_leaves, count}
use Rattle.cfn_queue.specs.declared.list.OpenLeaf.{OpenLeaf}
use Rattle.cfn_queue.specs.Listing.{Listing}
use Rattle.cfn_proof.specs.declared.tree.Node.{Node}
use Rattle.cfn_proof.specs.Nodes.{tree_of, IsLinked}
use Rattle.cfn_proof.specs.Local.{BeforeOnceLaw}
use Rattle.cfn_machine.specs.Pool as pool
use Rattle.cfn_machine.specs.Pool.{Free, IsLeaf, granted, numbered, dealt, Pool, row_of, opening_part}
use Rattle.cfn_machine.specs.Steps.{PoolNotes, pool_noted}
use Rattle.cfn_model.specs.declared.report.Row.{Row}
use Rattle.cfn_model.specs.Tree.{Tree}
use Rattle.cfn_machine.proofs.CallerLemmas.{numbered_is, numbered_granted, numbered_once, dealt_is}
use Rattle.cfn_leaves.specs.declared.entry.Entry.{Entry}
use Rattle.cfn_leaves.specs.declared.walk.Spot.{Spot}
use Rattle.cfn_leaves.specs.Standing.{marked, Are}
use Rattle.cfn_leaves.specs.Listed.{IsListed, IsFreeIn, outs}
use Rattle.cfn_leaves.specs.Walked.{spots_of}
use Rattle.cfn_leaves.specs.Placed.{placed, FitsPlace}
use Rattle.cfn_leaves.specs.Value.{Body, IsBody, IsInside}
use Rattle.cfn_leaves.proofs.Trees.{marked_is}
use Rattle.cfn_leaves.proofs.Marks.{entry_there}
use Rattle.cfn_leaves.proofs.Seats.{seated, spots_count, spots_within}
use Rattle.cfn_leaves.proofs.Grafting.{numbered_has, outs_behind}

-- the leaves of a tree by itself keep their numbers of nodes
fits_place : (len : ℕ) (spot : Spot) → len ≤ 2 ^ 32 → spot.node.number < len → FitsPlace 1 spot
fits_place len spot few h = omega (arith, few, h)

pub root_fits : (P : Network) (nodes : List Node) (low : ℕ) → IsLinked nodes → All (FitsPlace 1) (spots_of nodes low)
root_fits P nodes low linked =
    All-weaker (λ (s : Spot). s.node.number < length nodes) (FitsPlace 1) (λ spot h. fits_place (length nodes) spot linked.few h) (spots_of nodes low) (spots_within P nodes linked (length nodes) 0 low linked.some)

pub nothing_listed : (leaves : List OpenLeaf) → leaves ≡ [] → IsListed [] leaves
nothing_listed leaves none = subst (IsListed []) (sym none) (record { each = All-nil (IsFreeIn []); once = λ n. refl })

pub record Opened (P : Network) (b : Body) (nodes : List Node) : Type 0 where
  pub tree_is : marked b.nodes b.table ≡ numbered 0 (tree_of nodes)
  pub next : length b.table ≡ open_leaves (tree_of nodes)
  pub body : IsBody P b (marked b.nodes b.table)

pub opened : (P : Network) (nodes : List Node) (spots : List Spot) (table : List (Option Entry)) (listing : Listing) → BeforeOnceLaw → IsLinked nodes → spots ≡ spots_of nodes (floor P []) → table ≡ map (placed 0 1) spots →
    IsListed table listing.leaves → length listing.leaves ≡ length spots → length spots ≤ 2 ^ 32 →
    Opened P (record { nodes = nodes; table = table; listing = listing; opened = length spots; granted = 0 }) nodes
opened P nodes spots table listing once linked spots_are table_is listed long few =
    let tree = numbered 0 (tree_of nodes) in
    let whole : table ≡ map (placed 0 1) (spots_of nodes (floor P [])) ++ [] = table_is ∙ ap (map (placed 0 1)) spots_are ∙ sym (append-nil (map (placed 0 1) (spots_of nodes (floor P [])))) in
    let stands = seated P nodes linked (length nodes) 0 (floor P []) 0 [] table [] [] linked.some (omega arith) refl whole refl in
    let count' : length spots ≡ open_leaves (tree_of nodes) = ap length spots_are ∙ spots_count P nodes linked (length nodes) 0 (floor P []) linked.some (omega arith) in
    let len : length table ≡ length spots = ap length table_is ∙ length-map spots (placed 0 1) in
    let are : Are P nodes table tree = record {
      linked = linked;
      stands = stands;
      there = λ n e is. (let h = entry_there table n e is in let has = numbered_has (tree_of nodes) 0 n [] (omega (arith, h, len, count')) in let same : 0 + n ≡ n = omega arith in (Free, (has.0, subst (λ m. IsLeaf tree [] m Free has.0) same has.1)));
      different = λ n. numbered_once (tree_of nodes) 0 n;
    } in
    let tree_is : marked nodes table ≡ tree = marked_is P nodes table tree once are in
    let nothing : outs table ≡ 0 = ap outs table_is ∙ outs_behind [] 0 1 spots in
    let same = numbered_is (tree_of nodes) 0 in
    record {
      tree_is = tree_is;
      next = len ∙ count';
      body = subst (IsBody P (record { nodes = nodes; table = table; listing = listing; opened = length spots; granted = 0 })) (sym tree_is) (record {
        are = are;
        listed = listed;
        room = omega (arith, nothing);
        opened = count' ∙ ap open_leaves (sym same);
        granted = sym (numbered_granted (tree_of nodes) 0);
        both = omega (arith, nothing, long);
        fits = omega (arith, len);
        few = omega (arith, len, few);
      });
    }

-- so is all that is kept
pub all_kept : (P Q : Network) (nodes nodes' : List Node) (table : List (Option Entry)) (listing listing' : Listing) (count count' budget : ℕ) (noted : List Row) (capacity : ℕ) → Q ≡ P → nodes' ≡ nodes → listing' ≡ listing → count' ≡ count →
    noted ≡ [] → 256 ≤ capacity → IsBody P (record { nodes = nodes; table = table; listing = listing; opened = count; granted = 0 }) (marked nodes table) →
    IsInside Q (record { nodes = nodes'; table = table; listing = listing'; opened = count'; granted = 0 }) budget 0 noted capacity
all_kept P Q nodes nodes' table listing listing' count count' budget noted capacity network nodes_is listing_is count_is none place body = record {
  body =
      subst (λ N. IsBody N (record { nodes = nodes'; table = table; listing = listing'; opened = count'; granted = 0 }) (marked nodes' table)) (sym network)
      (subst (λ n. IsBody P (record { nodes = n; table = table; listing = listing'; opened = count'; granted = 0 }) (marked n table)) (sym nodes_is)
      (subst (λ l. IsBody P (record { nodes = nodes; table = table; listing = l; opened = count'; granted = 0 }) (marked nodes table)) (sym listing_is)
      (subst (λ k. IsBody P (record { nodes = nodes; table = table; listing = listing; opened = k; granted = 0 }) (marked nodes table)) (sym count_is) body)));
  within = omega arith;
  few = omega (arith, ap length none);
  place = place;
}

-- the opening's pool, once the first row is noted
pub first_row : (mine : ℕ → Bool) (P : Network) (shares budget : ℕ) (tree : Tree) (best : Option (List ℕ)) (seen : ℕ) (old new : Pool) → pool.price P best ≡ seen →
    old ≡ record { tree = dealt mine (numbered 0 tree); next = open_leaves tree; budget = budget; begun = count tree; nodes = 0; rows = []; view = record { best = best; seen = seen; shares = shares } } → PoolNotes P old new → new ≡ opening_part mine P shares budget tree best
first_row mine P shares budget tree best seen old new price old_is notes =
    let whole = dealt mine (numbered 0 tree) in
    let bare : ℕ → Pool = λ k. record { tree = whole; next = open_leaves tree; budget = budget; begun = count tree; nodes = 0; rows = []; view = record { best = best; seen = k; shares = shares } } in
    let row : pool_noted P (bare (pool.price P best)) ≡ record (bare (pool.price P best)) { rows = row_of P (pool.tree_of whole) (pool.price P best) ∷ [] } = refl in
    notes ∙ ap (pool_noted P) old_is ∙ ap (λ k. pool_noted P (bare k)) (sym price) ∙ row ∙ ap (λ t. record (bare (pool.price P best)) { rows = row_of P t (pool.price P best) ∷ [] }) (dealt_is mine (numbered 0 tree) ∙ numbered_is tree 0)
