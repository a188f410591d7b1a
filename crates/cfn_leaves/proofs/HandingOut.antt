-- A leaf is handed out.
use Rattle.std.proofs.Common.{◌≡◌, ◌≢◌, ℕ, ◌+◌, ◌-◌, ◌≤◌, inl, inr, List, [], ◌∷◌, length, min, set, refl, sym, ap, ap₂, ◌∙◌, subst, arith, Option, Some, None, IsPermutation, MatchOption}
use Rattle.std.proofs.lemmas.Bool.{cases_eq}
use Rattle.std.proofs.lemmas.List.{length-set}
use Rattle.std.proofs.lemmas.List.Elements.{All-head}
use Rattle.cfn_model.specs.declared.step.Event.{Event}
use Rattle.cfn_model.specs.Network.{Network}
use Rattle.cfn_model.specs.Sums.{floor}
use Rattle.cfn_queue.specs.declared.list.OpenLeaf.{OpenLeaf}
use Rattle.cfn_queue.specs.Listing.{Listing, IsLeast}
use Rattle.cfn_proof.specs.Local.{BeforeOnceLaw}
use Rattle.cfn_machine.specs.Pool.{Free, Out, PoolTree, Leaf, IsLeaf, Replaced, granted, active_leaves, Task, View}
use Rattle.cfn_machine.proofs.CallerLemmas.{free_active, granted_active, none_active}
use Rattle.cfn_queue.proofs.CallerLemmas.{least_once}
use Rattle.cfn_machine.specs.Steps.{PoolTakes, IsFirst}
use Rattle.cfn_leaves.specs.declared.entry.Mark.TheVariants as held
use Rattle.cfn_leaves.specs.declared.entry.Entry.{Entry}
use Rattle.cfn_leaves.specs.Standing.{entry_at, entry, marked}
use Rattle.cfn_leaves.specs.Ways.{IsPathOf}
use Rattle.cfn_leaves.specs.Value.{Holding, pool_of, pool_tree, Body, IsBody}
use Rattle.cfn_leaves.proofs.Trees.{marked_is, leaf_node}
use Rattle.cfn_leaves.proofs.Lists.{free_listed}
use Rattle.cfn_leaves.specs.Listed.{IsFreeIn, IsListed}
use Rattle.cfn_leaves.proofs.Bodies.{path_once, first_held, body_taken, is_held, free_is}

-- what is kept beside the nodes and the table
abbrev pub body_of : Holding → Listing → ℕ → ℕ → Body
body_of h listing opened granted = record { nodes = h.tree; table = h.table; listing = listing; opened = opened; granted = granted }

-- where no leaf is listed, none is free
module _ (P : Network) (b : Body) (tree : PoolTree) (once : BeforeOnceLaw) (body : IsBody P b tree) where
  pub none_free : b.listing.leaves ≡ [] → (n : ℕ) (path : List Event) → IsLeaf tree [] n Free path → ⊥
  none_free none n path leaf =
      let node = leaf_node P b.nodes b.table tree once body.are n Free path leaf in
      let listed = free_listed b.table b.listing.leaves n (entry node.node Free (floor P path)) body.listed node.is refl in
      omega (arith, listed.1.1, ap length none)

  -- no leaf is active exactly where none is listed and nothing is granted
  pub none_then : length b.listing.leaves ≡ 0 → b.granted ≡ 0 → active_leaves tree ≡ 0
  none_then nothing none = none_active tree [] (none_free (empty b.listing.leaves nothing)) (let g = body.granted in omega (arith, g, none)) where
    empty : (leaves : List OpenLeaf) → length leaves ≡ 0 → leaves ≡ []
    empty [] none = refl
    empty (leaf ∷ leaves) none = absurd (omega (arith, none))

  pub nothing_granted : active_leaves tree ≡ 0 → b.granted ≡ 0
  nothing_granted none = elim (cases_eq b.granted 0) [
    | inl nothing ↦ nothing
    | inr some ↦ (let more = granted_active tree (λ nothing. some (body.granted ∙ nothing)) in absurd (omega (arith, more, none)))
  ]

  pub nothing_listed : active_leaves tree ≡ 0 → length b.listing.leaves ≡ 0
  nothing_listed none = by_leaves b.listing.leaves body.listed where
    by_leaves : (leaves : List OpenLeaf) → IsListed b.table leaves → length leaves ≡ 0
    by_leaves [] listed = refl
    by_leaves (leaf ∷ leaves) listed =
        let free = All-head (IsFreeIn b.table) leaf leaves listed.each in
        let h = is_held P b tree leaf.leaf free.entry once body free.is in
        let mark = free_is h.mark (sym free.free ∙ h.mark_is) in
        let more = free_active tree [] leaf.leaf h.path (subst (λ k. IsLeaf tree [] leaf.leaf k h.path) mark h.leaf) in
        absurd (omega (arith, more, none))

-- the step
pub record Handed (h new : Holding) (b : Body) (worker want : ℕ) (task : Task) : Type 0 where
  pub takes : (view : View) → PoolTakes h.network (pool_of h view) worker want task (pool_of new view)
  pub body : IsBody h.network b (pool_tree new)

pub handed : (h : Holding) (listing rest : Listing) (opened given : ℕ) (first : OpenLeaf) (e : Entry) (path : List Event) (worker want left grant : ℕ) (table : List (Option Entry)) → BeforeOnceLaw →
    IsBody h.network (body_of h listing opened given) (pool_tree h) → IsLeast listing.leaves first → entry_at h.table first.leaf ≡ Some e → IsPathOf h.tree e.node.number path →
    left + (h.nodes + given) ≡ h.budget → left ≢ 0 → h.nodes ≢ h.budget → 1 ≤ want → grant ≡ min want left →
    IsPermutation listing.leaves (first ∷ rest.leaves) → rest.spare ≡ listing.spare + 1 → table ≡ set h.table first.leaf (Some (record e { mark = held.Out worker grant })) →
    Handed h (record h { table = table }) (body_of (record h { table = table }) rest opened (given + grant)) worker want (record { leaf = first.leaf; worker = worker; grant = grant; floor = first.floor; path = path })
handed h listing rest opened given first e path worker want left grant table once body least is of lefts some unspent wants grant_is permuted room table_is =
    let P = h.network in
    let b = body_of h listing opened given in
    let tree = pool_tree h in
    let own = first_held P b tree first e once body least is in
    let leaf = own.is.leaf in
    let path_is : path ≡ own.path = path_once h.tree e.node.number path own.path once body.are.linked of own.of in
    let l = body_taken P b tree first e own.path worker grant rest once body leaf is own.free permuted room in
    let new_tree : marked h.tree table ≡ l.tree' = ap (marked h.tree) table_is ∙ marked_is P h.tree (set h.table first.leaf (Some (record e { mark = held.Out worker grant }))) l.tree' once l.body.are in
    let new_len : length table ≡ length h.table = ap length table_is ∙ length-set h.table first.leaf (Some (record e { mark = held.Out worker grant })) in
    let left_is : left ≡ h.budget - (h.nodes + granted tree) = omega (arith, lefts, body.granted) in
    record {
      takes = λ view. record {
        wants = wants;
        unspent = unspent;
        room = λ all. some (omega (arith, all, lefts, body.granted));
        first = subst (IsFirst P tree first.leaf) (sym path_is) own.is;
        handed =
            ap (λ g. record { leaf = first.leaf; worker = worker; grant = g; floor = first.floor; path = path }) (grant_is ∙ ap (min want) left_is)
            ∙ ap (λ f. record { leaf = first.leaf; worker = worker; grant = min want (h.budget - (h.nodes + granted tree)); floor = f; path = path }) (own.floor_is ∙ ap (floor P) (sym path_is));
        tree = l.tree';
        marked = subst (λ p. Replaced tree [] first.leaf Free p (Leaf first.leaf (Out worker grant) []) l.tree') (sym path_is) l.replaced;
        left = ap₂ (λ t n. record { tree = t; next = n; budget = h.budget; begun = h.begun; nodes = h.nodes; rows = h.rows; view = view }) new_tree new_len;
      };
      body = subst (λ t. IsBody P (body_of (record h { table = table }) rest opened (given + grant)) t) (sym new_tree)
          (subst (λ t. IsBody P (body_of (record h { table = t }) rest opened (given + grant)) l.tree') (sym table_is) l.body);
    }

-- what comes out of the list is its least leaf
pub popped : (old new : Listing) (o : Option OpenLeaf) (first : OpenLeaf) → MatchOption o (old.leaves ≡ []) (IsLeast old.leaves) →
    MatchOption o (new ≡ old) (λ leaf. IsPermutation old.leaves (leaf ∷ new.leaves) × (new.spare ≡ old.spare + 1)) → IsLeast old.leaves first → IsPermutation old.leaves (first ∷ new.leaves) × (new.spare ≡ old.spare + 1)
popped old new None first none same least = absurd (omega (arith, least.there.1, ap length none))
popped old new (Some leaf) first own rest least =
    let one = least_once old.leaves leaf first own least in
    (subst (λ l. IsPermutation old.leaves (l ∷ new.leaves)) one rest.0, rest.1)
