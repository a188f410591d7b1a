-- Places in the list, as it is kept.
use Rattle.std.proofs.Common.{◌≡◌, ◌≢◌, ℕ, zero, suc, ◌+◌, ◌-◌, ◌<◌, ◌≤◌, inl, inr, List, [], ◌∷◌, ◌++◌, length, Some, refl, sym, ap, ◌∙◌, subst, arith, length-append}
use Rattle.std.proofs.lemmas.Bool.{cases_eq}
use Rattle.std.specs.Prelude.{slice_get, slice_index, slice_index_or}
use Rattle.std.specs.List.{AllByRecursion}
use Rattle.cfn_model.specs.declared.limits.TheConstants.{GREATEST, MOST_VALUES}
use Rattle.cfn_model.specs.declared.step.Step.{Step}
use Rattle.cfn_model.specs.declared.step.Event.{Event}
use Rattle.cfn_model.specs.Network.{Network, IsNetwork, Fits}
use Rattle.cfn_model.proofs.CallerLemmas.{fits_length}
use Rattle.cfn_model.specs.Certificate.{Solution}
use Rattle.cfn_proof.specs.declared.tree.NodeId.{NodeId}
use Rattle.cfn_proof.specs.declared.tree.Node.{Node}
use Rattle.cfn_proof.specs.Nodes.{node_at, Before, IsFree}
use Rattle.cfn_proof.proofs.CallerLemmas.{before_some, length-close_at, close_at-other}
use Rattle.cfn_best.specs.List.{IsBefore, last_cost, threshold_of}
use Rattle.cfn_ranking.specs.declared.list.Listed.{Listed}
use Rattle.cfn_ranking.specs.Certificates.{solution_of, solutions_of}
use Rattle.cfn_ranking.specs.Ranked.{Ranked, HasLeaf, IsRanked, Waits}
use Rattle.cfn_ranking.specs.Changes.{CanStay, Exchanges, Leaves, MakesRoom, has_room, drops}
use Rattle.cfn_ranking.proofs.Lists.{length_solutions}
use Rattle.cfn_ranking.proofs.Entries.{full_threshold}

-- an assignment at a place, in either form
pub solution_there : (list : List Listed) (i : ℕ) (other : Solution) (nobody : Listed) → i < length list → slice_index_or (solutions_of list) i other ≡ solution_of (slice_index_or list i nobody)
solution_there [] i other nobody h = absurd (omega (arith, h))
solution_there (s ∷ list) zero other nobody h = refl
solution_there (s ∷ list) (suc i) other nobody h = solution_there list i other nobody (omega (arith, h))

-- one more comes before
pub one_more : (list : List Listed) (s : Solution) (i : ℕ) (nobody : Listed) → i < length list → ((j : ℕ) (other : Solution) → j < i → IsBefore (slice_index_or (solutions_of list) j other) s) → IsBefore (solution_of (slice_index_or list i nobody)) s → (j : ℕ) (other : Solution) → j < i + 1 → IsBefore (slice_index_or (solutions_of list) j other) s
one_more list s i nobody there all one j other h =
    elim (cases_eq j i) [
      | inl same ↦ subst (λ t. IsBefore t s) (sym (ap (λ n. slice_index_or (solutions_of list) n other) same ∙ solution_there list i other nobody there)) one
      | inr less ↦ all j other (omega (arith, h, less))
    ]

-- the last one
abbrev pub IsLast : List Listed → Listed → Type 0
IsLast list e = Some e ≡ slice_get list (length list - 1)

last_behind : (x y : Listed) (list : List Listed) (e : Listed) → IsLast (x ∷ y ∷ list) e → IsLast (y ∷ list) e
last_behind x y list e is =
    let n : length (x ∷ y ∷ list) - 1 ≡ suc (length (y ∷ list) - 1) = omega arith in
    is ∙ ap (slice_get (x ∷ y ∷ list)) n

some_same : {A : Type 0} {x y : A} → Some x ≡ Some y → x ≡ y
some_same e = cc

cost_last : (none : ℕ) (list : List Listed) (e : Listed) → IsLast list e → e.cost ≡ last_cost none (solutions_of list)
cost_last none [] e is = absurd cc
cost_last none (x ∷ []) e is = ap (λ y. y.cost) (some_same is)
cost_last none (x ∷ y ∷ list) e is = cost_last x.cost (y ∷ list) e (last_behind x y list e is)

pub last_price : (upper n : ℕ) (list : List Listed) (e : Listed) → IsLast list e → length list ≡ n → e.cost ≡ threshold_of upper n (solutions_of list)
last_price upper n list e is full = cost_last upper list e is ∙ sym (full_threshold upper n (solutions_of list) (length_solutions list ∙ full))

-- a leaf that is none of the list's stays where room is made
pub record Stays (less : List Node) (rest : List Listed) (others : List NodeId) (i : ℕ) : Type 0 where
  pub there : i < length less
  pub free : IsFree less i
  pub long : length rest ≡ length others

has_last : (leaves : List NodeId) (leaf : NodeId) → HasLeaf (leaves ++ leaf ∷ []) leaf.number
has_last [] leaf = inl refl
has_last (l ∷ leaves) leaf = inr (has_last leaves leaf)

pub stays : (n : ℕ) (nodes : List Node) (items : List Listed) (leaves : List NodeId) (less : List Node) (rest : List Listed) (others : List NodeId) (i : ℕ) → MakesRoom n nodes items leaves less rest others → length items ≡ length leaves → (HasLeaf leaves i → ⊥) → i < length nodes → IsFree nodes i → Stays less rest others i
stays n nodes items leaves less rest others i (has_room few same list all) long none there free = record {
  there = subst (λ m. i < length m) (sym same) there;
  free = subst (λ m. IsFree m i) (sym same) free;
  long = ap length list ∙ long ∙ sym (ap length all);
}
stays n nodes items leaves less rest others i (drops full drop) long none there free =
    let own = (node_at nodes drop.leaf.number).block in
    let other : i ≢ drop.leaf.number = (λ same. none (subst (λ l. HasLeaf l i) (sym drop.leaves_are) (subst (HasLeaf (others ++ drop.leaf ∷ [])) (sym same) (has_last others drop.leaf)))) in
    record {
      there = (let l = ap length drop.shut in let m = length-close_at nodes drop.leaf.number own drop.there in omega (arith, there, l, m));
      free = ap (λ m. (node_at m i).end) drop.shut ∙ ap (λ (t : Node). t.end) (close_at-other nodes drop.leaf.number own drop.there i other) ∙ free;
      long = (let a = ap length drop.list_is in let b = ap length drop.leaves_are in let c = length-append rest (drop.last ∷ []) in let d = length-append others (drop.leaf ∷ []) in omega (arith, a, b, c, d, long));
    }

-- the same of a ranking, whose fields are what is kept
pub stays_on : (r : Ranked) (n : ℕ) (nodes : List Node) (items : List Listed) (leaves : List NodeId) (items_now : List Listed) (leaves_now : List NodeId) (less : List Node) (rest : List Listed) (others : List NodeId) (i : ℕ) → r.nodes ≡ nodes → r.list ≡ solutions_of items → r.leaves ≡ leaves → items_now ≡ items → leaves_now ≡ leaves → MakesRoom n nodes items_now leaves_now less rest others → length r.list ≡ length r.leaves → CanStay r i → Waits r i → Stays less rest others i
stays_on r n nodes items leaves items_now leaves_now less rest others i is_nodes is_list are_leaves same_items same_leaves room long can waits =
    stays n nodes items_now leaves_now less rest others i room
    (let a = ap length is_list in let b = length_solutions items in let c = ap length same_items in let d = ap length same_leaves in let e = ap length are_leaves in omega (arith, a, b, c, d, e, long))
    (λ has. can.none (subst (λ l. HasLeaf l i) (same_leaves ∙ sym are_leaves) has))
    (subst (λ m. i < length m) is_nodes waits.there)
    (subst (λ m. IsFree m i) is_nodes waits.free)

-- what a listed assignment keeps
values_small : (sizes values : List ℕ) → ((x : ℕ) → x < length sizes → slice_index sizes x ≤ MOST_VALUES) → Fits sizes values → AllByRecursion (λ a. a ≤ GREATEST) values
values_small [] [] small fits = tt
values_small [] (v ∷ values) small fits = absurd fits
values_small (size ∷ sizes) [] small fits = tt
values_small (size ∷ sizes) (v ∷ values) small fits =
    (let below = fits.0 in let most : size ≤ MOST_VALUES = small 0 (omega arith) in omega (arith, below, most), values_small sizes values (λ x h. small (suc x) (omega (arith, h))) fits.1)

pub record IsListable (s : Solution) : Type 0 where
  pub cost : s.cost ≤ GREATEST
  pub some : 0 < length s.values
  pub small : AllByRecursion (λ a. a ≤ GREATEST) s.values

pub listable : (P : Network) (r : Ranked) (leaf : NodeId) (block : List Step) (s : Solution) → IsNetwork P → IsRanked P r → Waits r leaf.number → ((history : List Event) → Before r.nodes leaf.number history → Leaves P history r.threshold block s) → IsListable s
listable P r leaf block s network ranked waits leaves =
    let before = before_some r.nodes leaf.number ranked.kept.linked waits.there in
    let one = (leaves before.0 before.1).solution in
    record {
      cost = (let b = one.below in let u = network.upper in omega (arith, b, u));
      some = (let n = network.some in let l = fits_length P.sizes s.values one.fits in omega (arith, n, l));
      small = values_small P.sizes s.values (λ x h. (network.sizes x h).1) one.fits;
    }

-- an exchange of one ranking is that of the same
pub exchanges_of : (r q now : Ranked) (leaf : NodeId) (block : List Step) (p : ℕ) (listed : Listed) → r ≡ q → Exchanges r leaf block p listed now → Exchanges q leaf block p listed now
exchanges_of r q now leaf block p listed same ex = subst (λ t. Exchanges t leaf block p listed now) same ex
