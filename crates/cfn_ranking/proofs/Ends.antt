-- What a ranking comes to at the end.
use Rattle.std.proofs.Common.{◌≡◌, ◌≢◌, ℕ, zero, suc, ◌+◌, ◌<◌, ◌≤◌, ◌⊎◌, inl, inr, List, [], ◌∷◌, length, Option, Some, Bool, true, false, refl, sym, ap, ◌∙◌, subst, arith}
use Rattle.std.proofs.lemmas.Bool.{cases_eq, cases_lt}
use Rattle.std.specs.Prelude.{slice_index_or, min, IsTrue, ◌↔◌}
use Rattle.cfn_model.specs.declared.step.Step.{Step}
use Rattle.cfn_model.specs.declared.step.Event.{Event}
use Rattle.cfn_model.specs.Network.{Network}
use Rattle.cfn_model.specs.Certificate.{Solution}
use Rattle.cfn_model.specs.Sums.{floor}
use Rattle.cfn_model.specs.Steps.{after}
use Rattle.cfn_model.specs.Tree.{Strict, count, splits}
use Rattle.cfn_proof.specs.declared.tree.NodeId.{NodeId}
use Rattle.cfn_proof.specs.declared.tree.Node.{Node}
use Rattle.cfn_proof.specs.Nodes.{node_at, IsLinked, IsFree, Before, close_at}
use Rattle.cfn_proof.proofs.CallerLemmas.{before_some, close_at-same, close_at-other, length-close_at, strict_law}
use Rattle.cfn_best.specs.Tree as best
use Rattle.cfn_best.specs.Tree.{bound, solution_at}
use Rattle.cfn_best.specs.List.{ListCertificate}
use Rattle.cfn_ranking.specs.Trees.{listed_of, open_leaves, NumbersAreThere, OpenBelow}
use Rattle.cfn_ranking.specs.Laws.{LeavesAreListed, FloorsBelow}
use Rattle.cfn_ranking.proofs.CallerLemmas.{plain_law, valid_law, open_below_law, bound_from_law, bound_at_law, bound_most, none_open_law, some_open_law}
use Rattle.cfn_ranking.specs.Ranked.{Ranked, floor_at, AreLeaves, IsFound, IsLeafOf, HasLeaf, Waits, IsRanked}
use Rattle.cfn_ranking.specs.Changes.{MayClose}
use Rattle.cfn_ranking.specs.Finished.{AreNumbered, AreThere, IsLeastFloor, IsLesserAt, IsListOf, IsSwept, IsSweptAt}
use Rattle.cfn_ranking.proofs.Nodes.{free_shut}
use Rattle.cfn_ranking.proofs.Lists.{as_many}
use Rattle.cfn_ranking.proofs.Keeping.{closed_waits, keeps_closed}
use Rattle.cfn_ranking.proofs.Entries.{own_run}

-- a leaf that waits is closed, where its floor reaches the threshold
module _ (P : Network) (r : Ranked) (i : ℕ) (ranked : IsRanked P r) (waits : Waits r i) (reached : r.threshold ≤ floor_at r.floors i) where
  abbrev own : List Step
  own = (node_at r.nodes i).block

  may : (history : List Event) → Before r.nodes i history → MayClose P history r.threshold own
  may history before =
      let to = ranked.kept.waiting i waits in
      record {
        runs = record {
          run = own_run P history own (node_at r.nodes i).end r.threshold waits.free (ranked.kept.valid.each i history waits.there before);
          tame = ranked.kept.tame.each i history waits.there before;
        };
        closes = inl (subst (λ b. r.threshold ≤ floor P (after b history)) (sym to.empty) (let f = to.floor_is history before in omega (arith, reached, f)));
      }

  pub keeps_swept : IsLinked (close_at r.nodes i own) → IsRanked P (record r { nodes = close_at r.nodes i own })
  keeps_swept linked = record {
    kept = keeps_closed P r i own r.spent ranked.kept waits.there waits.free may linked (omega arith) (omega arith);
    threshold_is = ranked.threshold_is;
  }

-- the others wait still
pub waits_beside : (r : Ranked) (i j : ℕ) → i < length r.nodes → Waits (record r { nodes = close_at r.nodes i (node_at r.nodes i).block }) j → (j ≢ i) × Waits r j
waits_beside r i j there waits =
    let own = (node_at r.nodes i).block in
    elim (cases_eq j i) [
      | inl same ↦ absurd (free_shut (ap (λ m. (node_at (close_at r.nodes i own) m).end) (sym same) ∙ waits.free) (ap (λ (n : Node). n.end) (close_at-same r.nodes i own there)))
      | inr other ↦ (
        other,
        record {
          there = (let t = waits.there in let l = length-close_at r.nodes i own there in omega (arith, t, l));
          free = ap (λ (n : Node). n.end) (sym (close_at-other r.nodes i own there j other)) ∙ waits.free;
          unlisted = waits.unlisted;
        },
      )
    ]

-- whether one of some leaves has a number
has_or_not : (leaves : List NodeId) (i : ℕ) → HasLeaf leaves i ⊎ (HasLeaf leaves i → ⊥)
has_or_not [] i = inr (λ h. h)
has_or_not (leaf ∷ leaves) i =
    elim (cases_eq leaf.number i) [
      | inl same ↦ inl (inl same)
      | inr other ↦ elim (has_or_not leaves i) [
        | inl has ↦ inl (inr has)
        | inr none ↦ inr (λ h. elim h [ inl same ↦ other same | inr has ↦ none has ])
      ]
    ]

leaf_at : (P : Network) (r : Ranked) (list : List Solution) (leaves : List NodeId) (j : ℕ) (other : NodeId) → AreLeaves P r list leaves → j < length leaves → IsLeafOf P r (solution_at list j) (slice_index_or leaves j other) × (j < length list)
leaf_at P r [] [] j other are h = absurd (omega (arith, h))
leaf_at P r [] (leaf ∷ leaves) j other are h = absurd are
leaf_at P r (s ∷ list) [] j other are h = absurd are
leaf_at P r (s ∷ list) (leaf ∷ leaves) zero other are h = (are.0, omega arith)
leaf_at P r (s ∷ list) (leaf ∷ leaves) (suc j) other are h = let rest = leaf_at P r list leaves j other are.1 (omega (arith, h)) in (rest.0, (let l = rest.1 in omega (arith, l)))

some_same : {m n : ℕ} {o : Option ℕ} → o ≡ Some m → o ≡ Some n → m ≡ n
some_same e f = cc

-- the leaves get the numbers of their assignments
module _ (P : Network) (r : Ranked) (numbers : List (Option ℕ)) (ranked : IsRanked P r) (numbered : AreNumbered r.leaves r.numbers numbers) where
  abbrev pub renumbered : Ranked
  renumbered = record r { numbers = numbers }

  pub waits_before : (i : ℕ) → Waits renumbered i → Waits r i
  waits_before i waits =
      elim (has_or_not r.leaves i) [
        | inl has ↦ absurd (closed_waits waits.unlisted (numbered.each i has).is)
        | inr none ↦ record { there = waits.there; free = waits.free; unlisted = sym (numbered.others i none) ∙ waits.unlisted }
      ]

  listed_leaves : LeavesAreListed P r.list r.nodes numbers
  listed_leaves i j history there free is before =
      elim (has_or_not r.leaves i) [
        | inl has ↦
            let at = numbered.each i has in
            let nobody : NodeId = record { number = 0 } in
            let one = leaf_at P r r.list r.leaves at.place nobody ranked.kept.leaves at.within in
            let same : at.place ≡ j = some_same at.is is in
            let node = at.leaf nobody in
            let found = one.0.found history (subst (IsFree r.nodes) (sym node) free) (subst (λ m. Before r.nodes m history) (sym node) before) in
            let here = subst (λ m. IsFound P (solution_at r.list at.place) (after (node_at r.nodes m).block history)) node found in
            subst (λ k. best.IsLeafOf P r.list (after (node_at r.nodes i).block history) k) same (record { number = one.1; only = here.only })
        | inr none ↦ absurd (none (ranked.kept.listed i j there free (sym (numbered.others i none) ∙ is)))
      ]

  floor_of : (i : ℕ) (history : List Event) → Waits renumbered i → Before r.nodes i history → floor_at r.floors i ≡ floor P (after (node_at r.nodes i).block history)
  floor_of i history waits before =
      let to = ranked.kept.waiting i (waits_before i waits) in
      to.floor_is history before ∙ ap (λ b. floor P (after b history)) (sym to.empty)

  pub opened_where : (b : Bool) → (IsTrue b ↔ ((i : ℕ) × Waits renumbered i)) → (IsTrue b ↔ (0 < open_leaves (listed_of r.nodes numbers)))
  opened_where b has = (
    (λ yes. let one = has.0 yes in some_open_law r.nodes numbers one.0 ranked.kept.linked one.1.there one.1.free one.1.unlisted),
    (λ some. yes_or b has some),
  )
    where
      yes_or : (c : Bool) → (IsTrue c ↔ ((i : ℕ) × Waits renumbered i)) → 0 < open_leaves (listed_of r.nodes numbers) → IsTrue c
      yes_or true has some = refl
      yes_or false has some =
          let none : open_leaves (listed_of r.nodes numbers) ≡ 0 = none_open_law r.nodes numbers ranked.kept.linked (λ i there free unlisted. let no : false ≡ true = has.1 (i, record { there = there; free = free; unlisted = unlisted }) in cc) in
          absurd (omega (arith, some, none))

  pub finished : (spent : ℕ) (lower : ℕ) (c : ListCertificate) → spent ≡ r.spent → IsLeastFloor renumbered (length r.nodes) lower → ((i : ℕ) → Waits renumbered i → floor_at r.floors i < r.threshold) → c ≡ record { variables = length P.sizes; functions = length P.functions; upper = P.upper; count = r.count; lower = lower; list = r.list; tree = listed_of r.nodes numbers } → IsListOf P r.count spent c
  finished spent lower c same least below is =
      subst (IsListOf P r.count spent) (sym is) (subst (λ n. IsListOf P r.count n (record { variables = length P.sizes; functions = length P.functions; upper = P.upper; count = r.count; lower = lower; list = r.list; tree = listed_of r.nodes numbers })) (sym same) (record {
        good = record {
          variables = refl;
          functions = refl;
          upper = refl;
          few = ranked.kept.few;
          solutions = ranked.kept.solutions;
          ordered = ranked.kept.ordered;
          valid = subst (best.IsValid P r.list [] (listed_of r.nodes numbers)) ranked.threshold_is (valid_law P r.list r.nodes numbers r.threshold ranked.kept.linked ranked.kept.valid listed_leaves);
          lower = subst (λ k. lower ≤ bound P [] (listed_of r.nodes numbers) k) ranked.threshold_is from;
        };
        asked_is = refl;
        lower = subst (λ k. lower ≡ bound P [] (listed_of r.nodes numbers) k) ranked.threshold_is (let f = from in let m = most least.attained in omega (arith, f, m));
        below = subst (λ k. OpenBelow P [] (listed_of r.nodes numbers) k) ranked.threshold_is (open_below_law P r.nodes numbers r.threshold ranked.kept.linked floors_below);
        strict = subst (λ t. Strict P [] t) (sym (plain_law r.nodes numbers ranked.kept.linked)) (strict_law P r.nodes ranked.kept.linked ranked.kept.strict);
        expanded = (let e = ranked.kept.expanded in let p = ap splits (plain_law r.nodes numbers ranked.kept.linked) in omega (arith, e, p));
        counted = (let e = ranked.kept.counted in let p = ap count (plain_law r.nodes numbers ranked.kept.linked) in omega (arith, e, p));
      }))
    where
      from : lower ≤ bound P [] (listed_of r.nodes numbers) r.threshold
      from =
          bound_from_law P r.nodes numbers lower r.threshold ranked.kept.linked least.most (λ i history there free unlisted before.
          let waits : Waits renumbered i = record { there = there; free = free; unlisted = unlisted } in
          let low = least.each i there waits in
          let f = floor_of i history waits before in
          omega (arith, low, f))

      most : (lower ≡ r.threshold) ⊎ ((i : ℕ) × Waits renumbered i × (lower ≡ floor_at r.floors i)) → bound P [] (listed_of r.nodes numbers) r.threshold ≤ lower
      most (inl top) = (let m = bound_most P [] (listed_of r.nodes numbers) r.threshold in omega (arith, m, top))
      most (inr one) =
          let some = before_some r.nodes one.0 ranked.kept.linked one.1.there in
          let m = bound_at_law P r.nodes numbers r.threshold one.0 some.0 ranked.kept.linked one.1.there one.1.free one.1.unlisted some.1 in
          let f = floor_of one.0 some.0 one.1 some.1 in
          let e = one.2 in
          omega (arith, m, f, e)

      floors_below : FloorsBelow P r.nodes numbers r.threshold
      floors_below i history there free unlisted before =
          let waits : Waits renumbered i = record { there = there; free = free; unlisted = unlisted } in
          let b = below i waits in
          let f = floor_of i history waits before in
          omega (arith, b, f)

-- one node more is swept
pub swept_none : (P : Network) (r : Ranked) (i : ℕ) → IsRanked P r → (Waits r i → floor_at r.floors i < r.threshold) → IsSweptAt P i r r
swept_none P r i ranked below = record { ranked = ranked; same = refl; long = refl; below = below; others = λ j waits. waits }

pub swept_one : (P : Network) (r now : Ranked) (i : ℕ) → IsRanked P r → Waits r i → r.threshold ≤ floor_at r.floors i → now ≡ record r { nodes = close_at r.nodes i (node_at r.nodes i).block } → IsLinked now.nodes → IsSweptAt P i r now
swept_one P r now i ranked waits reached is linked =
    subst (IsSweptAt P i r) (sym is) (record {
      ranked = keeps_swept P r i ranked waits reached (subst IsLinked (ap (λ (t : Ranked). t.nodes) is) linked);
      same = refl;
      long = length-close_at r.nodes i (node_at r.nodes i).block waits.there;
      below = λ still. absurd ((waits_beside r i i waits.there still).0 refl);
      others = λ j still. (waits_beside r i j waits.there still).1;
    })

-- all nodes before a number are swept
pub record IsSweptTo (P : Network) (r : Ranked) (n : ℕ) (now : Ranked) : Type 0 where
  pub ranked : IsRanked P now
  pub same : now ≡ record r { nodes = now.nodes }
  pub long : length now.nodes ≡ length r.nodes
  pub below : (j : ℕ) → j < n → Waits now j → floor_at now.floors j < now.threshold

pub swept_more : (P : Network) (r now next : Ranked) (i : ℕ) → IsSweptTo P r i now → IsSweptAt P i now next → IsSweptTo P r (i + 1) next
swept_more P r now next i to at = record {
  ranked = at.ranked;
  same = at.same ∙ ap (λ (t : Ranked). record t { nodes = next.nodes }) to.same;
  long = at.long ∙ to.long;
  below = λ j h waits. elim (cases_eq j i) [
    | inl same ↦ subst (λ k. floor_at next.floors k < next.threshold) (sym same) (at.below (subst (Waits next) same waits))
    | inr other ↦
        let b = to.below j (omega (arith, h, other)) (at.others j waits) in
        let f = ap (λ (t : Ranked). floor_at t.floors j) at.same in
        let k = ap (λ (t : Ranked). t.threshold) at.same in
        omega (arith, b, f, k)
  ];
}

-- the least floor of one node more
pub least_start : (r : Ranked) → IsLeastFloor r 0 r.threshold
least_start r = record { most = omega arith; each = λ i h waits. absurd (omega (arith, h)); attained = inl refl }

pub least_more : (r : Ranked) (i least next : ℕ) → IsLeastFloor r i least → IsLesserAt r i least next → IsLeastFloor r (i + 1) next
least_more r i least next so_far at = record {
  most = (let a = so_far.most in let b = at.most in omega (arith, a, b));
  each = λ j h waits. elim (cases_eq j i) [
    | inl same ↦ subst (λ k. next ≤ floor_at r.floors k) (sym same) (at.here (subst (Waits r) same waits))
    | inr other ↦ (let a = so_far.each j (omega (arith, h, other)) waits in let b = at.most in omega (arith, a, b))
  ];
  attained = elim at.attained [
    | inl same ↦ elim so_far.attained [ inl top ↦ inl (same ∙ top) | inr one ↦ inr (one.0, one.1, same ∙ one.2) ]
    | inr here ↦ inr (i, here.0, here.1)
  ];
}

pub least_to : (r : Ranked) (m n least : ℕ) → n ≤ m → IsLeastFloor r m least → IsLeastFloor r n least
least_to r m n least few is = record { most = is.most; each = λ i h waits. is.each i (omega (arith, h, few)) waits; attained = is.attained }

-- the leaves of listed assignments are there
has_there : (P : Network) (r : Ranked) (list : List Solution) (leaves : List NodeId) (i : ℕ) → AreLeaves P r list leaves → HasLeaf leaves i → i < length r.nodes
has_there P r list [] i are has = absurd has
has_there P r [] (leaf ∷ leaves) i are has = absurd are
has_there P r (s ∷ list) (leaf ∷ leaves) i are (inl same) = subst (λ n. n < length r.nodes) same are.0.there
has_there P r (s ∷ list) (leaf ∷ leaves) i are (inr has) = has_there P r list leaves i are.1 has

pub leaves_there : (P : Network) (r : Ranked) → IsRanked P r → AreThere (length r.numbers) r.leaves
leaves_there P r ranked i has = let h = has_there P r r.list r.leaves i ranked.kept.leaves has in let n = ranked.kept.numbers in omega (arith, h, n)

pub leaves_few : (P : Network) (r : Ranked) → IsRanked P r → length r.leaves ≤ r.count
leaves_few P r ranked = let f = ranked.kept.few in let m = as_many P r r.list r.leaves ranked.kept.leaves in omega (arith, f, m)

pub numbers_there : (P : Network) (r : Ranked) (numbers : List (Option ℕ)) → IsRanked P r → AreNumbered r.leaves r.numbers numbers → NumbersAreThere r.nodes numbers (length r.list)
numbers_there P r numbers ranked numbered i j there free is =
    elim (has_or_not r.leaves i) [
      | inl has ↦
          let at = numbered.each i has in
          let same : at.place ≡ j = some_same at.is is in
          let w = at.within in
          let m = as_many P r r.list r.leaves ranked.kept.leaves in
          omega (arith, same, w, m)
      | inr none ↦ absurd (none (ranked.kept.listed i j there free (sym (numbered.others i none) ∙ is)))
    ]

pub swept_start : (P : Network) (r : Ranked) → IsRanked P r → IsSweptTo P r 0 r
swept_start P r ranked = record { ranked = ranked; same = refl; long = refl; below = λ j h waits. absurd (omega (arith, h)) }

pub swept_end : (P : Network) (r : Ranked) (n : ℕ) (now : Ranked) → length r.nodes ≤ n → IsSweptTo P r n now → IsSwept P r now
swept_end P r n now all to = record {
  ranked = to.ranked;
  same = to.same;
  below = λ i waits. to.below i (let t = waits.there in let l = to.long in omega (arith, t, l, all)) waits;
}

pub lesser_here : (r : Ranked) (i least result : ℕ) → Waits r i → result ≡ min least (floor_at r.floors i) → IsLesserAt r i least result
lesser_here r i least result waits is = record {
  most = omega (arith, is);
  here = λ w. omega (arith, is);
  attained = elim (cases_lt (floor_at r.floors i) least) [
    | inl less ↦ inr (waits, omega (arith, is, less))
    | inr more ↦ inl (omega (arith, is, more))
  ];
}

-- the same, of the numbers as they are read
pub finished_as : (P : Network) (r : Ranked) (numbers : List (Option ℕ)) (spent lower v e u n : ℕ) → IsRanked P r → AreNumbered r.leaves r.numbers numbers → spent ≡ r.spent → IsLeastFloor (record r { numbers = numbers }) (length r.nodes) lower → ((i : ℕ) → Waits r i → floor_at r.floors i < r.threshold) → v ≡ length P.sizes → e ≡ length P.functions → u ≡ P.upper → r.count ≡ n → IsListOf P n spent (record { variables = v; functions = e; upper = u; count = r.count; lower = lower; list = r.list; tree = listed_of r.nodes numbers })
finished_as P r numbers spent lower v e u n ranked numbered same least below is_v is_e is_u asked =
    let C : ℕ → ℕ → ℕ → ListCertificate = λ x y z. record { variables = x; functions = y; upper = z; count = r.count; lower = lower; list = r.list; tree = listed_of r.nodes numbers } in
    let is : C v e u ≡ C (length P.sizes) (length P.functions) P.upper = ap (λ x. C x e u) is_v ∙ ap (λ x. C (length P.sizes) x u) is_e ∙ ap (λ x. C (length P.sizes) (length P.functions) x) is_u in
    subst (λ k. IsListOf P k spent (C v e u)) asked (finished P r numbers ranked numbered spent lower (C v e u) same least (λ i waits. below i (waits_before P r numbers ranked numbered i waits)) is)
