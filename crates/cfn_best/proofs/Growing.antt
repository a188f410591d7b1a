-- The lines of a good list are right, and lines that are all right are those of a list.
use Rattle.std.proofs.Common.{◌≡◌, ℕ, zero, suc, ◌+◌, ◌<◌, ◌≤◌, min, List, [], ◌∷◌, ◌++◌, length, map, refl, sym, ap, ap₂, subst, ◌∙◌, arith, append_assoc, append-nil, length-append}
use Rattle.std.specs.Prelude.{flat_map}
use Rattle.std.specs.List.{AllByRecursion}
use Rattle.cfn_model.specs.declared.step.Step.{Step}
use Rattle.cfn_model.specs.declared.step.Decision.{Decision}
use Rattle.cfn_model.specs.declared.step.Event.{Event}
use Rattle.cfn_model.specs.declared.step.Event.TheVariants.{Did, Took, Refused}
use Rattle.cfn_model.specs.Network.{Network}
use Rattle.cfn_model.specs.Sums.{floor}
use Rattle.cfn_model.specs.Steps.{Run, after}
use Rattle.cfn_model.specs.Certificate.{Solution, IsSolution}
use Rattle.cfn_fault.specs.Nodes.{Item, Makes, LeavesOpen, Closes, Splits}
use Rattle.cfn_fault.specs.Lines as lines
use Rattle.cfn_fault.specs.Lines.{Line}
use Rattle.cfn_best.specs.Tree.{ListTree, Open, Closed, Listed, Split, IsValid, bound}
use Rattle.cfn_best.specs.List.{ListCertificate, threshold_of, IsOrdered, GoodList}
use Rattle.cfn_best.specs.Lines.{ListLine, Heading, Count, Lists, Says, IsSpelledLine, lines_of_tree, line_of_solution, lines_of, IsSpelled, Claim, with_solution, threshold, State, AtHeading, AtNumbers, AtCount, AtLower, AtBest, AtList, AtNodes, AtOver, Follows, HeadingFollows, NumbersFollow, CountFollows, LowerFollows, BestFollows, ValuesFollow, RootFollows, NodeLineFollows, ListsFollows, EndFollows}
use Rattle.cfn_best.specs.Fault.{LinePasses, IsNext, Passes, AllPass}
use Rattle.cfn_best.proofs.Unlisted.{bound_low}
use Rattle.cfn_best.proofs.Ordering.{ordered_more, comes_behind}

abbrev step_line : Step → ListLine
step_line step = Says (lines.Node (Makes step))

abbrev pub AllSpelled : List ListLine → Type 0
AllSpelled ls = AllByRecursion IsSpelledLine ls

spelled_front : (a b : List ListLine) → AllSpelled (a ++ b) → AllSpelled a
spelled_front [] b all = tt
spelled_front (l ∷ a) b all = (all.0, spelled_front a b all.1)

spelled_back : (a b : List ListLine) → AllSpelled (a ++ b) → AllSpelled b
spelled_back [] b all = all
spelled_back (l ∷ a) b all = spelled_back a b all.1

-- ---- the lines of a valid tree are right

module _ (P : Network) (claim : Claim) (t : State) where
  block_passes : (block : List Step) (history : List Event) (least : ℕ) (paths : List (List Event)) (ls : List ListLine) → Run P history block (threshold P claim) → AllSpelled (map step_line block)
      → AllPass P (AtNodes claim least (after block history ∷ paths)) ls t → AllPass P (AtNodes claim least (history ∷ paths)) (map step_line block ++ ls) t
  block_passes [] history least paths ls run spelled rest = rest
  block_passes (step ∷ block) history least paths ls run spelled rest =
      (AtNodes claim least ((Did step ∷ history) ∷ paths), record { spelled = spelled.0; follows = NodeLineFollows; right = run.0 }, block_passes block (Did step ∷ history) least paths ls run.1 spelled.1 rest)

  -- a block, and the line behind it
  node_passes : (block : List Step) (l : ListLine) (m : State) (history : List Event) (least : ℕ) (paths : List (List Event)) (ls : List ListLine) → Run P history block (threshold P claim) → AllSpelled (map step_line block ++ l ∷ [])
      → Follows P (AtNodes claim least (after block history ∷ paths)) l m → LinePasses P (AtNodes claim least (after block history ∷ paths)) l
      → AllPass P m ls t → AllPass P (AtNodes claim least (history ∷ paths)) ((map step_line block ++ l ∷ []) ++ ls) t
  node_passes block l m history least paths ls run spelled follows right rest =
      let steps = map step_line block in
      subst (λ x. AllPass P (AtNodes claim least (history ∷ paths)) x t) (sym (append_assoc steps (l ∷ []) ls))
      (block_passes block history least paths (l ∷ ls) run (spelled_front steps (l ∷ []) spelled) (m, record { spelled = (spelled_back steps (l ∷ []) spelled).0; follows = follows; right = right }, rest))

  tree_passes : (tree : ListTree) (history : List Event) (least : ℕ) (paths : List (List Event)) (ls : List ListLine) → least ≤ threshold P claim → IsValid P claim.list history tree (threshold P claim) → AllSpelled (lines_of_tree tree)
      → AllPass P (AtNodes claim (min least (bound P history tree (threshold P claim))) paths) ls t → AllPass P (AtNodes claim least (history ∷ paths)) (lines_of_tree tree ++ ls) t
  tree_passes (Open block) history least paths ls le valid spelled rest =
      let low : min least (min (threshold P claim) (floor P (after block history))) ≡ min least (floor P (after block history)) = omega (arith, le) in
      node_passes block (Says (lines.Node LeavesOpen)) _ history least paths ls valid spelled NodeLineFollows tt (subst (λ x. AllPass P (AtNodes claim x paths) ls t) low rest)
  tree_passes (Closed block) history least paths ls le valid spelled rest =
      let low : min least (threshold P claim) ≡ least = omega (arith, le) in
      node_passes block (Says (lines.Node Closes)) _ history least paths ls valid.0 spelled NodeLineFollows valid.1 (subst (λ x. AllPass P (AtNodes claim x paths) ls t) low rest)
  tree_passes (Listed block j) history least paths ls le valid spelled rest =
      let low : min least (threshold P claim) ≡ least = omega (arith, le) in
      node_passes block (Lists j) _ history least paths ls valid.0 spelled ListsFollows valid.1 (subst (λ x. AllPass P (AtNodes claim x paths) ls t) low rest)
  tree_passes (Split block d first second) history least paths ls le valid spelled rest =
      let k = threshold P claim in
      let steps = map step_line block in
      let l = Says (lines.Node (Splits d)) in
      let one = lines_of_tree first in
      let two = lines_of_tree second in
      let b1 = bound P (Took d ∷ after block history) first k in
      let b2 = bound P (Refused d ∷ after block history) second k in
      let back = spelled_back steps (l ∷ (one ++ two)) spelled in
      let low : min least (min b1 b2) ≡ min (min least b1) b2 = omega arith in
      let less : min least b1 ≤ k = omega (arith, le) in
      let after_first = tree_passes second (Refused d ∷ after block history) (min least b1) paths ls less valid.3 (spelled_back one two back.1) (subst (λ x. AllPass P (AtNodes claim x paths) ls t) low rest) in
      let after_split = tree_passes first (Took d ∷ after block history) least ((Refused d ∷ after block history) ∷ paths) (two ++ ls) le valid.2 (spelled_front one two back.1) after_first in
      let here = subst (λ x. AllPass P (AtNodes claim least ((Took d ∷ after block history) ∷ (Refused d ∷ after block history) ∷ paths)) x t) (sym (append_assoc one two ls)) after_split in
      subst (λ x. AllPass P (AtNodes claim least (history ∷ paths)) x t) (sym (append_assoc steps (l ∷ (one ++ two)) ls))
      (block_passes block history least paths (l ∷ ((one ++ two) ++ ls)) valid.0 (spelled_front steps (l ∷ (one ++ two)) spelled) (_, record { spelled = back.0; follows = NodeLineFollows; right = valid.1 }, here))

-- ---- the lines of a good list are right

abbrev pub with_list : List Solution → Claim → Claim
with_list list claim = record { count = claim.count; lower = claim.lower; list = list }

all_front : (Q : Solution → Type 0) (a b : List Solution) → AllByRecursion Q (a ++ b) → AllByRecursion Q b
all_front Q [] b all = all
all_front Q (s ∷ a) b all = all_front Q a b all.1

list_passes : (P : Network) (claim : Claim) (more : List Solution) (ls : List ListLine) (t : State) → AllByRecursion (IsSolution P) more → IsOrdered (claim.list ++ more) → AllByRecursion (λ s. 0 < length s.values) more → AllSpelled (map line_of_solution more)
    → AllPass P (AtList (with_list (claim.list ++ more) claim) 0) ls t → AllPass P (AtList claim (length more)) (map line_of_solution more ++ ls) t
list_passes P claim [] ls t solutions ordered values spelled rest = subst (λ x. AllPass P (AtList (with_list x claim) 0) ls t) (append-nil claim.list) rest
list_passes P claim (s ∷ more) ls t solutions ordered values spelled rest =
    let order : IsOrdered ((claim.list ++ s ∷ []) ++ more) = subst IsOrdered (sym (append_assoc claim.list (s ∷ []) more)) ordered in
    let behind = list_passes P (with_solution s claim) more ls t solutions.1 order values.1 spelled.1 (subst (λ x. AllPass P (AtList (with_list x claim) 0) ls t) (sym (append_assoc claim.list (s ∷ []) more)) rest) in
    by_values s.values refl behind
  where
    by_values : (its : List ℕ) → s.values ≡ its → AllPass P (AtList (with_solution s claim) (length more)) (map line_of_solution more ++ ls) t → AllPass P (AtList claim (length (s ∷ more))) (map line_of_solution (s ∷ more) ++ ls) t
    by_values [] is behind = absurd (omega (arith, values.0, ap length is))
    by_values (a ∷ its) is behind =
        let next : IsNext P claim.list s = record { solution = solutions.0; behind = comes_behind claim.list s more ordered } in
        let follows : Follows P (AtList claim (length (s ∷ more))) (Says (lines.Values (s.cost ∷ s.values))) (AtList (with_solution s claim) (length more)) =
        subst (λ (v : List ℕ). Follows P (AtList claim (length (s ∷ more))) (Says (lines.Values (s.cost ∷ v))) (AtList (with_solution (record { cost = s.cost; values = v }) claim) (length more))) (sym is) ValuesFollow in
        (AtList (with_solution s claim) (length more), record { spelled = spelled.0; follows = follows; right = next }, behind)

abbrev pub claim_of : ListCertificate → Claim
claim_of c = record { count = c.count; lower = c.lower; list = c.list }

abbrev pub bound_of : Network → ListCertificate → ℕ
bound_of P c = bound P [] c.tree (threshold P (claim_of c))

pub good_passes : (P : Network) (c : ListCertificate) → IsSpelled c → GoodList P c → AllPass P AtHeading (lines_of c) (AtOver (claim_of c) (bound_of P c))
good_passes P c spelled good =
    let all = spelled.lines in
    let k = threshold P (claim_of c) in
    let b = bound_of P c in
    let tree = lines_of_tree c.tree in
    let list = map line_of_solution c.list in
    let behind = all.1.1.1.1.1 in
    let back = spelled_back list (Says lines.Root ∷ (tree ++ Says lines.End ∷ [])) behind in
    let low : min k b ≡ b = omega (arith, bound_low P [] c.tree k) in
    let last : AllPass P (AtNodes (claim_of c) b []) (Says lines.End ∷ []) (AtOver (claim_of c) b) = (AtOver (claim_of c) b, record { spelled = tt; follows = EndFollows; right = tt }, refl) in
    let nodes = tree_passes P (claim_of c) (AtOver (claim_of c) b) c.tree [] k [] (Says lines.End ∷ []) (omega arith) good.valid (spelled_front tree (Says lines.End ∷ []) back.1) (subst (λ x. AllPass P (AtNodes (claim_of c) x []) (Says lines.End ∷ []) (AtOver (claim_of c) b)) (sym low) last) in
    let root : AllPass P (AtList (claim_of c) 0) (Says lines.Root ∷ (tree ++ Says lines.End ∷ [])) (AtOver (claim_of c) b) = (AtNodes (claim_of c) k ([] ∷ []), record { spelled = tt; follows = RootFollows; right = tt }, nodes) in
    let start : Claim = record { count = c.count; lower = c.lower; list = [] } in
    let listed = list_passes P start c.list (Says lines.Root ∷ (tree ++ Says lines.End ∷ [])) (AtOver (claim_of c) b) good.solutions good.ordered spelled.values (spelled_front list (Says lines.Root ∷ (tree ++ Says lines.End ∷ [])) behind) root in (
      AtNumbers,
      record { spelled = tt; follows = HeadingFollows; right = tt },
      (
        AtCount,
        record { spelled = all.1.0; follows = NumbersFollow; right = (good.variables, good.functions, good.upper) },
        (
          AtLower c.count,
          record { spelled = all.1.1.0; follows = CountFollows; right = tt },
          (AtBest c.count c.lower, record { spelled = all.1.1.1.0; follows = LowerFollows; right = tt }, (AtList start (length c.list), record { spelled = all.1.1.1.1.0; follows = BestFollows; right = good.few }, listed)),
        ),
      ),
    )

-- ---- lines that are right are those of trees, one for each path that is due

abbrev pub AllValid : Network → Claim → List (List Event) → List ListTree → Type 0
AllValid P claim [] [] = Unit {0}
AllValid P claim [] (tree ∷ trees) = ⊥
AllValid P claim (history ∷ paths) [] = ⊥
AllValid P claim (history ∷ paths) (tree ∷ trees) = IsValid P claim.list history tree (threshold P claim) × AllValid P claim paths trees

abbrev pub least_bound : Network → ℕ → List (List Event) → List ListTree → ℕ
least_bound P k [] trees = k
least_bound P k (history ∷ paths) [] = k
least_bound P k (history ∷ paths) (tree ∷ trees) = min (bound P history tree k) (least_bound P k paths trees)

pub record Grown (P : Network) (claim : Claim) (least : ℕ) (paths : List (List Event)) (ls : List ListLine) (other : Claim) (low : ℕ) : Type 0 where
  pub trees : List ListTree
  pub lines_are : ls ≡ flat_map lines_of_tree trees ++ Says lines.End ∷ []
  pub valid : AllValid P claim paths trees
  pub low_is : low ≡ min least (least_bound P (threshold P claim) paths trees)
  pub same : other ≡ claim

-- a tree with one step more before it
abbrev with_step : Step → ListTree → ListTree
with_step step (Open block) = Open (step ∷ block)
with_step step (Closed block) = Closed (step ∷ block)
with_step step (Listed block j) = Listed (step ∷ block) j
with_step step (Split block d first second) = Split (step ∷ block) d first second

step_lines : (step : Step) (tree : ListTree) → lines_of_tree (with_step step tree) ≡ step_line step ∷ lines_of_tree tree
step_lines step (Open block) = refl
step_lines step (Closed block) = refl
step_lines step (Listed block j) = refl
step_lines step (Split block d first second) = refl

step_bound : (P : Network) (history : List Event) (step : Step) (tree : ListTree) (k : ℕ) → bound P history (with_step step tree) k ≡ bound P (Did step ∷ history) tree k
step_bound P history step (Open block) k = refl
step_bound P history step (Closed block) k = refl
step_bound P history step (Listed block j) k = refl
step_bound P history step (Split block d first second) k = refl

module _ (P : Network) (claim : Claim) (other : Claim) (low : ℕ) where
  step_valid : (history : List Event) (step : Step) (tree : ListTree) → LinePasses P (AtNodes claim 0 (history ∷ [])) (step_line step) → IsValid P claim.list (Did step ∷ history) tree (threshold P claim) → IsValid P claim.list history (with_step step tree) (threshold P claim)
  step_valid history step (Open block) right valid = (right, valid)
  step_valid history step (Closed block) right valid = ((right, valid.0), valid.1)
  step_valid history step (Listed block j) right valid = ((right, valid.0), valid.1)
  step_valid history step (Split block d first second) right valid = ((right, valid.0), valid.1, valid.2, valid.3)

  abbrev Grows : ℕ → List (List Event) → List ListLine → Type 0
  Grows least paths ls = Grown P claim least paths ls other low

  grow_step : (least : ℕ) (history : List Event) (paths : List (List Event)) (step : Step) (ls : List ListLine) → LinePasses P (AtNodes claim 0 (history ∷ [])) (step_line step) → Grows least ((Did step ∷ history) ∷ paths) ls → Grows least (history ∷ paths) (step_line step ∷ ls)
  grow_step least history paths step ls right g = by_trees g.trees g.lines_are g.valid g.low_is
    where
      by_trees : (trees : List ListTree) → ls ≡ flat_map lines_of_tree trees ++ Says lines.End ∷ [] → AllValid P claim ((Did step ∷ history) ∷ paths) trees → low ≡ min least (least_bound P (threshold P claim) ((Did step ∷ history) ∷ paths) trees) → Grows least (history ∷ paths) (step_line step ∷ ls)
      by_trees [] is valid low_is = absurd valid
      by_trees (tree ∷ trees) is valid low_is = record {
        trees = with_step step tree ∷ trees;
        lines_are = ap (λ x. step_line step ∷ x) is ∙ ap (λ x. (x ++ flat_map lines_of_tree trees) ++ Says lines.End ∷ []) (sym (step_lines step tree));
        valid = (step_valid history step tree right valid.0, valid.1);
        low_is = low_is ∙ ap (λ x. min least (min x (least_bound P (threshold P claim) paths trees))) (sym (step_bound P history step tree (threshold P claim)));
        same = g.same;
      }

  grow_leaf : (least next : ℕ) (history : List Event) (paths : List (List Event)) (tree : ListTree) (l : ListLine) (ls : List ListLine) → lines_of_tree tree ≡ l ∷ [] → IsValid P claim.list history tree (threshold P claim)
      → ((x : ℕ) → x ≤ threshold P claim → min next x ≡ min least (min (bound P history tree (threshold P claim)) x)) → (((trees : List ListTree) → least_bound P (threshold P claim) paths trees ≤ threshold P claim)) → Grows next paths ls → Grows least (history ∷ paths) (l ∷ ls)
  grow_leaf least next history paths tree l ls one valid lower below g = record {
    trees = tree ∷ g.trees;
    lines_are = ap (λ x. l ∷ x) g.lines_are ∙ ap (λ x. (x ++ flat_map lines_of_tree g.trees) ++ Says lines.End ∷ []) (sym one);
    valid = (valid, g.valid);
    low_is = g.low_is ∙ lower (least_bound P (threshold P claim) paths g.trees) (below g.trees);
    same = g.same;
  }

  grow_split : (least : ℕ) (history : List Event) (paths : List (List Event)) (d : Decision) (ls : List ListLine) → LinePasses P (AtNodes claim 0 (history ∷ [])) (Says (lines.Node (Splits d))) → Grows least ((Took d ∷ history) ∷ (Refused d ∷ history) ∷ paths) ls → Grows least (history ∷ paths) (Says (lines.Node (Splits d)) ∷ ls)
  grow_split least history paths d ls right g = by_trees g.trees g.lines_are g.valid g.low_is
    where
      by_trees : (trees : List ListTree) → ls ≡ flat_map lines_of_tree trees ++ Says lines.End ∷ [] → AllValid P claim ((Took d ∷ history) ∷ (Refused d ∷ history) ∷ paths) trees
          → low ≡ min least (least_bound P (threshold P claim) ((Took d ∷ history) ∷ (Refused d ∷ history) ∷ paths) trees) → Grows least (history ∷ paths) (Says (lines.Node (Splits d)) ∷ ls)
      by_trees [] is valid low_is = absurd valid
      by_trees (one ∷ []) is valid low_is = absurd valid.1
      by_trees (one ∷ two ∷ trees) is valid low_is = record {
        trees = Split [] d one two ∷ trees;
        lines_are = ap (λ x. Says (lines.Node (Splits d)) ∷ x) (is ∙ ap (λ x. x ++ Says lines.End ∷ []) (sym (append_assoc (lines_of_tree one) (lines_of_tree two) (flat_map lines_of_tree trees))));
        valid = ((tt, right, valid.0, valid.1.0), valid.1.1);
        low_is = omega (arith, low_is);
        same = g.same;
      }

  least_below : (paths : List (List Event)) (trees : List ListTree) → least_bound P (threshold P claim) paths trees ≤ threshold P claim
  least_below [] trees = omega arith
  least_below (history ∷ paths) [] = omega arith
  least_below (history ∷ paths) (tree ∷ trees) = let more = least_below paths trees in omega (arith, more)

  grow_item : (least : ℕ) (history : List Event) (paths : List (List Event)) (item : Item) (m : State) (ls : List ListLine) → least ≤ threshold P claim → Follows P (AtNodes claim least (history ∷ paths)) (Says (lines.Node item)) m → LinePasses P (AtNodes claim least (history ∷ paths)) (Says (lines.Node item))
      → AllPass P m ls (AtOver other low) → ((x : ℕ) (due : List (List Event)) → x ≤ threshold P claim → AllPass P (AtNodes claim x due) ls (AtOver other low) → Grows x due ls) → Grows least (history ∷ paths) (Says (lines.Node item) ∷ ls)
  grow_item least history paths (Makes step) m ls le NodeLineFollows right rest more = grow_step least history paths step ls right (more least ((Did step ∷ history) ∷ paths) le rest)
  grow_item least history paths LeavesOpen m ls le NodeLineFollows right rest more =
      grow_leaf least (min least (floor P history)) history paths (Open []) (Says (lines.Node LeavesOpen)) ls refl tt (λ x below. omega (arith, le, below)) (least_below paths) (more (min least (floor P history)) paths (omega (arith, le)) rest)
  grow_item least history paths Closes m ls le NodeLineFollows right rest more =
      grow_leaf least least history paths (Closed []) (Says (lines.Node Closes)) ls refl (tt, right) (λ x below. omega (arith, le, below)) (least_below paths) (more least paths le rest)
  grow_item least history paths (Splits d) m ls le NodeLineFollows right rest more = grow_split least history paths d ls right (more least ((Took d ∷ history) ∷ (Refused d ∷ history) ∷ paths) le rest)

  grow_line : (least : ℕ) (paths : List (List Event)) (l : ListLine) (m : State) (ls : List ListLine) → least ≤ threshold P claim → Follows P (AtNodes claim least paths) l m → LinePasses P (AtNodes claim least paths) l → AllPass P m ls (AtOver other low)
      → ((x : ℕ) (due : List (List Event)) → x ≤ threshold P claim → AllPass P (AtNodes claim x due) ls (AtOver other low) → Grows x due ls) → Grows least paths (l ∷ ls)
  grow_line least paths l m ls le (NodeLineFollows {history = history} {paths = others} {item = item}) right rest more = grow_item least history others item m ls le NodeLineFollows right rest more
  grow_line least paths l m ls le (ListsFollows {j = j} {history = history} {paths = others}) right rest more =
      grow_leaf least least history others (Listed [] j) (Lists j) ls refl (tt, right) (λ x below. omega (arith, le, below)) (least_below others) (more least others le rest)
  grow_line least paths l m [] le EndFollows right rest more = record { trees = []; lines_are = refl; valid = tt; low_is = omega (arith, le, bounds rest); same = sym (claims rest) }
    where
      claims : AtOver claim least ≡ AtOver other low → claim ≡ other
      claims e = cc

      bounds : AtOver claim least ≡ AtOver other low → least ≡ low
      bounds e = cc
  grow_line least paths l m (next ∷ ls) le EndFollows right rest more = elim (rest.1.follows) [ ]

  pub grown : (ls : List ListLine) (least : ℕ) (paths : List (List Event)) → least ≤ threshold P claim → AllPass P (AtNodes claim least paths) ls (AtOver other low) → Grows least paths ls
  grown [] least paths le run = absurd cc
  grown (l ∷ ls) least paths le run = grow_line least paths l run.0 ls le run.1.follows run.1.right run.2 (λ x due below rest. grown ls x due below rest)
