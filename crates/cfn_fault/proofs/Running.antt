-- The lines of a certificate run from its begin to its end; and lines that run so are those of a certificate.
use Rattle.std.proofs.Common.{◌≡◌, ℕ, ◌≤◌, List, [], ◌∷◌, ◌++◌, map, refl, sym, ap, ◌∙◌, subst, append_assoc, lit<, lit≤}
use Rattle.std.specs.Prelude.{Option, Some, None}
use Rattle.std.specs.List.{AllByRecursion}
use Rattle.cfn_model.specs.declared.step.Step.{Step}
use Rattle.cfn_model.specs.declared.step.Event.{Event}
use Rattle.cfn_model.specs.declared.step.Event.TheVariants.{Did, Took, Refused}
use Rattle.cfn_model.specs.declared.step.Decision.{Decision}
use Rattle.cfn_model.specs.declared.version.Version as versions
use Rattle.cfn_model.specs.declared.version.Version.TheVariants.{First}
use Rattle.cfn_model.specs.Steps.{after}
use Rattle.cfn_model.specs.Tree.{Tree, Open, Closed, Split}
use Rattle.cfn_model.specs.Certificate.{Solution, Certificate}
use Rattle.cfn_model.specs.Words.{greatest}
use Rattle.cfn_model.specs.Text.{IsSpelledStep, IsSpelledTree, HasDecision, HasTree, IsSpelledBest, IsSpelled}
use Rattle.cfn_fault.specs.Nodes.{Item, Makes, LeavesOpen, Closes, Splits, HasItem, paths_after, NodeFollows, ItemFollows}
use Rattle.cfn_fault.specs.Lines.{Line, Version, Numbers, Lower, NoBest, Best, Values, Root, Node, End, IsSpelledLine, lines_of_tree, lines_of_best, lines_of, State, AtVersion, AtNumbers, AtLower, AtBest, AtValues, AtRoot, AtNodes, AtOver, Follows, VersionFollows, NumbersFollow, LowerFollows, NoBestFollows, BestFollows, ValuesFollow, RootFollows, NodeLineFollows, EndFollows, Runs}

-- an item comes where a path is due, in a version that has it
pub no_node_due : {version : versions.Version} {item : Item} {t : State} → Follows (AtNodes version []) (Node item) t → ⊥
no_node_due (NodeLineFollows follows) = no_item_due follows
  where
    no_item_due : {version : versions.Version} {item : Item} {more : List (List Event)} → NodeFollows version [] item more → ⊥
    no_item_due follows = elim follows [ ]

pub has_node : {version : versions.Version} {history : List Event} {paths : List (List Event)} {item : Item} {t : State} → Follows (AtNodes version (history ∷ paths)) (Node item) t → HasItem version item
has_node (NodeLineFollows follows) = has_it follows
  where
    has_it : {version : versions.Version} {queue more : List (List Event)} {item : Item} → NodeFollows version queue item more → HasItem version item
    has_it (ItemFollows has) = has

pub node_follows : {version : versions.Version} {history : List Event} {paths : List (List Event)} {item : Item} → HasItem version item → Follows (AtNodes version (history ∷ paths)) (Node item) (AtNodes version (paths_after history item ++ paths))
node_follows has = NodeLineFollows (ItemFollows has)

same_paths_after : {version : versions.Version} {paths : List (List Event)} {item : Item} {more others : List (List Event)} → NodeFollows version paths item more → NodeFollows version paths item others → more ≡ others
same_paths_after (ItemFollows has) (ItemFollows also) = refl

pub same_follow : (s : State) (l : Line) (t u : State) → Follows s l t → Follows s l u → t ≡ u
same_follow s l t u VersionFollows VersionFollows = refl
same_follow s l t u NumbersFollow NumbersFollow = refl
same_follow s l t u LowerFollows LowerFollows = refl
same_follow s l t u NoBestFollows NoBestFollows = refl
same_follow s l t u BestFollows BestFollows = refl
same_follow s l t u ValuesFollow ValuesFollow = refl
same_follow s l t u RootFollows RootFollows = refl
same_follow s l t u (NodeLineFollows {version = version} first) (NodeLineFollows second) = ap (AtNodes version) (same_paths_after first second)
same_follow s l t u EndFollows EndFollows = refl

-- where a run ends is said by its lines
pub same_end : (s t u : State) (ls : List Line) → Runs s ls t → Runs s ls u → t ≡ u
same_end s t u [] a b = sym a ∙ b
same_end s t u (l ∷ ls) a b =
    let P : State → Type 0 = λ m. Runs m ls u in
    same_end a.0 t u ls a.2 (subst P (same_follow s l b.0 a.0 b.1 a.1) b.2)

pub run_append : (s t u : State) (a b : List Line) → Runs s a t → Runs t b u → Runs s (a ++ b) u
run_append s t u [] b first second = let P : State → Type 0 = λ m. Runs m b u in subst P (sym first) second
run_append s t u (l ∷ a) b first second = (first.0, first.1, run_append first.0 t u a b first.2 second)

pub run_split : (s u : State) (a b : List Line) → Runs s (a ++ b) u → (t : State) × Runs s a t × Runs t b u
run_split s u [] b run = (s, refl, run)
run_split s u (l ∷ a) b run = let rest = run_split run.0 u a b run.2 in (rest.0, (run.0, run.1, rest.1), rest.2)

pub run_one : (s t : State) (l : Line) → Follows s l t → Runs s (l ∷ []) t
run_one s t l follows = (t, follows, refl)

pub run_one_more : (s t u : State) (ls : List Line) (l : Line) → Runs s ls t → Follows t l u → Runs s (ls ++ l ∷ []) u
run_one_more s t u ls l run follows = run_append s t u ls (l ∷ []) run (run_one t u l follows)

-- the lines of a tree lead from its path to what is due behind it
runs_block : (version : versions.Version) (history : List Event) (paths : List (List Event)) (block : List Step) → Runs (AtNodes version (history ∷ paths)) (map (λ step. Node (Makes step)) block) (AtNodes version (after block history ∷ paths))
runs_block version history paths [] = refl
runs_block version history paths (step ∷ block) = (AtNodes version ((Did step ∷ history) ∷ paths), node_follows tt, runs_block version (Did step ∷ history) paths block)

pub runs_tree : (version : versions.Version) (history : List Event) (paths : List (List Event)) (tree : Tree) → HasTree version tree → Runs (AtNodes version (history ∷ paths)) (lines_of_tree tree) (AtNodes version paths)
runs_tree version history paths (Open block) has = run_append _ _ _ _ _ (runs_block version history paths block) (AtNodes version paths, node_follows tt, refl)
runs_tree version history paths (Closed block) has = run_append _ _ _ _ _ (runs_block version history paths block) (AtNodes version paths, node_follows tt, refl)
runs_tree version history paths (Split block d first second) has =
    run_append (AtNodes version (history ∷ paths)) (AtNodes version (after block history ∷ paths)) (AtNodes version paths) _ (Node (Splits d) ∷ (lines_of_tree first ++ lines_of_tree second)) (runs_block version history paths block) (
      AtNodes version ((Took d ∷ after block history) ∷ (Refused d ∷ after block history) ∷ paths),
      node_follows has.0,
      run_append _ _ _ _ _ (runs_tree version (Took d ∷ after block history) ((Refused d ∷ after block history) ∷ paths) first has.1) (runs_tree version (Refused d ∷ after block history) paths second has.2),
    )

pub runs_nodes : (version : versions.Version) (tree : Tree) → HasTree version tree → Runs (AtNodes version ([] ∷ [])) (lines_of_tree tree ++ End ∷ []) AtOver
runs_nodes version tree has = run_append _ _ _ _ _ (runs_tree version [] [] tree has) (AtOver, EndFollows, refl)

abbrev head_of : Certificate → List Line
head_of c = Version c.version ∷ Numbers c.variables c.functions c.upper ∷ Lower c.lower ∷ lines_of_best c.best

runs_best : (version : versions.Version) (best : Option Solution) → Runs (AtBest version) (lines_of_best best) (AtRoot version)
runs_best version None = (AtRoot version, NoBestFollows, refl)
runs_best version (Some best) = (AtValues version, BestFollows, (AtRoot version, ValuesFollow, refl))

pub runs_certificate : (c : Certificate) → IsSpelled c → Runs AtVersion (lines_of c) AtOver
runs_certificate c all =
    run_append _ _ _ (head_of c) (Root ∷ (lines_of_tree c.tree ++ End ∷ [])) (AtNumbers c.version, VersionFollows, (AtLower c.version, NumbersFollow, (AtBest c.version, LowerFollows, runs_best c.version c.best)))
    (AtNodes c.version ([] ∷ []), RootFollows, runs_nodes c.version c.tree all.has_tree)

-- its lines are spelled where it is
pub spelled_append : (a b : List Line) → AllByRecursion IsSpelledLine a → AllByRecursion IsSpelledLine b → AllByRecursion IsSpelledLine (a ++ b)
spelled_append [] b first second = second
spelled_append (l ∷ a) b first second = (first.0, spelled_append a b first.1 second)

pub spelled_front : (a b : List Line) → AllByRecursion IsSpelledLine (a ++ b) → AllByRecursion IsSpelledLine a
spelled_front [] b all = tt
spelled_front (l ∷ a) b all = (all.0, spelled_front a b all.1)

pub spelled_back : (a b : List Line) → AllByRecursion IsSpelledLine (a ++ b) → AllByRecursion IsSpelledLine b
spelled_back [] b all = all
spelled_back (l ∷ a) b all = spelled_back a b all.1

spelled_block : (block : List Step) → AllByRecursion IsSpelledStep block → AllByRecursion IsSpelledLine (map (λ step. Node (Makes step)) block)
spelled_block [] all = tt
spelled_block (step ∷ block) all = (all.0, spelled_block block all.1)

spelled_tree : (tree : Tree) → IsSpelledTree tree → AllByRecursion IsSpelledLine (lines_of_tree tree)
spelled_tree (Open block) all = spelled_append _ (Node LeavesOpen ∷ []) (spelled_block block all) (tt, tt)
spelled_tree (Closed block) all = spelled_append _ (Node Closes ∷ []) (spelled_block block all) (tt, tt)
spelled_tree (Split block d first second) all =
    spelled_append _ (Node (Splits d) ∷ (lines_of_tree first ++ lines_of_tree second)) (spelled_block block all.0) (all.1, spelled_append _ _ (spelled_tree first all.2) (spelled_tree second all.3))

spelled_best : (best : Option Solution) → IsSpelledBest best → AllByRecursion IsSpelledLine (lines_of_best best)
spelled_best None all = (tt, tt)
spelled_best (Some best) all = (all.0, ((all.1, all.2), tt))

pub spelled_lines : (c : Certificate) → IsSpelled c → AllByRecursion IsSpelledLine (lines_of c)
spelled_lines c all =
    spelled_append (head_of c) (Root ∷ (lines_of_tree c.tree ++ End ∷ [])) (tt, ((all.variables, all.functions, all.upper), (all.lower, spelled_best c.best all.best)))
    (tt, spelled_append _ (End ∷ []) (spelled_tree c.tree all.tree) (tt, tt))

-- lines that end the text from any state
leaves_open : List (List Event) → List Line
leaves_open [] = End ∷ []
leaves_open (path ∷ paths) = Node LeavesOpen ∷ leaves_open paths

completes_nodes : (version : versions.Version) (paths : List (List Event)) → Runs (AtNodes version paths) (leaves_open paths) AtOver
unfolding leaves_open
completes_nodes version [] = (AtOver, EndFollows, refl)
completes_nodes version (path ∷ paths) = (AtNodes version paths, node_follows tt, completes_nodes version paths)

spelled_leaves : (paths : List (List Event)) → AllByRecursion IsSpelledLine (leaves_open paths)
unfolding leaves_open
spelled_leaves [] = (tt, tt)
spelled_leaves (path ∷ paths) = (tt, spelled_leaves paths)

record Completes (s : State) : Type 0 where
  rest : List Line
  run : Runs s rest AtOver
  spelled : AllByRecursion IsSpelledLine rest

before : (s t : State) (l : Line) → Follows s l t → IsSpelledLine l → Completes t → Completes s
before s t l follows spelled completes = record { rest = l ∷ completes.rest; run = (t, follows, completes.run); spelled = (spelled, completes.spelled) }

module _ (version : versions.Version) where
  completes_paths : (paths : List (List Event)) → Completes (AtNodes version paths)
  completes_paths paths = record { rest = leaves_open paths; run = completes_nodes version paths; spelled = spelled_leaves paths }

  completes_root : Completes (AtRoot version)
  completes_root = before (AtRoot version) (AtNodes version ([] ∷ [])) Root RootFollows tt (completes_paths ([] ∷ []))

  completes_values : Completes (AtValues version)
  completes_values = before (AtValues version) (AtRoot version) (Values (0 ∷ [])) ValuesFollow (lit< tt, (lit≤ tt, tt)) completes_root

  completes_best : Completes (AtBest version)
  completes_best = before (AtBest version) (AtRoot version) NoBest NoBestFollows tt completes_root

  completes_lower : Completes (AtLower version)
  completes_lower = before (AtLower version) (AtBest version) (Lower 0) LowerFollows (lit≤ tt) completes_best

  completes_numbers : Completes (AtNumbers version)
  completes_numbers = before (AtNumbers version) (AtLower version) (Numbers 0 0 0) NumbersFollow (lit≤ tt, lit≤ tt, lit≤ tt) completes_lower

completes : (s : State) → Completes s
completes AtVersion = before AtVersion (AtNumbers First) (Version First) VersionFollows tt (completes_numbers First)
completes (AtNumbers version) = completes_numbers version
completes (AtLower version) = completes_lower version
completes (AtBest version) = completes_best version
completes (AtValues version) = completes_values version
completes (AtRoot version) = completes_root version
completes (AtNodes version paths) = completes_paths version paths
completes AtOver = record { rest = []; run = refl; spelled = tt }

-- a tree with one more step before it
with_step : Step → Tree → Tree
with_step step (Open block) = Open (step ∷ block)
with_step step (Closed block) = Closed (step ∷ block)
with_step step (Split block d first second) = Split (step ∷ block) d first second

lines_with_step : (step : Step) (tree : Tree) → lines_of_tree (with_step step tree) ≡ Node (Makes step) ∷ lines_of_tree tree
unfolding with_step
lines_with_step step (Open block) = refl
lines_with_step step (Closed block) = refl
lines_with_step step (Split block d first second) = refl

-- trees for the paths that are due, whose lines are these
data Forest : versions.Version → List (List Event) → List Line → Type 0 where
  NoTree : {version : versions.Version} → Forest version [] (End ∷ [])
  MoreTrees : {version : versions.Version} {path : List Event} {paths : List (List Event)} {lines : List Line} (tree : Tree) (rest : List Line) → IsSpelledTree tree → HasTree version tree → lines ≡ lines_of_tree tree ++ rest → Forest version paths rest
      → Forest version (path ∷ paths) lines

nothing_follows : (l : Line) (m : State) → Follows AtOver l m → ⊥
nothing_follows l m follows = elim follows [ ]

pub nothing_over : (ls : List Line) (s : State) → Runs AtOver ls s → ls ≡ []
nothing_over [] s run = refl
nothing_over (l ∷ ls) s run = absurd (nothing_follows l run.0 run.1)

spelled_with_step : (step : Step) (tree : Tree) → IsSpelledStep step → IsSpelledTree tree → IsSpelledTree (with_step step tree)
unfolding with_step
spelled_with_step step (Open block) first all = (first, all)
spelled_with_step step (Closed block) first all = (first, all)
spelled_with_step step (Split block d first second) one all = ((one, all.0), all.1, all.2, all.3)

has_with_step : (version : versions.Version) (step : Step) (tree : Tree) → HasTree version tree → HasTree version (with_step step tree)
unfolding with_step
has_with_step version step (Open block) has = has
has_with_step version step (Closed block) has = has
has_with_step version step (Split block d first second) has = has

step_forest : (version : versions.Version) (path : List Event) (history : List Event) (paths : List (List Event)) (step : Step) (ls : List Line) → IsSpelledStep step → Forest version (path ∷ paths) ls → Forest version (history ∷ paths) (Node (Makes step) ∷ ls)
step_forest version path history paths step ls one (MoreTrees tree rest all has same forest) =
    MoreTrees (with_step step tree) rest (spelled_with_step step tree one all) (has_with_step version step tree has) (ap (λ x. Node (Makes step) ∷ x) same ∙ ap (λ x. x ++ rest) (sym (lines_with_step step tree))) forest

split_forest : (version : versions.Version) (p q history : List Event) (paths : List (List Event)) (d : Decision) (ls : List Line) → HasDecision version d → IsSpelledLine (Node (Splits d)) → Forest version (p ∷ q ∷ paths) ls → Forest version (history ∷ paths) (Node (Splits d) ∷ ls)
split_forest version p q history paths d ls may one (MoreTrees first rest all has same (MoreTrees second behind others too its forest)) =
    MoreTrees (Split [] d first second) behind (tt, one, all, others) (may, has, too) (ap (λ x. Node (Splits d) ∷ x) (same ∙ ap (λ r. lines_of_tree first ++ r) its ∙ sym (append_assoc (lines_of_tree first) (lines_of_tree second) behind))) forest

node_forest : (version : versions.Version) (history : List Event) (paths : List (List Event)) (item : Item) (ls : List Line) → HasItem version item → IsSpelledLine (Node item) → Forest version (paths_after history item ++ paths) ls → Forest version (history ∷ paths) (Node item ∷ ls)
node_forest version history paths (Makes step) ls has one forest = step_forest version (Did step ∷ history) history paths step ls one forest
node_forest version history paths LeavesOpen ls has one forest = MoreTrees (Open []) ls tt tt refl forest
node_forest version history paths Closes ls has one forest = MoreTrees (Closed []) ls tt tt refl forest
node_forest version history paths (Splits d) ls has one forest = split_forest version (Took d ∷ history) (Refused d ∷ history) history paths d ls has one forest

-- what a run leaves behind its first line, by the state that it comes from
end_forest : (version : versions.Version) (ls : List Line) → Runs AtOver ls AtOver → Forest version [] (End ∷ ls)
end_forest version ls run = let P : List Line → Type 0 = λ x. Forest version [] (End ∷ x) in subst P (sym (nothing_over ls AtOver run)) NoTree

not_over : (version : versions.Version) (paths : List (List Event)) → AtNodes version paths ≡ AtOver → ⊥
not_over version paths e = absurd cc

forest_item : (version : versions.Version) (ls : List Line) (queue more : List (List Event)) (item : Item) → NodeFollows version queue item more → IsSpelledLine (Node item) → Forest version more ls → Forest version queue (Node item ∷ ls)
forest_item version ls queue more item (ItemFollows {history = history} {paths = paths} has) one forest = node_forest version history paths item ls has one forest

forest_by : (version : versions.Version) (ls : List Line) (paths : List (List Event)) (l : Line) (m : State) → Follows (AtNodes version paths) l m → Runs m ls AtOver → IsSpelledLine l
    → ((more : List (List Event)) → Runs (AtNodes version more) ls AtOver → Forest version more ls) → Forest version paths (l ∷ ls)
forest_by version ls paths l m (NodeLineFollows {more = more} {item = item} follows) run one recur = forest_item version ls paths more item follows one (recur more run)
forest_by version ls paths l m EndFollows run one recur = end_forest version ls run

forest : (version : versions.Version) (ls : List Line) (paths : List (List Event)) → Runs (AtNodes version paths) ls AtOver → AllByRecursion IsSpelledLine ls → Forest version paths ls
forest version [] paths run spelled = absurd (not_over version paths run)
forest version (l ∷ ls) paths run spelled = forest_by version ls paths l run.0 run.1 run.2 spelled.0 (λ more rest. forest version ls more rest spelled.1)

one_tree : (version : versions.Version) (path : List Event) (ls : List Line) → Forest version (path ∷ []) ls → (tree : Tree) × IsSpelledTree tree × HasTree version tree × (ls ≡ lines_of_tree tree ++ End ∷ [])
one_tree version path ls (MoreTrees tree rest all has same NoTree) = (tree, all, has, same)

-- lines that run to the end are those of one certificate
pub record Told (ls : List Line) : Type 0 where
  pub certificate : Certificate
  pub spelled : IsSpelled certificate
  pub lines : ls ≡ lines_of certificate

abbrev nodes_of : Tree → List Line
nodes_of tree = Root ∷ (lines_of_tree tree ++ End ∷ [])

FromRoot : versions.Version → List Line → Type 0
FromRoot version ls = (tree : Tree) × IsSpelledTree tree × HasTree version tree × (ls ≡ nodes_of tree)

FromBest : versions.Version → List Line → Type 0
FromBest version ls = (best : Option Solution) × (tree : Tree) × IsSpelledBest best × IsSpelledTree tree × HasTree version tree × (ls ≡ lines_of_best best ++ nodes_of tree)

module _ (version : versions.Version) where
  root_by : (l : Line) (m : State) (ls : List Line) → Follows (AtRoot version) l m → Runs m ls AtOver → AllByRecursion IsSpelledLine ls → FromRoot version (l ∷ ls)
  unfolding FromRoot
  root_by l m ls RootFollows run spelled = let tree = one_tree version [] ls (forest version ls ([] ∷ []) run spelled) in (tree.0, tree.1, tree.2, ap (λ x. Root ∷ x) tree.3)

  root_not_over : AtRoot version ≡ AtOver → ⊥
  root_not_over e = absurd cc

  from_root : (ls : List Line) → Runs (AtRoot version) ls AtOver → AllByRecursion IsSpelledLine ls → FromRoot version ls
  from_root [] run spelled = absurd (root_not_over run)
  from_root (l ∷ ls) run spelled = root_by l run.0 ls run.1 run.2 spelled.1

  values_by : (cost : ℕ) (l : Line) (m : State) (ls : List Line) → cost ≤ greatest → Follows (AtValues version) l m → Runs m ls AtOver → IsSpelledLine l → AllByRecursion IsSpelledLine ls → FromBest version (Best cost ∷ l ∷ ls)
  unfolding FromBest FromRoot
  values_by cost l m ls one (ValuesFollow {values = values}) run two spelled =
      let root = from_root ls run spelled in
      (Some (record { cost = cost; values = values }), root.0, (one, two.0, two.1), root.1, root.2, ap (λ x. Best cost ∷ Values values ∷ x) root.3)

  values_not_over : AtValues version ≡ AtOver → ⊥
  values_not_over e = absurd cc

  from_values : (cost : ℕ) (ls : List Line) → cost ≤ greatest → Runs (AtValues version) ls AtOver → AllByRecursion IsSpelledLine ls → FromBest version (Best cost ∷ ls)
  from_values cost [] one run spelled = absurd (values_not_over run)
  from_values cost (l ∷ ls) one run spelled = values_by cost l run.0 ls one run.1 run.2 spelled.0 spelled.1

  best_by : (l : Line) (m : State) (ls : List Line) → Follows (AtBest version) l m → Runs m ls AtOver → IsSpelledLine l → AllByRecursion IsSpelledLine ls → FromBest version (l ∷ ls)
  unfolding FromBest FromRoot
  best_by l m ls NoBestFollows run one spelled = let root = from_root ls run spelled in (None, root.0, tt, root.1, root.2, ap (λ x. NoBest ∷ x) root.3)
  best_by l m ls (BestFollows {cost = cost}) run one spelled = from_values cost ls one run spelled

  best_not_over : AtBest version ≡ AtOver → ⊥
  best_not_over e = absurd cc

  from_best : (ls : List Line) → Runs (AtBest version) ls AtOver → AllByRecursion IsSpelledLine ls → FromBest version ls
  from_best [] run spelled = absurd (best_not_over run)
  from_best (l ∷ ls) run spelled = best_by l run.0 ls run.1 run.2 spelled.0 spelled.1

  lower_by : (n e upper : ℕ) (l : Line) (m : State) (ls : List Line) → IsSpelledLine (Numbers n e upper) → Follows (AtLower version) l m → Runs m ls AtOver → IsSpelledLine l → AllByRecursion IsSpelledLine ls → Told (Version version ∷ Numbers n e upper ∷ l ∷ ls)
  unfolding FromBest
  lower_by n e upper l m ls one (LowerFollows {lower = lower}) run two spelled =
      let rest = from_best ls run spelled in
      record {
        certificate = record { version = version; variables = n; functions = e; upper = upper; best = rest.0; lower = lower; tree = rest.1 };
        spelled = record { variables = one.0; functions = one.1; upper = one.2; best = rest.2; lower = two; tree = rest.3; has_tree = rest.4 };
        lines = ap (λ x. Version version ∷ Numbers n e upper ∷ Lower lower ∷ x) rest.5;
      }

  lower_not_over : AtLower version ≡ AtOver → ⊥
  lower_not_over e = absurd cc

  from_lower : (n e upper : ℕ) (ls : List Line) → IsSpelledLine (Numbers n e upper) → Runs (AtLower version) ls AtOver → AllByRecursion IsSpelledLine ls → Told (Version version ∷ Numbers n e upper ∷ ls)
  from_lower n e upper [] one run spelled = absurd (lower_not_over run)
  from_lower n e upper (l ∷ ls) one run spelled = lower_by n e upper l run.0 ls one run.1 run.2 spelled.0 spelled.1

  numbers_by : (l : Line) (m : State) (ls : List Line) → Follows (AtNumbers version) l m → Runs m ls AtOver → IsSpelledLine l → AllByRecursion IsSpelledLine ls → Told (Version version ∷ l ∷ ls)
  numbers_by l m ls (NumbersFollow {n = n} {e = e} {upper = upper}) run one spelled = from_lower n e upper ls one run spelled

  numbers_not_over : AtNumbers version ≡ AtOver → ⊥
  numbers_not_over e = absurd cc

  from_numbers : (ls : List Line) → Runs (AtNumbers version) ls AtOver → AllByRecursion IsSpelledLine ls → Told (Version version ∷ ls)
  from_numbers [] run spelled = absurd (numbers_not_over run)
  from_numbers (l ∷ ls) run spelled = numbers_by l run.0 ls run.1 run.2 spelled.0 spelled.1

version_by : (l : Line) (m : State) (ls : List Line) → Follows AtVersion l m → Runs m ls AtOver → AllByRecursion IsSpelledLine ls → Told (l ∷ ls)
version_by l m ls (VersionFollows {version = version}) run spelled = from_numbers version ls run spelled

version_not_over : AtVersion ≡ AtOver → ⊥
version_not_over e = absurd cc

pub told : (ls : List Line) → Runs AtVersion ls AtOver → AllByRecursion IsSpelledLine ls → Told ls
told [] run spelled = absurd (version_not_over run)
told (l ∷ ls) run spelled = version_by l run.0 ls run.1 run.2 spelled.1

-- lines that run to any state begin those of a certificate
pub record Begun (ls : List Line) : Type 0 where
  pub certificate : Certificate
  pub spelled : IsSpelled certificate
  pub rest : List Line
  pub lines : lines_of certificate ≡ ls ++ rest

pub begun : (ls : List Line) (s : State) → Runs AtVersion ls s → AllByRecursion IsSpelledLine ls → Begun ls
begun ls s run spelled =
    let more : Completes s = completes s in
    let whole = told (ls ++ more.rest) (run_append AtVersion s AtOver ls more.rest run more.run) (spelled_append ls more.rest spelled more.spelled) in
    record { certificate = whole.certificate; spelled = whole.spelled; rest = more.rest; lines = sym whole.lines }
