-- The places of a tree, found by its lines; and a line that fails in a certificate, found by the lines before it.
use Rattle.std.proofs.Common.{◌≡◌, ℕ, ◌+◌, List, [], ◌∷◌, ◌++◌, length, map, refl, sym, ap, subst, ◌∙◌, arith, append_assoc, length-append, append-nil}
use Rattle.std.specs.Prelude.{Option, Some, None}
use Rattle.cfn_model.specs.declared.step.Step.{Step}
use Rattle.cfn_model.specs.declared.step.Event.{Event}
use Rattle.cfn_model.specs.declared.step.Event.TheVariants.{Did, Took, Refused}
use Rattle.cfn_model.specs.declared.version.Version as versions
use Rattle.cfn_model.specs.Network.{Network, cost}
use Rattle.cfn_model.specs.Steps.{after}
use Rattle.cfn_model.specs.Tree.{Tree, Open, Closed, Split}
use Rattle.cfn_model.specs.Certificate.{Solution, Certificate, threshold, threshold_of}
use Rattle.cfn_model.specs.Text.{HasTree, IsSpelled, head_lines}
use Rattle.cfn_fault.specs.declared.kind.FaultKind.{FaultKind}
use Rattle.cfn_fault.specs.Nodes.{Item, Makes, LeavesOpen, Closes, Splits, HasItem, paths_after, NodeFollows, ItemFollows}
use Rattle.cfn_fault.specs.Fault.{Place, place, block_places, places, FailsPlace, FailsLine, OtherNetwork, NotBelow, NoSolution, AtPlace}
use Rattle.cfn_fault.specs.Lines.{Line, Version, Numbers, Lower, NoBest, Best, Values, Root, Node, End, lines_of_tree, lines_of_best, lines_of, State, AtVersion, AtNumbers, AtLower, AtBest, AtValues, AtRoot, AtNodes, AtOver, Follows, VersionFollows, NumbersFollow, LowerFollows, NoBestFollows, BestFollows, ValuesFollow, RootFollows, NodeLineFollows, EndFollows, Runs}
use Rattle.cfn_fault.specs.Judging.{threshold_in, LineFails}
use Rattle.cfn_fault.proofs.Running.{has_node, node_follows, same_end, same_follow, run_append, run_split, runs_nodes}

-- the places along lines of nodes
abbrev pub walk : List (List Event) → List Line → List Place
walk [] ls = []
walk (history ∷ paths) [] = []
walk (history ∷ paths) (Node item ∷ ls) = place history item ∷ walk (paths_after history item ++ paths) ls
walk (history ∷ paths) (l ∷ ls) = []

walk_block : (history : List Event) (paths : List (List Event)) (block : List Step) (ls : List Line) → walk (history ∷ paths) (map (λ step. Node (Makes step)) block ++ ls) ≡ block_places history block ++ walk (after block history ∷ paths) ls
walk_block history paths [] ls = refl
walk_block history paths (step ∷ block) ls = ap (λ r. place history (Makes step) ∷ r) (walk_block (Did step ∷ history) paths block ls)

walk_leaf : (history : List Event) (paths : List (List Event)) (block : List Step) (item : Item) (ls : List Line) → paths_after (after block history) item ≡ []
    → walk (history ∷ paths) ((map (λ step. Node (Makes step)) block ++ Node item ∷ []) ++ ls) ≡ (block_places history block ++ place (after block history) item ∷ []) ++ walk paths ls
walk_leaf history paths block item ls none =
    ap (walk (history ∷ paths)) (append_assoc (map (λ step. Node (Makes step)) block) (Node item ∷ []) ls) ∙ walk_block history paths block (Node item ∷ ls)
    ∙ ap (λ p. block_places history block ++ place (after block history) item ∷ walk (p ++ paths) ls) none ∙ sym (append_assoc (block_places history block) (place (after block history) item ∷ []) (walk paths ls))

pub walk_tree : (history : List Event) (paths : List (List Event)) (tree : Tree) (ls : List Line) → walk (history ∷ paths) (lines_of_tree tree ++ ls) ≡ places history tree ++ walk paths ls
walk_tree history paths (Open block) ls = walk_leaf history paths block LeavesOpen ls refl
walk_tree history paths (Closed block) ls = walk_leaf history paths block Closes ls refl
walk_tree history paths (Split block d first second) ls =
    let h = after block history in
    let steps = map (λ step. Node (Makes step)) block in
    let firsts = lines_of_tree first in
    let seconds = lines_of_tree second in
    ap (walk (history ∷ paths)) (append_assoc steps (Node (Splits d) ∷ (firsts ++ seconds)) ls) ∙ walk_block history paths block (Node (Splits d) ∷ ((firsts ++ seconds) ++ ls))
    ∙ ap (λ r. block_places history block ++ place h (Splits d) ∷ r)
    (ap (walk ((Took d ∷ h) ∷ (Refused d ∷ h) ∷ paths)) (append_assoc firsts seconds ls) ∙ walk_tree (Took d ∷ h) ((Refused d ∷ h) ∷ paths) first (seconds ++ ls)
    ∙ ap (λ r. places (Took d ∷ h) first ++ r) (walk_tree (Refused d ∷ h) paths second ls) ∙ sym (append_assoc (places (Took d ∷ h) first) (places (Refused d ∷ h) second) (walk paths ls)))
    ∙ sym (append_assoc (block_places history block) (place h (Splits d) ∷ (places (Took d ∷ h) first ++ places (Refused d ∷ h) second)) (walk paths ls))

-- a place of the walk is a line, with its path due
pub record AtLine (version : versions.Version) (paths : List (List Event)) (ls : List Line) (before : List Place) (at : Place) : Type 0 where
  pub front : List Line
  pub back : List Line
  pub others : List (List Event)
  pub whole : ls ≡ front ++ Node at.item ∷ back
  pub long : length front ≡ length before
  pub run : Runs (AtNodes version paths) front (AtNodes version (at.history ∷ others))

no_place : {A : Type 0} (before : List Place) (at : Place) (behind : List Place) → [] ≡ before ++ at ∷ behind → A
no_place [] at behind e = absurd cc
no_place (p ∷ before) at behind e = absurd cc

same_head : {A : Type 0} {x y : A} {xs ys : List A} → x ∷ xs ≡ y ∷ ys → x ≡ y
same_head e = cc

same_tail : {A : Type 0} {x y : A} {xs ys : List A} → x ∷ xs ≡ y ∷ ys → xs ≡ ys
same_tail e = cc

-- what runs behind a line of a node
behind_node : (version : versions.Version) (history : List Event) (paths : List (List Event)) (item : Item) (ls : List Line) (t : State) → Runs (AtNodes version (history ∷ paths)) (Node item ∷ ls) t
    → HasItem version item × Runs (AtNodes version (paths_after history item ++ paths)) ls t
behind_node version history paths item ls t run =
    let has = has_node run.1 in
    let Q : State → Type 0 = λ x. Runs x ls t in
    (has, subst Q (same_follow (AtNodes version (history ∷ paths)) (Node item) run.0 (AtNodes version (paths_after history item ++ paths)) run.1 (node_follows has)) run.2)

pub line_of_place : (version : versions.Version) (ls : List Line) (paths : List (List Event)) (before : List Place) (at : Place) (behind : List Place) (t : State) → Runs (AtNodes version paths) ls t → walk paths ls ≡ before ++ at ∷ behind
    → AtLine version paths ls before at
line_of_place version ls [] before at behind t run e = no_place before at behind e
line_of_place version [] (history ∷ paths) before at behind t run e = no_place before at behind e
line_of_place version (Node item ∷ ls) (history ∷ paths) [] at behind t run e =
    let is : place history item ≡ at = same_head e in
    let P : Place → Type 0 = λ p. AtLine version (history ∷ paths) (Node item ∷ ls) [] p in
    subst P is (record { front = []; back = ls; others = paths; whole = refl; long = refl; run = refl })
line_of_place version (Node item ∷ ls) (history ∷ paths) (p ∷ before) at behind t run e =
    let its = behind_node version history paths item ls t run in
    let more = line_of_place version ls (paths_after history item ++ paths) before at behind t its.1 (same_tail e) in
    record { front = Node item ∷ more.front; back = more.back; others = more.others; whole = ap (λ r. Node item ∷ r) more.whole; long = omega (arith, more.long); run = (AtNodes version (paths_after history item ++ paths), node_follows its.0, more.run) }
line_of_place version (_ ∷ ls) (history ∷ paths) before at behind t run e = no_place before at behind e

-- and the other way round
pub record AtItem (paths : List (List Event)) (ls front : List Line) (at : Place) : Type 0 where
  pub before : List Place
  pub behind : List Place
  pub whole : walk paths ls ≡ before ++ at ∷ behind
  pub long : length before ≡ length front

same_paths : {v w : versions.Version} {a b : List (List Event)} → AtNodes v a ≡ AtNodes w b → a ≡ b
same_paths e = cc

place_of_line : (version : versions.Version) (front : List Line) (paths : List (List Event)) (back : List Line) (item : Item) (its : versions.Version) (history : List Event) (others : List (List Event)) → Runs (AtNodes version paths) front (AtNodes its (history ∷ others))
    → AtItem paths (front ++ Node item ∷ back) front (place history item)
place_of_line version [] paths back item its history others run =
    let P : List (List Event) → Type 0 = λ x. AtItem x (Node item ∷ back) [] (place history item) in
    subst P (sym (same_paths run)) (record { before = []; behind = walk (paths_after history item ++ others) back; whole = refl; long = refl })
place_of_line version (l ∷ front) paths back item its history others run = by_follow paths l run.0 run.1 run.2 (λ more rest. place_of_line version front more back item its history others rest)
  where
    not_nodes : (s : State) (ls : List Line) (t : State) → Runs s ls t → s ≡ AtOver → (v : versions.Version) (p : List (List Event)) → t ≡ AtNodes v p → ⊥
    not_nodes s [] t run over v p is = let both = sym over ∙ run ∙ is in absurd (cc)
    not_nodes s (l ∷ ls) t run over v p is = let P : State → Type 0 = λ x. Follows x l run.0 in nothing (subst P over run.1)
      where
        nothing : Follows AtOver l run.0 → ⊥
        nothing follows = elim follows [ ]

    by_item : (queue more : List (List Event)) (i : Item) → NodeFollows version queue i more → AtItem more (front ++ Node item ∷ back) front (place history item) → AtItem queue (Node i ∷ (front ++ Node item ∷ back)) (Node i ∷ front) (place history item)
    by_item queue more i (ItemFollows {history = h} has) rest =
        record { before = place h i ∷ rest.before; behind = rest.behind; whole = ap (λ r. place h i ∷ r) rest.whole; long = omega (arith, rest.long) }

    by_follow : (paths : List (List Event)) (l : Line) (m : State) → Follows (AtNodes version paths) l m → Runs m front (AtNodes its (history ∷ others))
        → ((more : List (List Event)) → Runs (AtNodes version more) front (AtNodes its (history ∷ others)) → AtItem more (front ++ Node item ∷ back) front (place history item)) → AtItem paths (l ∷ (front ++ Node item ∷ back)) (l ∷ front) (place history item)
    by_follow queue l m (NodeLineFollows {more = more} {item = i} follows) run recur = by_item queue more i follows (recur more run)
    by_follow queue l m EndFollows run recur = absurd (not_nodes AtOver front (AtNodes its (history ∷ others)) run refl its (history ∷ others) refl)

-- a certificate's lines before its tree
abbrev pub heads : Certificate → Option Solution → List Line
heads c best = Version c.version ∷ Numbers c.variables c.functions c.upper ∷ Lower c.lower ∷ lines_of_best best

abbrev pub heads_of : Certificate → List Line
heads_of c = heads c c.best

head_threshold : (c : Certificate) (best : Option Solution) (ls : List Line) → threshold_in (heads c best ++ ls) ≡ threshold_of c.upper best
head_threshold c None ls = refl
head_threshold c (Some best) ls = refl

runs_heads : (c : Certificate) (best : Option Solution) → Runs AtVersion (heads c best ++ Root ∷ []) (AtNodes c.version ([] ∷ []))
runs_heads c None = (AtNumbers c.version, VersionFollows, (AtLower c.version, NumbersFollow, (AtBest c.version, LowerFollows, (AtRoot c.version, NoBestFollows, (AtNodes c.version ([] ∷ []), RootFollows, refl)))))
runs_heads c (Some best) = (AtNumbers c.version, VersionFollows, (AtLower c.version, NumbersFollow, (AtBest c.version, LowerFollows, (AtValues c.version, BestFollows, (AtRoot c.version, ValuesFollow, (AtNodes c.version ([] ∷ []), RootFollows, refl))))))

head_count : (c : Certificate) (best : Option Solution) → c.best ≡ best → length (heads_of c) ≡ length (head_lines c)
head_count c best is =
    let P : Option Solution → Type 0 = λ b. length (heads c b) ≡ length (head_lines (record c { best = b })) in
    subst P (sym is) (by_best best)
  where
    by_best : (b : Option Solution) → length (heads c b) ≡ length (head_lines (record c { best = b }))
    by_best None = refl
    by_best (Some b) = refl

pub walk_nodes : (tree : Tree) → walk ([] ∷ []) (lines_of_tree tree ++ End ∷ []) ≡ places [] tree
walk_nodes tree = walk_tree [] [] tree (End ∷ []) ∙ append-nil (places [] tree)

-- a line that fails in a certificate, with the lines before it
pub record FailsAt (P : Network) (c : Certificate) (l : ℕ) (kind : FaultKind) : Type 0 where
  pub front : List Line
  pub line : Line
  pub back : List Line
  pub state : State
  pub whole : lines_of c ≡ front ++ line ∷ back
  pub number : l ≡ length front + 1
  pub run : Runs AtVersion front state
  pub fails : LineFails P front state line kind

nodes_of : Tree → List Line
nodes_of tree = lines_of_tree tree ++ End ∷ []

-- a place of a certificate's tree is one of its lines
pub record PlaceLine (c : Certificate) (before : List Place) (at : Place) : Type 0 where
  pub front : List Line
  pub back : List Line
  pub others : List (List Event)
  pub whole : lines_of c ≡ front ++ Node at.item ∷ back
  pub long : length front ≡ length (head_lines c) + 1 + length before
  pub run : Runs AtVersion front (AtNodes c.version (at.history ∷ others))
  pub threshold : threshold_in front ≡ threshold c

pub place_line : (c : Certificate) (before : List Place) (at : Place) (behind : List Place) → HasTree c.version c.tree → places [] c.tree ≡ before ++ at ∷ behind → PlaceLine c before at
unfolding nodes_of
place_line c before at behind has is =
    let it = line_of_place c.version (nodes_of c.tree) ([] ∷ []) before at behind AtOver (runs_nodes c.version c.tree has) (walk_nodes c.tree ∙ is) in
    let head = heads_of c in
    record {
      front = (head ++ Root ∷ []) ++ it.front;
      back = it.back;
      others = it.others;
      whole = ap (λ r. head ++ Root ∷ r) it.whole ∙ sym (append_assoc head (Root ∷ []) (it.front ++ Node at.item ∷ it.back)) ∙ sym (append_assoc (head ++ Root ∷ []) it.front (Node at.item ∷ it.back));
      long = omega (arith, it.long, head_count c c.best refl, length-append (head ++ Root ∷ []) it.front, length-append head (Root ∷ []));
      run = run_append AtVersion (AtNodes c.version ([] ∷ [])) (AtNodes c.version (at.history ∷ it.others)) (head ++ Root ∷ []) it.front (runs_heads c c.best) it.run;
      threshold = ap threshold_in (append_assoc head (Root ∷ []) it.front) ∙ head_threshold c c.best (Root ∷ it.front);
    }

pub fails_at : (P : Network) (c : Certificate) (l : ℕ) (kind : FaultKind) → IsSpelled c → FailsLine P c l kind → FailsAt P c l kind
unfolding nodes_of
fails_at P c l kind all (OtherNetwork number is other) = record {
  front = Version c.version ∷ [];
  line = Numbers c.variables c.functions c.upper;
  back = Lower c.lower ∷ (lines_of_best c.best ++ Root ∷ nodes_of c.tree);
  state = AtNumbers c.version;
  whole = refl;
  number = number;
  run = (AtNumbers c.version, VersionFollows, refl);
  fails = (is, λ same. other (record { variables = same.0; functions = same.1; upper = same.2 }));
}
fails_at P c l kind all (NotBelow best number is some above) = record {
  front = Version c.version ∷ Numbers c.variables c.functions c.upper ∷ Lower c.lower ∷ [];
  line = Best best.cost;
  back = Values best.values ∷ Root ∷ nodes_of c.tree;
  state = AtBest c.version;
  whole = ap (λ b. heads c b ++ Root ∷ nodes_of c.tree) some;
  number = number;
  run = (AtNumbers c.version, VersionFollows, (AtLower c.version, NumbersFollow, (AtBest c.version, LowerFollows, refl)));
  fails = (is, above);
}
fails_at P c l kind all (NoSolution best number is some none) = record {
  front = Version c.version ∷ Numbers c.variables c.functions c.upper ∷ Lower c.lower ∷ Best best.cost ∷ [];
  line = Values best.values;
  back = Root ∷ nodes_of c.tree;
  state = AtValues c.version;
  whole = ap (λ b. heads c b ++ Root ∷ nodes_of c.tree) some;
  number = number;
  run = (AtNumbers c.version, VersionFollows, (AtLower c.version, NumbersFollow, (AtBest c.version, LowerFollows, (AtValues c.version, BestFollows, refl))));
  fails = (is, none);
}
fails_at P c l kind all (AtPlace before behind at number is fails) =
    let it = place_line c before at behind all.has_tree is in
    let Q : ℕ → Type 0 = λ k. FailsPlace P k at.history at.item kind in
    record { front = it.front; line = Node at.item; back = it.back; state = AtNodes c.version (at.history ∷ it.others); whole = it.whole; number = omega (arith, number, it.long); run = it.run; fails = subst Q (sym it.threshold) fails }

-- and the other way round: in the tree all lines are those of nodes
IsNodeLine : Line → Type 0
IsNodeLine (Version version) = ⊥
IsNodeLine (Numbers n e upper) = ⊥
IsNodeLine (Lower lower) = ⊥
IsNodeLine NoBest = ⊥
IsNodeLine (Best cost) = ⊥
IsNodeLine (Values values) = ⊥
IsNodeLine Root = ⊥
IsNodeLine (Node item) = Unit {0}
IsNodeLine End = Unit {0}

AllNodes : List Line → Type 0
AllNodes [] = Unit {0}
AllNodes (l ∷ ls) = IsNodeLine l × AllNodes ls

nodes_append : (a b : List Line) → AllNodes a → AllNodes b → AllNodes (a ++ b)
unfolding AllNodes
nodes_append [] b ha hb = hb
nodes_append (l ∷ a) b ha hb = (ha.0, nodes_append a b ha.1 hb)

block_nodes : (block : List Step) → AllNodes (map (λ step. Node (Makes step)) block)
unfolding AllNodes IsNodeLine
block_nodes [] = tt
block_nodes (step ∷ block) = (tt, block_nodes block)

tree_nodes : (tree : Tree) → AllNodes (lines_of_tree tree)
unfolding AllNodes IsNodeLine
tree_nodes (Open block) = nodes_append _ (Node LeavesOpen ∷ []) (block_nodes block) (tt, tt)
tree_nodes (Closed block) = nodes_append _ (Node Closes ∷ []) (block_nodes block) (tt, tt)
tree_nodes (Split block d first second) = nodes_append _ (Node (Splits d) ∷ (lines_of_tree first ++ lines_of_tree second)) (block_nodes block) (tt, nodes_append _ _ (tree_nodes first) (tree_nodes second))

all_nodes : (tree : Tree) → AllNodes (nodes_of tree)
unfolding nodes_of AllNodes IsNodeLine
all_nodes tree = nodes_append (lines_of_tree tree) (End ∷ []) (tree_nodes tree) (tt, tt)

node_there : (front : List Line) (l : Line) (back : List Line) → AllNodes (front ++ l ∷ back) → IsNodeLine l
unfolding AllNodes
node_there [] l back all = all.0
node_there (m ∷ front) l back all = node_there front l back all.1

in_nodes : (P : Network) (c : Certificate) (fl : List Line) (line : Line) (back : List Line) (s : State) (kind : FaultKind) → IsNodeLine line → nodes_of c.tree ≡ fl ++ line ∷ back → Runs (AtNodes c.version ([] ∷ [])) fl s
    → LineFails P ((heads_of c ++ Root ∷ []) ++ fl) s line kind → FailsLine P c (length ((heads_of c ++ Root ∷ []) ++ fl) + 1) kind
unfolding nodes_of IsNodeLine
in_nodes P c fl (Version version) back s kind node is run fails = absurd node
in_nodes P c fl (Numbers n e upper) back s kind node is run fails = absurd node
in_nodes P c fl (Lower lower) back s kind node is run fails = absurd node
in_nodes P c fl NoBest back s kind node is run fails = absurd node
in_nodes P c fl (Best cost) back s kind node is run fails = absurd node
in_nodes P c fl (Values values) back s kind node is run fails = absurd node
in_nodes P c fl Root back s kind node is run fails = absurd node
in_nodes P c fl End back s kind node is run fails = absurd fails
in_nodes P c fl (Node item) back (AtNodes version (history ∷ paths)) kind node is run fails =
    let it = place_of_line c.version fl ([] ∷ []) back item version history paths run in
    let head = heads_of c in
    let Q : ℕ → Type 0 = λ k. FailsPlace P k history item kind in
    AtPlace it.before it.behind (place history item) (omega (arith, it.long, head_count c c.best refl, length-append (head ++ Root ∷ []) fl, length-append head (Root ∷ []))) (sym (walk_nodes c.tree) ∙ ap (walk ([] ∷ [])) is ∙ it.whole)
    (subst Q (ap threshold_in (append_assoc head (Root ∷ []) fl) ∙ head_threshold c c.best (Root ∷ fl)) fails)
in_nodes P c fl (Node item) back (AtNodes version []) kind node is run fails = absurd fails
in_nodes P c fl (Node item) back AtVersion kind node is run fails = absurd fails
in_nodes P c fl (Node item) back (AtNumbers version) kind node is run fails = absurd fails
in_nodes P c fl (Node item) back (AtLower version) kind node is run fails = absurd fails
in_nodes P c fl (Node item) back (AtBest version) kind node is run fails = absurd fails
in_nodes P c fl (Node item) back (AtValues version) kind node is run fails = absurd fails
in_nodes P c fl (Node item) back (AtRoot version) kind node is run fails = absurd fails
in_nodes P c fl (Node item) back AtOver kind node is run fails = absurd fails

module _ (P : Network) (c : Certificate) (s : State) (kind : FaultKind) where
  lines_by : Option Solution → List Line
  lines_by best = heads c best ++ Root ∷ nodes_of c.tree

  in_tree : (best : Option Solution) → c.best ≡ best → (front fl : List Line) (line : Line) (back : List Line) → (heads c best ++ Root ∷ []) ++ fl ≡ front → nodes_of c.tree ≡ fl ++ line ∷ back
      → Runs AtVersion front s → LineFails P front s line kind → FailsLine P c (length front + 1) kind
  in_tree best is front fl line back same rest run fails =
      let Q : List Line → Type 0 = λ x. Runs AtVersion x s → LineFails P x s line kind → FailsLine P c (length x + 1) kind in
      let head_is : (heads_of c ++ Root ∷ []) ++ fl ≡ front = ap (λ b. (heads c b ++ Root ∷ []) ++ fl) is ∙ same in
      subst Q head_is here run fails
    where
      here : Runs AtVersion ((heads_of c ++ Root ∷ []) ++ fl) s → LineFails P ((heads_of c ++ Root ∷ []) ++ fl) s line kind → FailsLine P c (length ((heads_of c ++ Root ∷ []) ++ fl) + 1) kind
      here run fails =
          let parts = run_split AtVersion s (heads_of c ++ Root ∷ []) fl run in
          let R : State → Type 0 = λ x. Runs x fl s in
          let N : List Line → Type 0 = AllNodes in
          in_nodes P c fl line back s kind (node_there fl line back (subst N rest (all_nodes c.tree))) rest
          (subst R (same_end AtVersion parts.0 (AtNodes c.version ([] ∷ [])) (heads_of c ++ Root ∷ []) parts.1 (runs_heads c c.best)) parts.2) fails

  by_line : (front : List Line) (line its : Line) → its ≡ line → LineFails P front s line kind → LineFails P front s its kind
  by_line front line its is fails = let Q : Line → Type 0 = λ x. LineFails P front s x kind in subst Q (sym is) fails

  by_front : (best : Option Solution) → c.best ≡ best → (front : List Line) (line : Line) (back : List Line) → lines_by best ≡ front ++ line ∷ back → Runs AtVersion front s → LineFails P front s line kind → FailsLine P c (length front + 1) kind
  unfolding lines_by
  by_front best is [] line back e run fails = absurd (by_line [] line (Version c.version) (same_head e) fails)
  by_front best is (a ∷ []) line back e run fails =
      let f = by_line (a ∷ []) line (Numbers c.variables c.functions c.upper) (same_head (same_tail e)) fails in
      OtherNetwork (omega arith) f.0 (λ numbers. f.1 (numbers.variables, numbers.functions, numbers.upper))
  by_front best is (a ∷ b ∷ []) line back e run fails = absurd (by_line (a ∷ b ∷ []) line (Lower c.lower) (same_head (same_tail (same_tail e))) fails)
  by_front None is (a ∷ b ∷ d ∷ []) line back e run fails = absurd (by_line (a ∷ b ∷ d ∷ []) line NoBest (same_head (same_tail (same_tail (same_tail e)))) fails)
  by_front None is (a ∷ b ∷ d ∷ f ∷ []) line back e run fails = absurd (by_line (a ∷ b ∷ d ∷ f ∷ []) line Root (same_head (same_tail (same_tail (same_tail (same_tail e))))) fails)
  by_front None is (a ∷ b ∷ d ∷ f ∷ r ∷ fl) line back e run fails =
      let e1 = same_tail e in
      let e2 = same_tail e1 in
      let e3 = same_tail e2 in
      let e4 = same_tail e3 in
      let h0 : Version c.version ≡ a = same_head e in
      let h1 : Numbers c.variables c.functions c.upper ≡ b = same_head e1 in
      let h2 : Lower c.lower ≡ d = same_head e2 in
      let h3 : NoBest ≡ f = same_head e3 in
      let h4 : Root ≡ r = same_head e4 in
      in_tree None is (a ∷ b ∷ d ∷ f ∷ r ∷ fl) fl line back (cc) (same_tail e4) run fails
  by_front (Some best) is (a ∷ b ∷ d ∷ []) line back e run fails =
      let f = by_line (a ∷ b ∷ d ∷ []) line (Best best.cost) (same_head (same_tail (same_tail (same_tail e)))) fails in
      NotBelow best (omega arith) f.0 is f.1
  by_front (Some best) is (a ∷ b ∷ d ∷ f ∷ []) line back e run fails =
      let e1 = same_tail e in
      let e2 = same_tail e1 in
      let e3 = same_tail e2 in
      let h0 : Version c.version ≡ a = same_head e in
      let h1 : Numbers c.variables c.functions c.upper ≡ b = same_head e1 in
      let h2 : Lower c.lower ≡ d = same_head e2 in
      let h3 : Best best.cost ≡ f = same_head e3 in
      let same : a ∷ b ∷ d ∷ f ∷ [] ≡ Version c.version ∷ Numbers c.variables c.functions c.upper ∷ Lower c.lower ∷ Best best.cost ∷ [] = cc in
      let Q : List Line → Type 0 = λ x. LineFails P x s (Values best.values) kind in
      let g = subst Q same (by_line (a ∷ b ∷ d ∷ f ∷ []) line (Values best.values) (same_head (same_tail e3)) fails) in
      NoSolution best (omega arith) g.0 is g.1
  by_front (Some best) is (a ∷ b ∷ d ∷ f ∷ g ∷ []) line back e run fails = absurd (by_line (a ∷ b ∷ d ∷ f ∷ g ∷ []) line Root (same_head (same_tail (same_tail (same_tail (same_tail (same_tail e)))))) fails)
  by_front (Some best) is (a ∷ b ∷ d ∷ f ∷ g ∷ r ∷ fl) line back e run fails =
      let e1 = same_tail e in
      let e2 = same_tail e1 in
      let e3 = same_tail e2 in
      let e4 = same_tail e3 in
      let e5 = same_tail e4 in
      let h0 : Version c.version ≡ a = same_head e in
      let h1 : Numbers c.variables c.functions c.upper ≡ b = same_head e1 in
      let h2 : Lower c.lower ≡ d = same_head e2 in
      let h3 : Best best.cost ≡ f = same_head e3 in
      let h4 : Values best.values ≡ g = same_head e4 in
      let h5 : Root ≡ r = same_head e5 in
      in_tree (Some best) is (a ∷ b ∷ d ∷ f ∷ g ∷ r ∷ fl) fl line back (cc) (same_tail e5) run fails

  pub fails_line : (front : List Line) (line : Line) (back : List Line) → lines_of c ≡ front ++ line ∷ back → Runs AtVersion front s → LineFails P front s line kind → FailsLine P c (length front + 1) kind
  unfolding lines_by nodes_of
  fails_line front line back e run fails = by_front c.best refl front line back e run fails
