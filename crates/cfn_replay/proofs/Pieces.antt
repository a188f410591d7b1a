-- The lines of a piece, one more or all of them.
use Rattle.std.proofs.Common.{◌≡◌, ℕ, suc, ◌+◌, ◌<◌, ◌≤◌, List, [], ◌∷◌, ◌++◌, length, map, refl, sym, ap, ap₂, ◌∙◌, subst, arith, append_assoc, append-nil, length-append, lt-ltb, true, false, Bool}
use Rattle.std.specs.Prelude.{Option, Some, None, sum_by, ◌&&◌}
use Rattle.std.specs.List.{AllByRecursion}
use Rattle.std.proofs.lemmas.List.Sums.{sum_by-append, sum_by-cons}
use Rattle.cfn_model.specs.declared.step.Step.{Step}
use Rattle.cfn_model.specs.declared.step.Step.TheVariants as steps
use Rattle.cfn_model.specs.declared.step.Decision.{Decision}
use Rattle.cfn_model.specs.declared.step.Decision.TheVariants as decisions
use Rattle.cfn_model.specs.declared.step.Event.{Event}
use Rattle.cfn_model.specs.declared.version.Version.TheVariants.{Second}
use Rattle.cfn_model.specs.Text.{IsSpelledStep}
use Rattle.cfn_model.specs.Tree as trees
use Rattle.cfn_model.specs.Tree.{Tree, count}
use Rattle.cfn_fault.specs.Nodes.{Item, Makes, LeavesOpen, Closes, Splits, HasItem, IsSpelledItem, paths_after, NodeFollows, ItemFollows}
use Rattle.cfn_fault.specs.Lines as lines
use Rattle.cfn_fault.specs.Lines.{Line, Node}
use Rattle.cfn_proof.specs.declared.tree.Node.{Node as Branching}
use Rattle.cfn_proof.specs.Nodes.{open_node, IsLinked}
use Rattle.cfn_certtext.specs.Reading.{item_of}
use Rattle.cfn_certtext.specs.Stages.{owed_after}
use Rattle.cfn_certtext.specs.declared.event.Item.{Item as TextItem}
use Rattle.cfn_certtext.specs.declared.event.Item.TheVariants as items
use Rattle.cfn_certread.specs.Making.{Making, Reads, Goes}
use Rattle.cfn_certread.specs.Narrowing.{narrowed, are_small, is_small, is_small_step, is_small_decision}
use Rattle.cfn_certread.specs.declared.maker.Due.TheVariants.{Read}
use Rattle.cfn_certread.proofs.CallerLemmas.{all_read, begin_reads, all_small, step_back, decision_back, same_item}
use Rattle.cfn_record.specs.Lines.{RecordLine, Says, bytes_of, text_of, IsSpelledLine, said, lines_of_tree, State, AtEvents, LineFollows, NodeLineFollows}
use Rattle.cfn_record.specs.Fault.{MayCome}
use Rattle.cfn_record.proofs.CallerLemmas.{same_line, same_tree, tree_of_lines}
use Rattle.cfn_replay.specs.Position.{Position, IsRead, Tells}
use Rattle.cfn_replay.specs.Capping.{cap, cap_step, cap_decision, cap_block, cap_item, cap_tree}
use Rattle.cfn_replay.specs.Kinds.{cap_text, made_text, is_of_tree, IsNodeLine}
use Rattle.cfn_replay.specs.Piece.{node_lines, made_by, InPiece, IsWholePiece, IsBroken}

-- an item that was told, with 32 bits for each number
pub cap_told : (it : Item) → cap_text (item_of (Node it)) ≡ item_of (Node (cap_item it))
cap_told (Makes step) = ap (λ s. item_of (Node (Makes (cap_step s)))) (step_back step)
cap_told LeavesOpen = refl
cap_told Closes = refl
cap_told (Splits d) = ap (λ d. item_of (Node (Splits (cap_decision d)))) (decision_back d)

pub made_told : (it : Item) → made_text (item_of (Node it)) ≡ made_by it
made_told (Makes step) = refl
made_told LeavesOpen = refl
made_told Closes = refl
made_told (Splits d) = refl

owed_cap : (n : ℕ) (it : Item) → owed_after n (cap_item it) ≡ owed_after n it
owed_cap n (Makes step) = refl
owed_cap n LeavesOpen = refl
owed_cap n Closes = refl
owed_cap n (Splits d) = refl

spelled_step : (step : Step) → IsSpelledStep step → IsSpelledStep (cap_step step)
spelled_step (steps.Project f i a m) s = (omega (arith, s.0), omega (arith, s.1), omega (arith, s.2), s.3, s.4)
spelled_step (steps.Extend f i a m) s = (omega (arith, s.0), omega (arith, s.1), omega (arith, s.2), s.3, s.4)
spelled_step (steps.Lift x m) s = (omega (arith, s.0), s.1, s.2)
spelled_step (steps.CutValue x a) s = (omega (arith, s.0), omega (arith, s.1))
spelled_step (steps.CutTuple f c) s = (omega (arith, s.0), omega (arith, s.1))

pub spelled_cap : (it : Item) → IsSpelledItem it → IsSpelledItem (cap_item it)
spelled_cap (Makes step) s = spelled_step step s
spelled_cap LeavesOpen s = s
spelled_cap Closes s = s
spelled_cap (Splits (decisions.Is x a)) s = (omega (arith, s.0), omega (arith, s.1))
spelled_cap (Splits (decisions.Most x v)) s = (omega (arith, s.0), omega (arith, s.1))

-- a tree with 32 bits for each number is not narrowed
small_cap : (n : ℕ) → is_small (cap n) ≡ true
small_cap n = lt-ltb (cap n) 4294967296 (omega arith)

both : (a b : Bool) → a ≡ true → b ≡ true → (a && b) ≡ true
both a b x y = rw (x, y) refl

small_step : (step : Step) → is_small_step (cap_step step) ≡ true
small_step (steps.Project f i a m) = both _ _ (small_cap f) (both _ _ (small_cap i) (small_cap a))
small_step (steps.Extend f i a m) = both _ _ (small_cap f) (both _ _ (small_cap i) (small_cap a))
small_step (steps.Lift x m) = small_cap x
small_step (steps.CutValue x a) = both _ _ (small_cap x) (small_cap a)
small_step (steps.CutTuple f c) = both _ _ (small_cap f) (small_cap c)

small_decision : (d : Decision) → is_small_decision (cap_decision d) ≡ true
small_decision (decisions.Is x a) = both _ _ (small_cap x) (small_cap a)
small_decision (decisions.Most x v) = both _ _ (small_cap x) (small_cap v)

small_block : (block : List Step) → are_small (cap_block block) ≡ true
small_block [] = refl
small_block (step ∷ block) = rw (small_step step) (small_block block)

pub narrowed_cap : (tree : Tree) → narrowed (cap_tree tree) ≡ cap_tree tree
narrowed_cap (trees.Open block) = ap (λ b. trees.Open b) (all_small (cap_block block) (small_block block))
narrowed_cap (trees.Closed block) = rw (small_block block) refl
narrowed_cap (trees.Split block d first second) =
    rw (small_block block, small_decision d) (ap₂ (λ f s. trees.Split (cap_block block) (cap_decision d) f s) (narrowed_cap first) (narrowed_cap second))

-- the items of a tree's lines
abbrev tree_items : Tree → List Item
tree_items (trees.Open block) = map (λ step. Makes step) block ++ LeavesOpen ∷ []
tree_items (trees.Closed block) = map (λ step. Makes step) block ++ Closes ∷ []
tree_items (trees.Split block d first second) = map (λ step. Makes step) block ++ Splits d ∷ (tree_items first ++ tree_items second)

lines_append : (a b : List Item) → node_lines (a ++ b) ≡ node_lines a ++ node_lines b
lines_append [] b = refl
lines_append (it ∷ a) b = ap (λ ls. Node it ∷ ls) (lines_append a b)

block_lines : (block : List Step) → node_lines (map (λ step. Makes step) block) ≡ map (λ step. Node (Makes step)) block
block_lines [] = refl
block_lines (step ∷ block) = ap (λ ls. Node (Makes step) ∷ ls) (block_lines block)

items_lines : (tree : Tree) → node_lines (tree_items tree) ≡ lines.lines_of_tree tree
items_lines (trees.Open block) = lines_append (map (λ step. Makes step) block) (LeavesOpen ∷ []) ∙ ap (λ ls. ls ++ Node LeavesOpen ∷ []) (block_lines block)
items_lines (trees.Closed block) = lines_append (map (λ step. Makes step) block) (Closes ∷ []) ∙ ap (λ ls. ls ++ Node Closes ∷ []) (block_lines block)
items_lines (trees.Split block d first second) =
    lines_append (map (λ step. Makes step) block) (Splits d ∷ (tree_items first ++ tree_items second))
    ∙ ap₂ (λ a b. a ++ Node (Splits d) ∷ b) (block_lines block) (lines_append (tree_items first) (tree_items second) ∙ ap₂ (λ a b. a ++ b) (items_lines first) (items_lines second))

cap_append : (a b : List Item) → map cap_item (a ++ b) ≡ map cap_item a ++ map cap_item b
cap_append [] b = refl
cap_append (it ∷ a) b = ap (λ more. cap_item it ∷ more) (cap_append a b)

cap_steps : (block : List Step) → map cap_item (map (λ step. Makes step) block) ≡ map (λ step. Makes step) (cap_block block)
cap_steps [] = refl
cap_steps (step ∷ block) = ap (λ more. Makes (cap_step step) ∷ more) (cap_steps block)

items_cap : (tree : Tree) → map cap_item (tree_items tree) ≡ tree_items (cap_tree tree)
items_cap (trees.Open block) = cap_append (map (λ step. Makes step) block) (LeavesOpen ∷ []) ∙ ap (λ a. a ++ LeavesOpen ∷ []) (cap_steps block)
items_cap (trees.Closed block) = cap_append (map (λ step. Makes step) block) (Closes ∷ []) ∙ ap (λ a. a ++ Closes ∷ []) (cap_steps block)
items_cap (trees.Split block d first second) =
    cap_append (map (λ step. Makes step) block) (Splits d ∷ (tree_items first ++ tree_items second))
    ∙ ap₂ (λ a b. a ++ Splits (cap_decision d) ∷ b) (cap_steps block) (cap_append (tree_items first) (tree_items second) ∙ ap₂ (λ a b. a ++ b) (items_cap first) (items_cap second))

steps_made : (block : List Step) → sum_by made_by (map (λ step. Makes step) block) ≡ 0
steps_made [] = refl
steps_made (step ∷ block) = steps_made block

items_made : (tree : Tree) → sum_by made_by (tree_items tree) ≡ count tree
items_made (trees.Open block) =
    let a = sum_by-append made_by (map (λ step. Makes step) block) (LeavesOpen ∷ []) in let s = steps_made block in let o = sum_by-cons made_by LeavesOpen [] in omega (arith, a, s, o)
items_made (trees.Closed block) =
    let a = sum_by-append made_by (map (λ step. Makes step) block) (Closes ∷ []) in let s = steps_made block in let o = sum_by-cons made_by Closes [] in omega (arith, a, s, o)
items_made (trees.Split block d first second) =
    let a = sum_by-append made_by (map (λ step. Makes step) block) (Splits d ∷ (tree_items first ++ tree_items second)) in
    let s = steps_made block in
    let o = sum_by-cons made_by (Splits d) (tree_items first ++ tree_items second) in
    let b = sum_by-append made_by (tree_items first) (tree_items second) in
    let f = items_made first in
    let g = items_made second in
    omega (arith, a, s, o, b, f, g)

same_head : {a b : Line} {xs ys : List Line} → a ∷ xs ≡ b ∷ ys → (a ≡ b) × (xs ≡ ys)
same_head e = ((cc), (cc))

same_node : {a b : Item} → Node a ≡ Node b → a ≡ b
same_node e = cc

same_items : (a b : List Item) → node_lines a ≡ node_lines b → a ≡ b
same_items [] [] e = refl
same_items [] (it ∷ b) e = absurd cc
same_items (it ∷ a) [] e = absurd cc
same_items (it ∷ a) (other ∷ b) e = let h = same_head e in ap₂ (λ x xs. x ∷ xs) (same_node h.0) (same_items a b h.1)

-- nothing was read
pub piece_begins : (start : Position) → InPiece start start (record { nodes = open_node None ∷ []; block = []; due = Read (record { number = 0 }) ∷ [] }) 0
piece_begins start = record {
  items = [];
  paths = [] ∷ [];
  text = refl;
  count = omega arith;
  rest = refl;
  spelled = tt;
  run = refl;
  long = refl;
  reads = begin_reads;
  made_is = refl;
}

-- one line more
run_more : (s t u : lines.State) (ls : List Line) (l : Line) → lines.Runs s ls t → lines.Follows t l u → lines.Runs s (ls ++ l ∷ []) u
run_more s t u [] l run follows = (u, subst (λ x. lines.Follows x l u) (sym run) follows, refl)
run_more s t u (m ∷ ls) l run follows = (run.0, run.1, run_more run.0 t u ls l run.2 follows)

said_more : (a : List Item) (it : Item) → said (node_lines (a ++ it ∷ [])) ≡ said (node_lines a) ++ Says (Node it) ∷ []
said_more [] it = refl
said_more (other ∷ a) it = ap (λ ls. Says (Node other) ∷ ls) (said_more a it)

text_more : (ls : List RecordLine) (l : RecordLine) → text_of (ls ++ l ∷ []) ≡ text_of ls ++ bytes_of l
text_more [] l = append-nil (bytes_of l)
text_more (m ∷ ls) l = ap (λ r. bytes_of m ++ r) (text_more ls l) ∙ sym (append_assoc (bytes_of m) (text_of ls) (bytes_of l))

spelled_more : (ls : List RecordLine) (l : RecordLine) → AllByRecursion IsSpelledLine ls → IsSpelledLine l → AllByRecursion IsSpelledLine (ls ++ l ∷ [])
spelled_more [] l all one = (one, tt)
spelled_more (m ∷ ls) l all one = (all.0, spelled_more ls l all.1 one)

has_item : (it : Item) → HasItem Second it
has_item (Makes step) = tt
has_item LeavesOpen = tt
has_item Closes = tt
has_item (Splits (decisions.Is x a)) = tt
has_item (Splits (decisions.Most x v)) = tt

owed_paths : (history : List Event) (paths : List (List Event)) (it : Item) → length (paths_after history it ++ paths) ≡ owed_after (suc (length paths)) it
owed_paths history paths (Makes step) = refl
owed_paths history paths LeavesOpen = omega arith
owed_paths history paths Closes = omega arith
owed_paths history paths (Splits d) = omega arith

record Next (paths : List (List Event)) (it : Item) : Type 0 where
  more : List (List Event)
  follows : NodeFollows Second paths it more
  long : length more ≡ owed_after (length paths) it

next : (paths : List (List Event)) (it : Item) → 0 < length paths → Next paths it
next [] it some = absurd (omega (arith, some))
next (history ∷ paths) it some = record { more = paths_after history it ++ paths; follows = ItemFollows (has_item it); long = owed_paths history paths it }

pub piece_more : (start old new : Position) (m m' : Making) (made : ℕ) (it : Item) → InPiece start old m made → 0 < length m.due → IsRead old new (Says (Node it)) → Goes m m' (cap_item it) → InPiece start new m' (made + made_by it)
piece_more start old new m m' made it p some read goes =
    let n = next p.paths it (omega (arith, some, p.long)) in
    let front = said (node_lines p.items) in
    record {
      items = p.items ++ it ∷ [];
      paths = n.more;
      text = read.text ∙ p.text;
      count = read.count ∙ ap (λ k. k + 1) p.count ∙ omega (arith, length-append p.items (it ∷ []));
      rest =
          p.rest ∙ ap (λ r. text_of front ++ r) read.rest ∙ sym (append_assoc (text_of front) (bytes_of (Says (Node it))) new.rest)
          ∙ ap (λ x. x ++ new.rest) (sym (text_more front (Says (Node it)))) ∙ ap (λ ls. text_of ls ++ new.rest) (sym (said_more p.items it));
      spelled = subst (AllByRecursion IsSpelledLine) (sym (said_more p.items it)) (spelled_more front (Says (Node it)) p.spelled read.spelled);
      run = subst (λ ls. lines.Runs (lines.AtNodes Second ([] ∷ [])) ls (lines.AtNodes Second n.more)) (sym (lines_append p.items (it ∷ [])))
          (run_more (lines.AtNodes Second ([] ∷ [])) (lines.AtNodes Second p.paths) (lines.AtNodes Second n.more) (node_lines p.items) (Node it) p.run (lines.NodeLineFollows n.follows));
      long = n.long ∙ ap (λ k. owed_after k it) p.long ∙ sym (owed_cap (length m.due) it) ∙ sym goes.owed;
      reads = subst (Reads m') (sym (lines_append (map cap_item p.items) (cap_item it ∷ [])) ∙ ap node_lines (sym (cap_append p.items (it ∷ [])))) (goes.reads (node_lines (map cap_item p.items)) p.reads);
      made_is = omega (arith, p.made_is, sum_by-append made_by p.items (it ∷ []));
    }

-- a line that is none of it
none_follows : (path : List Event) (paths : List (List Event)) (l : RecordLine) (t : State) → LineFollows (AtEvents (path ∷ paths)) l t → is_of_tree (Some l) ≡ false → ⊥
none_follows path paths l t (NodeLineFollows node) none = absurd cc

pub piece_breaks : (start old new : Position) (m : Making) (made : ℕ) (o : Option RecordLine) → InPiece start old m made → 0 < length m.due → Tells old new o → is_of_tree o ≡ false → IsBroken start (old.count + 1)
piece_breaks start old new m made o p some tells none = broken p.paths p.long p.run
  where
    no_line : (o : Option RecordLine) → Tells old new o → is_of_tree o ≡ false → (path : List Event) (paths : List (List Event)) (l : RecordLine) (more : List ℕ) → MayCome (AtEvents (path ∷ paths)) l → old.rest ≡ bytes_of l ++ more → ⊥
    no_line None tells none path paths l more may is = tells l more may.0 is
    no_line (Some its) read none path paths l more may is =
        let same = same_line its l new.rest more read.spelled may.0 (sym read.rest ∙ is) in
        none_follows path paths its may.1 (subst (λ x. LineFollows (AtEvents (path ∷ paths)) x may.1) (sym same.line) may.2) none

    lines_long : (a : List Item) → length (node_lines a) ≡ length a
    lines_long [] = refl
    lines_long (it ∷ a) = ap suc (lines_long a)

    broken : (paths : List (List Event)) → length paths ≡ length m.due → lines.Runs (lines.AtNodes Second ([] ∷ [])) (node_lines p.items) (lines.AtNodes Second paths) → IsBroken start (old.count + 1)
    broken [] long run = absurd (omega (arith, long, some))
    broken (path ∷ paths) long run = record {
      ls = node_lines p.items;
      path = path;
      paths = paths;
      more = old.rest;
      line_is = ap (λ k. k + 1) (p.count ∙ ap (λ k. start.count + k) (sym (lines_long p.items)));
      rest = p.rest;
      spelled = p.spelled;
      run = run;
      none = record { line = λ l more may is. no_line o tells none path paths l more may is; over = λ e. cc };
    }

-- all lines
pub piece_whole : (start r : Position) (m : Making) (made : ℕ) → InPiece start r m made → m.due ≡ [] → IsLinked m.nodes → IsWholePiece start r m.nodes made
piece_whole start r m made p over linked = whole p.paths (p.long ∙ ap length over) p.run
  where
    said_long : (a : List Line) → length (said a) ≡ length a
    said_long [] = refl
    said_long (l ∷ a) = ap suc (said_long a)

    lines_long : (a : List Item) → length (node_lines a) ≡ length a
    lines_long [] = refl
    lines_long (it ∷ a) = ap suc (lines_long a)

    whole : (paths : List (List Event)) → length paths ≡ 0 → lines.Runs (lines.AtNodes Second ([] ∷ [])) (node_lines p.items) (lines.AtNodes Second paths) → IsWholePiece start r m.nodes made
    whole (path ∷ paths) long run = absurd (omega (arith, long))
    whole [] long run =
        let t = tree_of_lines (node_lines p.items) run p.spelled in
        let items_are : p.items ≡ tree_items t.tree = same_items p.items (tree_items t.tree) (t.its ∙ sym (items_lines t.tree)) in
        let read = all_read m (node_lines (map cap_item p.items)) linked over p.reads in
        let capped : lines.lines_of_tree read.tree ≡ lines.lines_of_tree (cap_tree t.tree) =
        read.lines ∙ ap (λ a. node_lines (map cap_item a)) items_are ∙ ap node_lines (items_cap t.tree) ∙ items_lines (cap_tree t.tree) in
        let same : read.tree ≡ cap_tree t.tree = (same_tree read.tree (cap_tree t.tree) [] [] (ap (λ ls. said ls ++ []) capped)).0 in
        record {
          tree = t.tree;
          many = p.count ∙ ap (λ k. start.count + k) (sym (lines_long p.items) ∙ ap length t.its ∙ sym (said_long (lines.lines_of_tree t.tree)));
          rest = p.rest ∙ ap (λ ls. text_of (said ls) ++ r.rest) t.its;
          spelled = subst (λ ls. AllByRecursion IsSpelledLine (said ls)) t.its p.spelled;
          is = read.is ∙ ap narrowed same ∙ narrowed_cap t.tree;
          made_is = p.made_is ∙ ap (sum_by made_by) items_are ∙ items_made t.tree;
        }

-- as the loop goes on
pub told_spelled : (old new : Position) (o : Option RecordLine) (item capped : TextItem) → Tells old new o → IsNodeLine item o → capped ≡ cap_text item → (it : Item) → capped ≡ item_of (Node it) → IsSpelledItem it
told_spelled old new o item capped tells node is it told =
    let read : IsRead old new (Says (Node node.0)) = subst (Tells old new) node.2 tells in
    let same : cap_item node.0 ≡ it = same_item (cap_item node.0) it (sym (cap_told node.0) ∙ ap cap_text (sym node.1) ∙ sym is ∙ told) in
    subst IsSpelledItem same (spelled_cap node.0 read.spelled)

pub told_less : (old new : Position) (o : Option RecordLine) (item : TextItem) → Tells old new o → IsNodeLine item o → length new.rest < length old.rest
told_less old new o item tells node = (let read : IsRead old new (Says (Node node.0)) = subst (Tells old new) node.2 tells in read.less)

pub told_more : (start old new : Position) (m m' : Making) (made made' : ℕ) (o : Option RecordLine) (item capped : TextItem) → InPiece start old m made → 0 < length m.due → Tells old new o → IsNodeLine item o → capped ≡ cap_text item →
    ((it : Item) → capped ≡ item_of (Node it) → Goes m m' it) → made' ≡ made + made_text item → InPiece start new m' made'
told_more start old new m m' made made' o item capped p some tells node is goes made_is =
    let it = node.0 in
    let read : IsRead old new (Says (Node it)) = subst (Tells old new) node.2 tells in
    let more = piece_more start old new m m' made it p some read (goes (cap_item it) (is ∙ ap cap_text node.1 ∙ cap_told it)) in
    subst (InPiece start new m') (sym (made_is ∙ ap (λ n. made + n) (ap made_text node.1 ∙ made_told it))) more

one_made : (it : Item) → made_by it ≤ 1
one_made (Makes step) = omega arith
one_made LeavesOpen = omega arith
one_made Closes = omega arith
one_made (Splits d) = omega arith

few_made : (a : List Item) → sum_by made_by a ≤ length a
few_made [] = omega arith
few_made (it ∷ a) = (let c = sum_by-cons made_by it a in let o = one_made it in let f = few_made a in omega (arith, c, o, f))

pub made_few : (start r : Position) (m : Making) (made : ℕ) → InPiece start r m made → made ≤ r.count
made_few start r m made p = (let f = few_made p.items in omega (arith, f, p.made_is, p.count))

pub text_few : (item : TextItem) → made_text item ≤ 1
text_few items.Closed = omega arith
text_few (items.Split d) = omega arith
text_few _ = omega arith

-- a piece that was read leaves no more than there was
pub whole_less : (start r : Position) (nodes : List Branching) (made : ℕ) → IsWholePiece start r nodes made → length r.rest ≤ length start.rest
whole_less start r nodes made p = (let l = ap length p.rest in let a = length-append (text_of (lines_of_tree p.tree)) r.rest in omega (arith, l, a))
