-- A tree in the making, line by line.
use Rattle.std.proofs.Common.{◌≡◌, ◌≢◌, ℕ, suc, ◌+◌, ◌<◌, ◌≤◌, List, [], ◌∷◌, ◌++◌, length, Bool, true, false, inl, inr, refl, sym, ap, ◌∙◌, subst, arith, append_assoc, append-nil}
use Rattle.std.proofs.lemmas.Bool.{cases_Bool, cases_eq, eq-eqb, ne_eqb}
use Rattle.std.specs.Prelude.{None, Some, if◌then◌else◌, ◌==◌}
use Rattle.cfn_model.specs.declared.step.Step.{Step}
use Rattle.cfn_model.specs.declared.step.Decision.{Decision}
use Rattle.cfn_model.specs.Tree as trees
use Rattle.cfn_model.specs.Tree.{Tree}
use Rattle.cfn_fault.specs.Nodes.{Item, Makes, LeavesOpen, Closes, Splits}
use Rattle.cfn_fault.specs.Lines.{Line, Node, lines_of_tree}
use Rattle.cfn_proof.specs.declared.tree.NodeId.{NodeId}
use Rattle.cfn_proof.specs.declared.tree.Node as nodes
use Rattle.cfn_proof.specs.Nodes.{node_at, open_node, IsLinked, split_behind_at, close_at, leave_at, tree_of}
use Rattle.cfn_proof.proofs.CallerLemmas.{length-split_behind_at, split_behind_at-first, split_behind_at-other, split_behind_at-second, length-close_at, close_at-other, length-leave_at, leave_at-other, leave_at-same}
use Rattle.cfn_certtext.specs.Stages.{owed_after}
use Rattle.cfn_mending.specs.Making as made
use Rattle.cfn_mending.proofs.CallerLemmas.{makes_from_one, makes_same, makes_split, makes_close, makes_leave, makes_whole}
use Rattle.cfn_certread.specs.declared.maker.Due.{Due}
use Rattle.cfn_certread.specs.declared.maker.Due.TheVariants.{Read, Skip}
use Rattle.cfn_certread.specs.Narrowing.{is_small_step, is_small_decision, are_small, narrowed}
use Rattle.cfn_certread.specs.Making.{Making, IsNoneOf, AreDue, IsMaking, behind, due_at, left_at, closed_at, sides_at, IsDue, lines_of_trees, IsMade, Reads, Goes}
use Rattle.cfn_certread.proofs.Narrowed.{one_more_small, behind_none, behind_one_more, stops_at_step, stays_open, stays_closed, stays_split, stops_at_split}

-- what is due at the node that a tree is read into, at another one, and at one that none is read into
due_here : (ns : List nodes.Node) (block : List Step) (leaf : NodeId) (due : List Due) (tree : Tree) (left : List Tree) → due_at ns block (Read leaf ∷ due) (tree ∷ left) leaf.number ≡ narrowed (behind block tree)
due_here ns block leaf due tree left = rw (eq-eqb leaf.number leaf.number refl) refl

due_other : (ns : List nodes.Node) (block : List Step) (leaf : NodeId) (due : List Due) (tree : Tree) (left : List Tree) (i : ℕ) → leaf.number ≢ i → due_at ns block (Read leaf ∷ due) (tree ∷ left) i ≡ due_at ns [] due left i
due_other ns block leaf due tree left i other = rw (ne_eqb leaf.number i other) refl

due_none : (ns : List nodes.Node) (block : List Step) (due : List Due) (left : List Tree) (i : ℕ) → IsNoneOf i due → due_at ns block due left i ≡ trees.Open (node_at ns i).block
due_none ns block [] left i none = refl
due_none ns block (here ∷ due) [] i none = refl
due_none ns block (Read leaf ∷ due) (tree ∷ left) i none = due_other ns block leaf due tree left i none.0 ∙ due_none ns [] due left i none.1
due_none ns block (Skip ∷ due) (tree ∷ left) i none = due_none ns [] due left i none

due_stays : (ns new : List nodes.Node) (block : List Step) (due : List Due) (left : List Tree) (i : ℕ) → node_at new i ≡ node_at ns i → due_at new block due left i ≡ due_at ns block due left i
due_stays ns new block [] left i same = ap (λ (n : nodes.Node). trees.Open n.block) same
due_stays ns new block (here ∷ due) [] i same = ap (λ (n : nodes.Node). trees.Open n.block) same
due_stays ns new block (Read leaf ∷ due) (tree ∷ left) i same = ap (λ t. if leaf.number == i then narrowed (behind block tree) else t) (due_stays ns new [] due left i same)
due_stays ns new block (Skip ∷ due) (tree ∷ left) i same = due_stays ns new [] due left i same

-- nodes behind all are due nowhere, and a change at one node leaves the others due
none_fresh : (ns : List nodes.Node) (due : List Due) (i : ℕ) → AreDue ns due → length ns ≤ i → IsNoneOf i due
none_fresh ns [] i are late = tt
none_fresh ns (Read leaf ∷ due) i are late = ((λ same. omega (arith, are.0, same)), none_fresh ns due i are.3 late)
none_fresh ns (Skip ∷ due) i are late = none_fresh ns due i are late

due_kept : (ns new : List nodes.Node) (i : ℕ) (due : List Due) → length ns ≤ length new → ((j : ℕ) → j < length ns → j ≢ i → node_at new j ≡ node_at ns j) → IsNoneOf i due → AreDue ns due → AreDue new due
due_kept ns new i [] more others none are = tt
due_kept ns new i (Read leaf ∷ due) more others none are =
    (omega (arith, are.0), ap (λ (n : nodes.Node). n.end) (others leaf.number are.0 none.0) ∙ are.1, are.2, due_kept ns new i due more others none.1 are.3)
due_kept ns new i (Skip ∷ due) more others none are = due_kept ns new i due more others none are

-- one line more, where for all trees that are left behind it there are such before it
record Before (old new : Making) (item : Item) (left : List Tree) : Type 0 where
  trees : List Tree
  long : length trees ≡ length old.due
  lines : lines_of_trees trees ≡ Node item ∷ lines_of_trees left
  makes : (tree : Tree) → made.Makes old.nodes (due_at old.nodes old.block old.due trees) 0 tree → made.Makes new.nodes (due_at new.nodes new.block new.due left) 0 tree

goes_by : (old new : Making) (item : Item) → length new.due ≡ owed_after (length old.due) item → ((left : List Tree) → length left ≡ length new.due → Before old new item left) → Goes old new item
goes_by old new item owed back = record {
  owed = owed;
  reads = λ read reads left long. (let b = back left long in let m = reads b.trees b.long in record {
    tree = m.tree;
    lines = m.lines ∙ ap (λ ls. read ++ ls) b.lines ∙ sym (append_assoc read (Node item ∷ []) (lines_of_trees left));
    makes = b.makes (narrowed m.tree) m.makes;
  });
}

lines_behind : (step : Step) (tree : Tree) → lines_of_tree (behind (step ∷ []) tree) ≡ Node (Makes step) ∷ lines_of_tree tree
lines_behind step (trees.Open steps) = refl
lines_behind step (trees.Closed steps) = refl
lines_behind step (trees.Split steps d first second) = refl

-- a leaf that is left open where an open leaf is due
leaves : (ns : List nodes.Node) (block : List Step) (leaf : NodeId) (due : List Due) (tree : Tree) (left : List Tree) (whole : Tree) → AreDue ns (Read leaf ∷ due) → narrowed (behind block tree) ≡ trees.Open block
    → made.Makes ns (due_at ns block (Read leaf ∷ due) (tree ∷ left)) 0 whole → made.Makes (leave_at ns leaf.number block) (due_at (leave_at ns leaf.number block) [] due left) 0 whole
leaves ns block leaf due tree left whole are is makes =
    let i = leaf.number in
    let after = leave_at ns i block in
    let old = due_at ns block (Read leaf ∷ due) (tree ∷ left) in
    let here : due_at after [] due left i ≡ old i = due_none after [] due left i are.2 ∙ ap (λ (n : nodes.Node). trees.Open n.block) (leave_at-same ns i block are.0) ∙ sym (due_here ns block leaf due tree left ∙ is) in
    makes_same after old (due_at after [] due left) whole (λ j there. elim (cases_eq j i) [
      | inl at ↦ subst (λ m. due_at after [] due left m ≡ old m) (sym at) here
      | inr other ↦ due_stays ns after [] due left j (leave_at-other ns i block are.0 j other) ∙ sym (due_other ns block leaf due tree left j (λ e. other (sym e)))
    ]) (makes_leave ns old i block whole are.0 are.1 makes)

due_left : (ns : List nodes.Node) (block : List Step) (leaf : NodeId) (due : List Due) → AreDue ns (Read leaf ∷ due) → AreDue (leave_at ns leaf.number block) due
due_left ns block leaf due are =
    due_kept ns (leave_at ns leaf.number block) leaf.number due (omega (arith, length-leave_at ns leaf.number block are.0)) (λ j there other. leave_at-other ns leaf.number block are.0 j other) are.2 are.3

-- a step
pub step_read : (ns : List nodes.Node) (block : List Step) (leaf : NodeId) (due : List Due) (step : Step) → Goes (record { nodes = ns; block = block; due = Read leaf ∷ due }) (record { nodes = ns; block = block ++ step ∷ []; due = Read leaf ∷ due }) (Makes step)
step_read ns block leaf due step = goes_by (record { nodes = ns; block = block; due = Read leaf ∷ due }) (record { nodes = ns; block = block ++ step ∷ []; due = Read leaf ∷ due }) (Makes step) refl back
  where
    back : (left : List Tree) → length left ≡ suc (length due) → Before (record { nodes = ns; block = block; due = Read leaf ∷ due }) (record { nodes = ns; block = block ++ step ∷ []; due = Read leaf ∷ due }) (Makes step) left
    back [] long = absurd (omega (arith, long))
    back (tree ∷ left) long = record {
      trees = behind (step ∷ []) tree ∷ left;
      long = long;
      lines = ap (λ ls. ls ++ lines_of_trees left) (lines_behind step tree);
      makes = λ whole makes. makes_same ns (due_at ns block (Read leaf ∷ due) (behind (step ∷ []) tree ∷ left)) (due_at ns (block ++ step ∷ []) (Read leaf ∷ due) (tree ∷ left)) whole
          (λ j there. ap (λ t. if leaf.number == j then narrowed t else due_at ns [] due left j) (behind_one_more block step tree)) makes;
    }

pub step_stops : (ns : List nodes.Node) (block : List Step) (leaf : NodeId) (due : List Due) (step : Step) → AreDue ns (Read leaf ∷ due) → are_small block ≡ true → is_small_step step ≡ false
    → Goes (record { nodes = ns; block = block; due = Read leaf ∷ due }) (record { nodes = leave_at ns leaf.number block; block = []; due = Skip ∷ due }) (Makes step)
step_stops ns block leaf due step are small is = goes_by (record { nodes = ns; block = block; due = Read leaf ∷ due }) (record { nodes = leave_at ns leaf.number block; block = []; due = Skip ∷ due }) (Makes step) refl back
  where
    back : (left : List Tree) → length left ≡ suc (length due) → Before (record { nodes = ns; block = block; due = Read leaf ∷ due }) (record { nodes = leave_at ns leaf.number block; block = []; due = Skip ∷ due }) (Makes step) left
    back [] long = absurd (omega (arith, long))
    back (tree ∷ left) long = record {
      trees = behind (step ∷ []) tree ∷ left;
      long = long;
      lines = ap (λ ls. ls ++ lines_of_trees left) (lines_behind step tree);
      makes = λ whole makes. leaves ns block leaf due (behind (step ∷ []) tree) left whole are (stops_at_step block small step tree is) makes;
    }

step_skip : (ns : List nodes.Node) (block : List Step) (due : List Due) (step : Step) → Goes (record { nodes = ns; block = block; due = Skip ∷ due }) (record { nodes = ns; block = block; due = Skip ∷ due }) (Makes step)
step_skip ns block due step = goes_by (record { nodes = ns; block = block; due = Skip ∷ due }) (record { nodes = ns; block = block; due = Skip ∷ due }) (Makes step) refl back
  where
    back : (left : List Tree) → length left ≡ suc (length due) → Before (record { nodes = ns; block = block; due = Skip ∷ due }) (record { nodes = ns; block = block; due = Skip ∷ due }) (Makes step) left
    back [] long = absurd (omega (arith, long))
    back (tree ∷ left) long = record {
      trees = behind (step ∷ []) tree ∷ left;
      long = long;
      lines = ap (λ ls. ls ++ lines_of_trees left) (lines_behind step tree);
      makes = λ whole makes. makes;
    }

pub step_skipped : (ns : List nodes.Node) (block : List Step) (here : Due) (due : List Due) (step : Step) → ((leaf : NodeId) → here ≡ Read leaf → ⊥) → Goes (record { nodes = ns; block = block; due = here ∷ due }) (record { nodes = ns; block = block; due = here ∷ due }) (Makes step)
step_skipped ns block (Read leaf) due step not = absurd (not leaf refl)
step_skipped ns block Skip due step not = step_skip ns block due step

-- an open leaf
pub open_read : (ns : List nodes.Node) (block : List Step) (here : Due) (due : List Due) → AreDue ns (here ∷ due) → are_small block ≡ true
    → Goes (record { nodes = ns; block = block; due = here ∷ due }) (record { nodes = left_at ns here block; block = []; due = due }) LeavesOpen
open_read ns block (Read leaf) due are small = goes_by (record { nodes = ns; block = block; due = Read leaf ∷ due }) (record { nodes = leave_at ns leaf.number block; block = []; due = due }) LeavesOpen (omega arith) (λ left long. record {
  trees = trees.Open [] ∷ left;
  long = omega (arith, long);
  lines = refl;
  makes = λ whole makes. leaves ns block leaf due (trees.Open []) left whole are (stays_open block small) makes;
})
open_read ns block Skip due are small = goes_by (record { nodes = ns; block = block; due = Skip ∷ due }) (record { nodes = ns; block = []; due = due }) LeavesOpen (omega arith) (λ left long. record {
  trees = trees.Open [] ∷ left;
  long = omega (arith, long);
  lines = refl;
  makes = λ whole makes. makes;
})

-- a closed leaf
closes : (ns : List nodes.Node) (block : List Step) (leaf : NodeId) (due : List Due) (left : List Tree) (whole : Tree) → AreDue ns (Read leaf ∷ due) → are_small block ≡ true
    → made.Makes ns (due_at ns block (Read leaf ∷ due) (trees.Closed [] ∷ left)) 0 whole → made.Makes (close_at ns leaf.number block) (due_at (close_at ns leaf.number block) [] due left) 0 whole
closes ns block leaf due left whole are small makes =
    let i = leaf.number in
    let after = close_at ns i block in
    let old = due_at ns block (Read leaf ∷ due) (trees.Closed [] ∷ left) in
    makes_close ns old (due_at after [] due left) i block whole are.0 are.1 (due_here ns block leaf due (trees.Closed []) left ∙ stays_closed block small)
    (λ j there other. due_stays ns after [] due left j (close_at-other ns i block are.0 j other) ∙ sym (due_other ns block leaf due (trees.Closed []) left j (λ e. other (sym e)))) makes

pub closed_read : (ns : List nodes.Node) (block : List Step) (here : Due) (due : List Due) → AreDue ns (here ∷ due) → are_small block ≡ true
    → Goes (record { nodes = ns; block = block; due = here ∷ due }) (record { nodes = closed_at ns here block; block = []; due = due }) Closes
closed_read ns block (Read leaf) due are small = goes_by (record { nodes = ns; block = block; due = Read leaf ∷ due }) (record { nodes = close_at ns leaf.number block; block = []; due = due }) Closes (omega arith) (λ left long. record {
  trees = trees.Closed [] ∷ left;
  long = omega (arith, long);
  lines = refl;
  makes = λ whole makes. closes ns block leaf due left whole are small makes;
})
closed_read ns block Skip due are small = goes_by (record { nodes = ns; block = block; due = Skip ∷ due }) (record { nodes = ns; block = []; due = due }) Closes (omega arith) (λ left long. record {
  trees = trees.Closed [] ∷ left;
  long = omega (arith, long);
  lines = refl;
  makes = λ whole makes. makes;
})

-- a split
abbrev first_id : List nodes.Node → NodeId
first_id ns = record { number = length ns }

abbrev second_id : List nodes.Node → NodeId
second_id ns = record { number = length ns + 1 }

splits : (ns : List nodes.Node) (block : List Step) (leaf : NodeId) (due : List Due) (d : Decision) (first second : Tree) (left : List Tree) (whole : Tree) → AreDue ns (Read leaf ∷ due) → are_small block ≡ true → is_small_decision d ≡ true
    → made.Makes ns (due_at ns block (Read leaf ∷ due) (trees.Split [] d first second ∷ left)) 0 whole
    → made.Makes (split_behind_at ns leaf.number block d) (due_at (split_behind_at ns leaf.number block d) [] (Read (first_id ns) ∷ Read (second_id ns) ∷ due) (first ∷ second ∷ left)) 0 whole
splits ns block leaf due d first second left whole are small is makes =
    let i = leaf.number in
    let n = length ns in
    let after = split_behind_at ns i block d in
    let split = trees.Split [] d first second in
    let old = due_at ns block (Read leaf ∷ due) (split ∷ left) in
    let new = due_at after [] (Read (first_id ns) ∷ Read (second_id ns) ∷ due) (first ∷ second ∷ left) in
    let at_first : new n ≡ narrowed first = due_here after [] (first_id ns) (Read (second_id ns) ∷ due) first (second ∷ left) ∙ ap narrowed (behind_none first) in
    let at_second : new (n + 1) ≡ narrowed second = due_other after [] (first_id ns) (Read (second_id ns) ∷ due) first (second ∷ left) (n + 1) (λ e. omega (arith, e)) ∙ due_here after [] (second_id ns) due second left ∙ ap narrowed (behind_none second) in
    let leaf_is : old i ≡ trees.Split block d (new n) (new (n + 1)) = due_here ns block leaf due split left ∙ stays_split block small d first second is ∙ sym (ap (λ t. trees.Split block d t (new (n + 1))) at_first ∙ ap (λ t. trees.Split block d (narrowed first) t) at_second) in
    makes_split ns old new i block d whole are.0 are.1 leaf_is
    (λ j there other. due_other after [] (first_id ns) (Read (second_id ns) ∷ due) first (second ∷ left) j (λ e. omega (arith, e, there)) ∙ due_other after [] (second_id ns) due second left j (λ e. omega (arith, e, there))
    ∙ due_stays ns after [] due left j (split_behind_at-other ns i block d are.0 j there other) ∙ sym (due_other ns block leaf due split left j (λ e. other (sym e)))) makes

lines_split : (d : Decision) (first second : Tree) (left : List Tree) → lines_of_trees (trees.Split [] d first second ∷ left) ≡ Node (Splits d) ∷ lines_of_trees (first ∷ second ∷ left)
lines_split d first second left = ap (λ ls. Node (Splits d) ∷ ls) (append_assoc (lines_of_tree first) (lines_of_tree second) (lines_of_trees left))

split_goes : (old new : Making) (due : List Due) (d : Decision) → length old.due ≡ suc (length due) → length new.due ≡ suc (suc (length due))
    → ((first second : Tree) (left : List Tree) (whole : Tree) → made.Makes old.nodes (due_at old.nodes old.block old.due (trees.Split [] d first second ∷ left)) 0 whole → made.Makes new.nodes (due_at new.nodes new.block new.due (first ∷ second ∷ left)) 0 whole)
    → Goes old new (Splits d)
split_goes old new due d long longer makes = goes_by old new (Splits d) (omega (arith, long, longer)) back
  where
    back : (left : List Tree) → length left ≡ length new.due → Before old new (Splits d) left
    back [] same = absurd (omega (arith, same, longer))
    back (first ∷ []) same = absurd (omega (arith, same, longer))
    back (first ∷ second ∷ left) same = record {
      trees = trees.Split [] d first second ∷ left;
      long = omega (arith, same, long, longer);
      lines = lines_split d first second left;
      makes = makes first second left;
    }

made_of : List nodes.Node → List Step → List Due → Making
made_of ns block due = record { nodes = ns; block = block; due = due }

-- the sides of a split, and what is due behind them
abbrev pub with_sides : Making → List Due → Making
with_sides sides due = record sides { due = sides.due ++ due }

pub split_read : (ns : List nodes.Node) (block : List Step) (here : Due) (due : List Due) (d : Decision) → AreDue ns (here ∷ due) → are_small block ≡ true
    → Goes (record { nodes = ns; block = block; due = here ∷ due }) (with_sides (sides_at ns here block d) due) (Splits d)
split_read ns block (Read leaf) due d are small = elim (cases_Bool (is_small_decision d)) [
  | inl is ↦ rw is (split_goes (record { nodes = ns; block = block; due = Read leaf ∷ due }) (record { nodes = split_behind_at ns leaf.number block d; block = []; due = Read (first_id ns) ∷ Read (second_id ns) ∷ due }) due d refl refl
      (λ first second left whole makes. splits ns block leaf due d first second left whole are small is makes))
  | inr is ↦ rw is (split_goes (record { nodes = ns; block = block; due = Read leaf ∷ due }) (record { nodes = leave_at ns leaf.number block; block = []; due = Skip ∷ Skip ∷ due }) due d refl refl
      (λ first second left whole makes. leaves ns block leaf due (trees.Split [] d first second) left whole are (stops_at_split block small d first second is) makes))
]
split_read ns block Skip due d are small =
    split_goes (record { nodes = ns; block = block; due = Skip ∷ due }) (record { nodes = ns; block = []; due = Skip ∷ Skip ∷ due }) due d refl refl (λ first second left whole makes. makes)

-- what is due stays in order
pub one_due : (ns : List nodes.Node) (here : Due) (due : List Due) → AreDue ns (here ∷ due) → IsDue ns here
one_due ns (Read leaf) due are = (are.0, are.1)
one_due ns Skip due are = tt

pub step_making : (ns : List nodes.Node) (block : List Step) (due : List Due) (step : Step) → IsMaking (record { nodes = ns; block = block; due = due }) → is_small_step step ≡ true → IsMaking (record { nodes = ns; block = block ++ step ∷ []; due = due })
step_making ns block due step is small = record { due = is.due; small = one_more_small block step is.small small }

pub stop_making : (ns : List nodes.Node) (block : List Step) (leaf : NodeId) (due : List Due) → AreDue ns (Read leaf ∷ due) → IsMaking (record { nodes = leave_at ns leaf.number block; block = []; due = Skip ∷ due })
stop_making ns block leaf due are = record { due = due_left ns block leaf due are; small = refl }

pub open_making : (ns : List nodes.Node) (block : List Step) (here : Due) (due : List Due) → AreDue ns (here ∷ due) → IsMaking (record { nodes = left_at ns here block; block = []; due = due })
open_making ns block (Read leaf) due are = record { due = due_left ns block leaf due are; small = refl }
open_making ns block Skip due are = record { due = are; small = refl }

pub close_making : (ns : List nodes.Node) (block : List Step) (here : Due) (due : List Due) → AreDue ns (here ∷ due) → IsMaking (record { nodes = closed_at ns here block; block = []; due = due })
close_making ns block (Read leaf) due are = record {
  due = due_kept ns (close_at ns leaf.number block) leaf.number due (omega (arith, length-close_at ns leaf.number block are.0)) (λ j there other. close_at-other ns leaf.number block are.0 j other) are.2 are.3;
  small = refl;
}
close_making ns block Skip due are = record { due = are; small = refl }

sides_due : (ns : List nodes.Node) (block : List Step) (leaf : NodeId) (due : List Due) (d : Decision) → AreDue ns (Read leaf ∷ due) → AreDue (split_behind_at ns leaf.number block d) (Read (first_id ns) ∷ Read (second_id ns) ∷ due)
sides_due ns block leaf due d are =
    let i = leaf.number in
    let after = split_behind_at ns i block d in
    let len = length-split_behind_at ns i block d are.0 in (
      omega (arith, len),
      ap (λ (n : nodes.Node). n.end) (split_behind_at-first ns i block d are.0),
      ((λ e. omega (arith, e)), none_fresh ns due (length ns) are.3 (omega arith)),
      (
        omega (arith, len),
        ap (λ (n : nodes.Node). n.end) (split_behind_at-second ns i block d are.0),
        none_fresh ns due (length ns + 1) are.3 (omega arith),
        due_kept ns after i due (omega (arith, len)) (λ j there other. split_behind_at-other ns i block d are.0 j there other) are.2 are.3,
      ),
    )

pub split_making : (ns : List nodes.Node) (block : List Step) (here : Due) (due : List Due) (d : Decision) → AreDue ns (here ∷ due) → IsMaking (with_sides (sides_at ns here block d) due)
split_making ns block (Read leaf) due d are = elim (cases_Bool (is_small_decision d)) [
  | inl is ↦ rw is (record { due = sides_due ns block leaf due d are; small = refl })
  | inr is ↦ rw is (record { due = due_left ns block leaf due are; small = refl })
]
split_making ns block Skip due d are = record { due = are; small = refl }

sides_block : (ns : List nodes.Node) (here : Due) (block : List Step) (d : Decision) → (sides_at ns here block d).block ≡ []
sides_block ns (Read leaf) block d = elim (cases_Bool (is_small_decision d)) [ inl is ↦ rw is refl | inr is ↦ rw is refl ]
sides_block ns Skip block d = refl

pub with_sides_is : (ns new : List nodes.Node) (here first second : Due) (block left : List Step) (d : Decision) (due waiting : List Due) → new ≡ (sides_at ns here block d).nodes → left ≡ [] → first ∷ second ∷ [] ≡ (sides_at ns here block d).due
    → waiting ≡ second ∷ due → record { nodes = new; block = left; due = first ∷ waiting } ≡ with_sides (sides_at ns here block d) due
unfolding made_of
with_sides_is ns new here first second block left d due waiting nodes_are none sides_are waits =
    let sides = sides_at ns here block d in
    let is_block : left ≡ sides.block = none ∙ sym (sides_block ns here block d) in
    let is_due : first ∷ waiting ≡ sides.due ++ due = ap (λ ds. first ∷ ds) waits ∙ ap (λ ds. ds ++ due) sides_are in
    same_making nodes_are is_block is_due
  where
    same_making : {n n' : List nodes.Node} {b b' : List Step} {d d' : List Due} → n ≡ n' → b ≡ b' → d ≡ d' → made_of n b d ≡ made_of n' b' d'
    same_making a b c = cc

-- what a step or a decision is that was found to be small, or not
pub found : {A : Type 0} (b : Bool) (x y : A) → (if b then Some x else None) ≡ Some y → (b ≡ true) × (x ≡ y)
found true x y e = (refl, cc)
found false x y e = absurd (cc)

pub not_found : {A : Type 0} (b : Bool) (x : A) → (if b then Some x else None) ≡ None → b ≡ false
not_found true x e = absurd (cc)
not_found false x e = refl

-- at the begin, and at the end
pub begin_reads : Reads (record { nodes = open_node None ∷ []; block = []; due = Read (record { number = 0 }) ∷ [] }) []
begin_reads [] long = absurd (omega (arith, long))
begin_reads (tree ∷ left) long = begun left (omega (arith, long))
  where
    begun : (left : List Tree) → length left ≡ 0 → IsMade (record { nodes = open_node None ∷ []; block = []; due = Read (record { number = 0 }) ∷ [] }) [] (tree ∷ left)
    begun [] none = record {
      tree = tree;
      lines = sym (append-nil (lines_of_tree tree));
      makes = subst (λ t. made.Makes (open_node None ∷ []) (due_at (open_node None ∷ []) [] (Read (record { number = 0 }) ∷ []) (tree ∷ [])) 0 t) (ap narrowed (behind_none tree)) (makes_from_one (due_at (open_node None ∷ []) [] (Read (record { number = 0 }) ∷ []) (tree ∷ [])));
    }
    begun (other ∷ left) none = absurd (omega (arith, none))

pub record IsWhole (m : Making) (read : List Line) : Type 0 where
  pub tree : Tree
  pub lines : lines_of_tree tree ≡ read
  pub is : tree_of m.nodes ≡ narrowed tree

pub all_read : (m : Making) (read : List Line) → IsLinked m.nodes → m.due ≡ [] → Reads m read → IsWhole m read
all_read m read linked over reads =
    let it = reads [] (sym (ap length over)) in
    let makes = subst (λ due. made.Makes m.nodes (due_at m.nodes m.block due []) 0 (narrowed it.tree)) over it.makes in
    record {
      tree = it.tree;
      lines = it.lines ∙ append-nil read;
      is = makes_whole m.nodes (due_at m.nodes m.block [] []) (narrowed it.tree) linked (λ i there free. refl) makes;
    }
