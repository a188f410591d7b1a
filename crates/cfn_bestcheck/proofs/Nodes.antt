-- What becomes of a walk at a line of a list's tree.
use Rattle.std.proofs.Common.{◌≡◌, ℕ, ◌+◌, ◌<◌, length, List, [], ◌∷◌, ◌++◌, false, true, refl, sym, ap, subst, ◌∙◌}
use Rattle.std.specs.Prelude.{Bool, Option, Some, None, if◌then◌else◌}
use Rattle.cfn_model.specs.declared.step.Event.{Event}
use Rattle.cfn_model.specs.Network.{Network}
use Rattle.cfn_fault.specs.declared.kind.FaultKind.{FaultKind}
use Rattle.cfn_fault.specs.declared.kind.FaultKind.TheVariants as kinds
use Rattle.cfn_fault.specs.Nodes.{Item, paths_after}
use Rattle.cfn_fault.specs.Fault.{FailsPlace}
use Rattle.cfn_fault.specs.Lines as lines
use Rattle.cfn_fault.specs.Judging.{PassesPlace, floor_at, lowest}
use Rattle.cfn_check.specs.Walking.{Walking}
use Rattle.cfn_check.specs.Taking as taking
use Rattle.cfn_check.specs.Taking.{behind_line}
use Rattle.cfn_best.specs.declared.kind.ListFault.{ListFault}
use Rattle.cfn_best.specs.declared.kind.ListFault.TheVariants.{Certificate, Listed}
use Rattle.cfn_best.specs.Lines.{ListLine, Lists, Says, Claim, threshold, AtNodes, Follows, NodeLineFollows, ListsFollows}
use Rattle.cfn_best.specs.Fault.{Fault}
use Rattle.cfn_bestcheck.specs.Position.{Position, IsRead, Tells, At}
use Rattle.cfn_bestcheck.specs.Kinds.{is_of_tree}
use Rattle.cfn_bestcheck.specs.Checking as checking
use Rattle.cfn_bestcheck.specs.Checking.{IsRefused}
use Rattle.cfn_bestcheck.specs.Tree.{InTree, Takes, LeavesListed, of_certificate}
use Rattle.cfn_bestcheck.proofs.Passing.{at_more, refused}
use Rattle.cfn_bestcheck.proofs.Telling.{no_node}

module _ (P : Network) (claim : Claim) (old new : Walking) (history : List Event) (paths : List (List Event)) (same : P ≡ old.network) (k : old.threshold ≡ threshold P claim) where
  -- a line that is none of a tree
  pub none_taken : (o : Option ListLine) → is_of_tree o ≡ false → Takes P claim old new history paths o (Some (Certificate kinds.Text))
  none_taken o none = checking.ByGrammar refl (λ its t is follows. no_node P o its t is none follows)

  -- a line that certificates have too
  pub node_taken : (o : Option ListLine) (it : Item) (fault : Option FaultKind) → o ≡ Some (Says (lines.Node it)) → taking.Takes old new it history paths fault → Takes P claim old new history paths o (of_certificate fault)
  node_taken o it None is taken =
      let right : PassesPlace P (threshold P claim) history it = subst (λ n. PassesPlace P n history it) k (subst (λ N. PassesPlace N old.threshold history it) (sym same) taken.0) in
      let least : new.least ≡ lowest old.least (floor_at P history it) = ap (λ w. w.least) taken.1 ∙ ap (λ N. lowest old.least (floor_at N history it)) (sym same) in
      let due : new.paths ≡ paths_after history it ++ paths = ap (λ w. w.paths) taken.1 in
      record {
        its = Says (lines.Node it);
        line = is;
        follows = subst (λ n. Follows P (AtNodes claim old.least (history ∷ paths)) (Says (lines.Node it)) (AtNodes claim n new.paths)) (sym least) (subst (λ ps. Follows P (AtNodes claim old.least (history ∷ paths)) (Says (lines.Node it)) (AtNodes claim (lowest old.least (floor_at P history it)) ps)) (sym due) NodeLineFollows);
        right = right;
        threshold_is = ap (λ w. w.threshold) taken.1;
      }
  node_taken o it (Some kind) is taken =
      let wrong : FailsPlace P (threshold P claim) history it kind = subst (λ n. FailsPlace P n history it kind) k (subst (λ N. FailsPlace N old.threshold history it kind) (sym same) taken) in
      checking.ByLine (Says (lines.Node it)) _ is NodeLineFollows (kind, refl, wrong)

  -- the leaf of a listed assignment
  pub listed_taken : (o : Option ListLine) (j : ℕ) (answer : Bool) → o ≡ Some (Lists j) → LeavesListed P claim.list old new j history paths answer → Takes P claim old new history paths o (if answer then None else Some Listed)
  listed_taken o j true is leaves =
      let least : new.least ≡ old.least = ap (λ w. w.least) leaves.1 in
      let due : new.paths ≡ paths = ap (λ w. w.paths) leaves.1 in
      record {
        its = Lists j;
        line = is;
        follows = subst (λ n. Follows P (AtNodes claim old.least (history ∷ paths)) (Lists j) (AtNodes claim n new.paths)) (sym least) (subst (λ ps. Follows P (AtNodes claim old.least (history ∷ paths)) (Lists j) (AtNodes claim old.least ps)) (sym due) ListsFollows);
        right = leaves.0;
        threshold_is = ap (λ w. w.threshold) leaves.1;
      }
  listed_taken o j false is leaves = checking.ByLine (Lists j) _ is ListsFollows (refl, leaves)

-- what was read and taken leads on in the tree, or is the fault
first_path : (paths : List (List Event)) → (paths ≡ [] → ⊥) → (history : List Event) × (others : List (List Event)) × (paths ≡ history ∷ others)
first_path [] some = absurd (some refl)
first_path (history ∷ others) some = (history, others, refl)

module _ (P : Network) (claim : Claim) (r s : Position) (old new : Walking) (o : Option ListLine) (tells : Tells r s o) (tree : InTree P r old claim) (some : old.paths ≡ [] → ⊥) where
  pub tree_more : new.network ≡ old.network → ((history : List Event) (paths : List (List Event)) → old.paths ≡ history ∷ paths → Takes P claim old new history paths o None) → InTree P s new claim
  tree_more network takes =
      let first = first_path old.paths some in
      let taken = takes first.0 first.1 first.2 in
      let at : At P r (AtNodes claim old.least (first.0 ∷ first.1)) = subst (λ ps. At P r (AtNodes claim old.least ps)) first.2 tree.at in
      record {
        at = at_more P r s (AtNodes claim old.least (first.0 ∷ first.1)) (AtNodes claim new.least new.paths) o taken.its at tells taken.line taken.follows taken.right;
        network = network ∙ tree.network;
        threshold_is = taken.threshold_is ∙ tree.threshold_is;
      }

  pub tree_stops : (kind : ListFault) → ((history : List Event) (paths : List (List Event)) → old.paths ≡ history ∷ paths → Takes P claim old new history paths o (Some kind)) → Fault P r.text (r.count + 1) kind
  tree_stops kind takes =
      let first = first_path old.paths some in
      let at : At P r (AtNodes claim old.least (first.0 ∷ first.1)) = subst (λ ps. At P r (AtNodes claim old.least ps)) first.2 tree.at in
      refused P r s (AtNodes claim old.least (first.0 ∷ first.1)) o kind at (λ over. let e = over.2 in absurd cc) tells (takes first.0 first.1 first.2)

  -- a line was read
  pub tree_less : ((history : List Event) (paths : List (List Event)) → old.paths ≡ history ∷ paths → Takes P claim old new history paths o None) → length s.rest < length r.rest
  tree_less takes =
      let first = first_path old.paths some in
      let taken = takes first.0 first.1 first.2 in
      let read : IsRead r s taken.its = subst (Tells r s) taken.line tells in
      read.less
