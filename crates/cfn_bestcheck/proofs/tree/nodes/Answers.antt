use Rattle.std.proofs.Common.{◌≡◌, ℕ, ◌+◌, List, ◌∷◌, sym, subst, refl, ◌∙◌}
use Rattle.std.proofs.lemmas.Bool.{iff_false}
use Rattle.std.specs.Prelude.{Option}
use Rattle.cfn_model.specs.declared.step.Event.{Event}
use Rattle.cfn_best.specs.declared.kind.ListFault.{ListFault}
use Rattle.cfn_best.specs.Fault.{Fault}
use Rattle.cfn_bestcheck.specs.Said.{line_in}
use Rattle.cfn_bestcheck.specs.Checking.{claim_of}
use Rattle.cfn_bestcheck.specs.Tree.{Takes}
use Rattle.cfn_bestcheck.proofs.Nodes.{tree_less, tree_more, tree_stops}
use Rattle.cfn_bestcheck.proofs.tree.nodes.Goals as goal

pub tree_line-requires-clause-same : goal.tree_line-requires-clause-same
tree_line-requires-clause-same c = sym c.loop-lines.invariant.tree.network

pub returns-in-Some-clause-stop : goal.returns-in-Some-clause-stop
returns-in-Some-clause-stop c =
    rw c.due-line.ensures (subst (λ (x : List ℕ). Fault c.args.network.now x (c.loop-lines.lines.count + 1) c.in-Some.kind) c.loop-lines.invariant.text
    (tree_stops c.args.network.now (claim_of c.args.opening c.args.list.now) c.loop-lines.lines c.next-said.new.self c.loop-lines.walk c.tree_line.new.walk (line_in c.next-said.result) c.next-said.ensures.tells c.loop-lines.invariant.tree (iff_false c.is_over.ensures c.loop-lines-test.true) c.in-Some.kind (λ (history : List Event) (paths : List (List Event)) (due : c.loop-lines.walk.paths ≡ history ∷ paths). subst (λ (f : Option ListFault). Takes c.args.network.now (claim_of c.args.opening c.args.list.now) c.loop-lines.walk c.tree_line.new.walk history paths (line_in c.next-said.result) f) c.in-Some.is (c.in_ok-kind.ensures.takes (claim_of c.args.opening c.args.list.now) history paths refl c.loop-lines.invariant.tree.threshold_is due))))

pub loop-lines-smaller : goal.loop-lines-smaller
loop-lines-smaller c = tree_less c.args.network.now (claim_of c.args.opening c.args.list.now) c.loop-lines.lines c.next-said.new.self c.loop-lines.walk c.tree_line.new.walk (line_in c.next-said.result) c.next-said.ensures.tells c.loop-lines.invariant.tree (iff_false c.is_over.ensures c.loop-lines-test.true) (λ (history : List Event) (paths : List (List Event)) (due : c.loop-lines.walk.paths ≡ history ∷ paths). subst (λ (f : Option ListFault). Takes c.args.network.now (claim_of c.args.opening c.args.list.now) c.loop-lines.walk c.tree_line.new.walk history paths (line_in c.next-said.result) f) c.in_default.is (c.in_ok-kind.ensures.takes (claim_of c.args.opening c.args.list.now) history paths refl c.loop-lines.invariant.tree.threshold_is due))

pub loop-lines-preserved : goal.loop-lines-preserved
loop-lines-preserved c = record {
  text = c.next-said.ensures.text ∙ c.loop-lines.invariant.text;
  tree = tree_more c.args.network.now (claim_of c.args.opening c.args.list.now) c.loop-lines.lines c.next-said.new.self c.loop-lines.walk c.tree_line.new.walk (line_in c.next-said.result) c.next-said.ensures.tells c.loop-lines.invariant.tree (iff_false c.is_over.ensures c.loop-lines-test.true) c.in_ok-kind.ensures.network (λ (history : List Event) (paths : List (List Event)) (due : c.loop-lines.walk.paths ≡ history ∷ paths). subst (λ (f : Option ListFault). Takes c.args.network.now (claim_of c.args.opening c.args.list.now) c.loop-lines.walk c.tree_line.new.walk history paths (line_in c.next-said.result) f) c.in_default.is (c.in_ok-kind.ensures.takes (claim_of c.args.opening c.args.list.now) history paths refl c.loop-lines.invariant.tree.threshold_is due));
}
