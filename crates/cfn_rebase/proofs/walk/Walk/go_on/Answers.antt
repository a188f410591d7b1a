use Rattle.std.proofs.Common.{◌∷◌, reverse, refl, sym, ap, ap₂, ◌∙◌, subst}
use Rattle.std.specs.Prelude.{OnOk}
use Rattle.cfn_model.specs.Network.{Network}
use Rattle.cfn_model.specs.Steps.{IsDecision, after}
use Rattle.cfn_proof.specs.Legs.{event_of}
use Rattle.cfn_proof.specs.Nodes.{tree_at}
use Rattle.cfn_rebase.specs.Making.{decision_of}
use Rattle.cfn_rebase.specs.Walking.{leaves_of, IsWalking, Walks}
use Rattle.cfn_rebase.proofs.Keepings.{due_at}
use Rattle.cfn_rebase.proofs.Walkings.{entered}
use Rattle.cfn_rebase.proofs.walk.Walk.go_on.Goals as goal

pub back-requires : goal.back-requires
back-requires c = c.requires.walking.behind.0

pub enter-requires : goal.enter-requires
enter-requires c = subst (λ (Q : Network). IsDecision Q (decision_of c.args.next.side)) (sym c.back.ensures.network) c.requires.walking.owed.0.decision

pub keep_node-requires : goal.keep_node-requires
keep_node-requires c =
    let w = c.args.self.now in
    let r = c.requires in
    let old = c.args.old.now in
    let next = c.args.next in
    let s = c.enter.new.self in
    let network = c.in_ok-enter.ensures.network ∙ c.back.ensures.network in
    let base = c.in_ok-enter.ensures.base ∙ ap (λ h. event_of next.side ∷ h) (ap₂ after c.back.ensures.block c.back.ensures.base) in
    let ws = reverse w.waiting.items in
    record {
      at = record {
        due = r.due;
        walking = subst (λ Q. IsWalking Q w.threshold old w.tree r.due s (next.leaf.number ∷ leaves_of ws) ws) (sym network)
            (entered w.ground.network w.threshold old w.tree r.due w.ground s next ws r.walking network base c.in_ok-enter.ensures.block);
        threshold = refl;
        here = r.walking.owed.0.is ∙ ap (λ p. due_at p (tree_at old next.old.number)) (sym base);
        there = r.walking.owed.0.there;
      };
      none = c.in_ok-enter.ensures.block;
    }

pub returns-clause-walks : goal.returns-clause-walks
returns-clause-walks c = subst (λ (Q : Network). OnOk c.keep_node.result (Walks Q c.args.self.now.threshold c.args.old.now c.keep_node.new.self)) (c.in_ok-enter.ensures.network ∙ c.back.ensures.network) c.keep_node.ensures.walks
