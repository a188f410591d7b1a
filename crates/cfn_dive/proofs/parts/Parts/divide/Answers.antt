use Rattle.std.proofs.Common.{◌≡◌, ℕ, ◌+◌, [], ◌∷◌, ◌++◌, length, refl, sym, ap, ◌∙◌, subst, arith, false}
use Rattle.std.specs.Prelude.{IfSome}
use Rattle.cfn_model.specs.declared.step.Event.TheVariants.{Took}
use Rattle.cfn_model.specs.Sums.{floor}
use Rattle.cfn_store.specs.Standing.{Standing, history}
use Rattle.cfn_edac.specs.Settling.{IsBehindSettled}
use Rattle.cfn_dive.proofs.Sides.{since_split, settled_moved}
use Rattle.cfn_proof.specs.Nodes.{node_at, split_end}
use Rattle.cfn_proof.proofs.CallerLemmas.{split_behind_at-same}
use Rattle.cfn_dive.specs.declared.parts.Waiting.{Waiting}
use Rattle.cfn_dive.specs.Stack.{Stack}
use Rattle.cfn_dive.specs.Diving.{places, AreWaiting}
use Rattle.cfn_dive.proofs.Splitting.{split_decision, split_strict}
use Rattle.cfn_dive.proofs.Stacks.{current_open}
use Rattle.cfn_dive.proofs.States.{divided, stack_divided, waiting_push, enforced_here, below_root, settled_here}
use Rattle.cfn_dive.proofs.parts.Parts.divide.Goals as goal

pub split_behind-requires-clause-there : goal.split_behind-requires-clause-there
split_behind-requires-clause-there c = (current_open _ _ _ _ _ c.requires.expanding.stack).there

pub split_behind-requires-clause-free : goal.split_behind-requires-clause-free
split_behind-requires-clause-free c = (current_open _ _ _ _ _ c.requires.expanding.stack).free

pub returns-clause-expanded : goal.returns-clause-expanded
returns-clause-expanded c =
    let p = c.args.self.now in
    let g = c.args.growth.now in
    let P = p.store.network in
    let expanding = c.requires.expanding in
    let d = c.args.decision in
    let decision = split_decision p.store d c.requires.splits in
    let one = c.in_ok-first.first in
    let two = c.in_ok-first.second in
    let w : Waiting = record { leaf = two; mark = c.mark.result; decision = d; floor = c.floor-floor.result; settled = c.args.settled } in
    let items : c.push_reserved.new.self.items ≡ p.waiting.items ++ w ∷ [] = c.push_reserved.ensures.items ∙ ap (λ l. l ++ w ∷ []) c.in_ok-reserve.ensures.items in
    let m = c.split_behind.new.self in
    let is = c.in_ok-first.ensures.ok in
    let now = c.take.new.self in
    let base = ap (λ (n : Standing). n.base) c.take.ensures in
    let network = ap (λ (n : Standing). n.network) c.take.ensures in
    let settles = settled_here P p.store c.mark.result g.threshold c.args.settled refl c.mark.ensures c.requires.settled in
    record {
      diving = record {
        kept = record {
          of = record {
            network = network;
            enforcer = expanding.kept.of.enforcer;
            weights = expanding.kept.of.weights;
            incidence = expanding.kept.of.incidence;
            trimmer = expanding.kept.of.trimmer;
            steps = expanding.kept.of.steps;
            values = expanding.kept.of.values;
            offer = expanding.kept.of.offer;
          };
          grown = divided P p g c.args.leaf c.in_ok-block.block d m c.law_linked.ensures.linked c.law_linked-2.ensures.linked is expanding c.in_ok-block.ensures decision (split_strict p.store d c.requires.splits) c.law_block_stays_tame.ensures (enforced_here P p.store g.threshold c.args.settled refl c.requires.threshold c.requires.settled c.requires.groups);
          waiting = subst (AreWaiting P) (sym items) (waiting_push P p.waiting.items w expanding.kept.waiting (record {
            network = ap (λ (n : Standing). n.network) c.mark.ensures;
            decision = decision;
            floor = c.floor-floor.ensures ∙ ap (λ (n : Standing). floor P (history n)) (sym c.mark.ensures);
            settled = settles;
          }));
        };
        at = record {
          stack = subst (λ l. Stack m 0 g.base.value (record { leaf = one.number; path = now.base }) (places l)) (sym items)
              (stack_divided P p g c.args.leaf c.in_ok-block.block d m c.law_linked.ensures.linked c.law_linked-2.ensures.linked is expanding c.in_ok-block.ensures one two w now.base c.in_ok-first.ensures.children.0 c.in_ok-first.ensures.children.1 refl refl c.mark.ensures base);
          block = ap (λ (n : Standing). n.block) c.take.ensures;
          floor = c.floor-floor.ensures ∙ taken_floor (floor P (history p.store)) ∙ ap (floor P) (sym base);
          since = subst (λ o. IfSome o (IsBehindSettled now)) (sym c.since.ensures)
              (since_split c.args.settled (Took d) now (history p.store) (ap history c.take.ensures)
              (λ is_settled. settled_moved P now.network (history c.mark.result) (history p.store) (sym network) (ap history c.mark.ensures) (settles is_settled)));
          root = below_root false _ refl;
        };
      };
      nodes = refl;
    }
  where
    taken_floor : (n : ℕ) → n ≡ 0 + n
    taken_floor n = omega arith

pub returns-clause-split : goal.returns-clause-split
returns-clause-split c =
    let nodes = c.args.growth.now.tree in
    let i = c.args.leaf.number in
    let d = c.args.decision in
    ap (λ l. node_at l i) c.in_ok-first.ensures.ok ∙ split_behind_at-same nodes i c.in_ok-block.block d (current_open _ _ _ _ _ c.requires.expanding.stack).there
    ∙ ap (λ b. record (node_at nodes i) { block = b; end = split_end d (length nodes) }) c.in_ok-block.ensures
