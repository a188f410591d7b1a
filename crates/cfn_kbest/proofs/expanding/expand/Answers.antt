use Rattle.std.proofs.Common.{◌≡◌, true, sym, subst}
use Rattle.cfn_model.specs.Tree.{CanClose}
use Rattle.cfn_store.specs.Standing.{history}
use Rattle.cfn_dive.specs.Enforcing.{Finds, IsSettledAt}
use Rattle.cfn_dive.specs.declared.parts.Parts.{Parts}
use Rattle.cfn_dive.proofs.CallerLemmas.{settled_alive, spent_alive}
use Rattle.cfn_kbest.proofs.Expansions.{settled_here, unsettled_here}
use Rattle.cfn_kbest.proofs.expanding.expand.Goals as goal
use Rattle.cfn_kbest.proofs.expanding.expand.Goals.{in-Settled, in-Spent}

pub divide-requires-clause-settled : goal.divide-requires-clause-settled
divide-requires-clause-settled g c =
    let P = c.args.network.now in
    let s = c.enforce_at.new.parts.store in
    let k = c.args.threshold in
    let found = c.in_ok-enforce_at.field-0 in
    let settled = c.match-branch-2.settled in
    subst (λ (p : Parts). settled ≡ true → IsSettledAt P (history p.store)) (sym c.decide.ensures.same)
    (elim c.match-branch-2.branch [
      | in-Settled w ↦ settled_here P s k found settled c.enforce_at.ensures.of.network w.in-Settled.is c.in_ok-enforce_at.ensures.finds
      | in-Spent w ↦ unsettled_here P s settled w.settled-is
    ])

pub conclude-requires-clause-alive : goal.conclude-requires-clause-alive
conclude-requires-clause-alive g c =
    let P = c.args.network.now in
    let s = c.enforce_at.new.parts.store in
    let k = c.args.threshold in
    let found = c.in_ok-enforce_at.field-0 in
    subst (λ (p : Parts). CanClose P (history p.store) k → ⊥) (sym c.decide.ensures.same)
    (subst (λ Q. CanClose Q (history s) k → ⊥) c.enforce_at.ensures.of.network
    (elim c.match-branch-2.branch [
      | in-Settled w ↦ settled_alive s.network (history s) k found w.in-Settled.is c.in_ok-enforce_at.ensures.finds
      | in-Spent w ↦ spent_alive s.network (history s) k found w.in-Spent.is c.in_ok-enforce_at.ensures.finds
    ]))

pub close_dead-requires-clause-closes : goal.close_dead-requires-clause-closes
close_dead-requires-clause-closes g c =
    let s = c.enforce_at.new.parts.store in
    let k = c.args.threshold in
    subst (λ Q. CanClose Q (history s) k) c.enforce_at.ensures.of.network
    (subst (Finds s.network (history s) k) c.in-Dead.is c.in_ok-enforce_at.ensures.finds)
