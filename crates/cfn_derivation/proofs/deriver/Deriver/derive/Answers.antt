use Rattle.std.proofs.Common.{◌≡◌, ◌≤◌, length, sym, ap, ◌∙◌, subst}
use Rattle.cfn_store.specs.Standing.{history}
use Rattle.cfn_derivation.specs.Derived.{value_count, AllAlive}
use Rattle.cfn_derivation.proofs.Deriving.{room_at_first}
use Rattle.cfn_derivation.proofs.deriver.Deriver.derive.Goals as goal

pub propagate-requires-clause-room : goal.propagate-requires-clause-room
propagate-requires-clause-room c =
    let same : c.self.inside.network.now ≡ c.args.store.now.network = ap (λ w. w.network) c.self.view_is ∙ sym c.requires.network in
    room_at_first c.args.store.now c.clear.new.self c.clear.ensures.deletions
    (ap (λ w. w.size) c.clear.ensures.waiting ∙ c.self.invariant.waiting_is ∙ ap (λ P. length P.sizes) same)
    (subst (λ n. value_count c.args.store.now.network ≤ n) (sym c.clear.ensures.room) (subst (λ P. value_count P ≤ c.self.inside.work.room) same c.self.invariant.room_is))
    (subst (λ P. value_count P ≤ c.args.store.now.spare) (sym c.requires.network) c.requires.room)

pub propagate-requires-clause-alive : goal.propagate-requires-clause-alive
propagate-requires-clause-alive c = subst (λ P. AllAlive P (history c.args.store.now)) (sym c.requires.network) c.requires.alive
