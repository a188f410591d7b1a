use Rattle.std.proofs.Common.{sym, ◌∙◌, subst}
use Rattle.cfn_store.specs.Standing.{history}
use Rattle.cfn_derivation.specs.Derived.{AllAlive}
use Rattle.cfn_enforcing_tests.proofs.derivations.derived.Goals as goal

pub derive-requires-clause-alive : goal.derive-requires-clause-alive
derive-requires-clause-alive c =
    subst (λ P. AllAlive P (history c.args.store.now)) (c.requires.network ∙ sym c.begin.ensures.network) (c.all_alive.ensures.alive c.if-not-all_alive.false)
