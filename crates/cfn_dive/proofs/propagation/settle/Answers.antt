use Rattle.std.proofs.Common.{sym, ◌∙◌, subst}
use Rattle.cfn_model.specs.Network.{IsNetwork}
use Rattle.cfn_store.specs.Standing.{history}
use Rattle.cfn_gain.proofs.CallerLemmas.{opened}
use Rattle.cfn_dive.proofs.Alive.{consistent_alive}
use Rattle.cfn_dive.proofs.propagation.settle.Goals as goal

pub returns-in-Settled-clause-finds : goal.returns-in-Settled-clause-finds
returns-in-Settled-clause-finds c =
    let new = c.settle.new.store in
    (c.in-Settled.ensures.answer, consistent_alive new.network (history new) c.args.limits.threshold (subst IsNetwork (c.network.ensures ∙ sym c.in-Settled.ensures.adds.network) c.law_limits.ensures) c.in-Settled.ensures.answer.arc.nodes)

pub returns-in-Dead-clause-gains : goal.returns-in-Dead-clause-gains
returns-in-Dead-clause-gains c = opened c.args.store.now c.settle.new.store _ c.in-Dead.ensures.gains
