use Rattle.std.proofs.Common.{length, reverse, sym, subst}
use Rattle.cfn_model.specs.Network.{Network}
use Rattle.cfn_check.specs.Walking.{AreOwed}
use Rattle.cfn_check.proofs.Walking.{owed_longer, judged_longer, stepped}
use Rattle.cfn_check.proofs.walk.Walk.step.Goals as goal

pub invariant_of-self-2 : goal.invariant_of-self-2
invariant_of-self-2 c =
    let found = c.in_ok-judged.ensures in
    let longer = judged_longer c.self.inside.ledger c.judge.new.self _ _ c.in_ok-judged.judged found.ok in
    subst (λ (P : Network). AreOwed P (length c.judge.new.self.history) (reverse c.self.inside.owed.items)) (sym found.network) (owed_longer _ _ _ _ longer c.self.invariant)

pub returns-clause-steps : goal.returns-clause-steps
returns-clause-steps c =
    rw (c.fault_of.ensures, ← c.self.view_is) (stepped c.self.inside.ledger c.judge.new.self c.self.inside.threshold c.self.inside.least c.self.inside.over (reverse c.self.inside.owed.items) _ c.in_ok-judged.judged c.self.invariant c.in_ok-judged.ensures.ok)
