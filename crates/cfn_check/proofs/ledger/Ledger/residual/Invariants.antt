use Rattle.cfn_tables.specs.Slots.{shifted}
use Rattle.cfn_check.proofs.Walks.{TakenOff}
use Rattle.cfn_check.proofs.ledger.Ledger.residual.Given as goal

-- what was shifted at the places behind this one is taken off
abbrev pub invariant-loop-place : goal.invariant-loop-place
invariant-loop-place l = TakenOff (λ n. shifted l.network l.self.history l.f n) l.network.sizes l.scope l.initial.residual l.number l.front l.slot l.place l.residual
