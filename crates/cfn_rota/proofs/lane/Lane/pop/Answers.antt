use Rattle.cfn_rota.proofs.Moves.{takes, finds}
use Rattle.cfn_rota.proofs.lane.Lane.pop.Goals as goal

pub pop_as-requires-clause-fifo : goal.pop_as-requires-clause-fifo
pop_as-requires-clause-fifo g c = λ _. takes g.K.Kind.fits _ _ c.self.invariant.1

pub pop_as-requires-clause-empty : goal.pop_as-requires-clause-empty
pop_as-requires-clause-empty g c = finds g.K.Kind.fits _ _
