use Rattle.cfn_rota.proofs.Moves.{merges, learns}
use Rattle.cfn_rota.proofs.lane.Lane.absorb.Goals as goal

pub absorb-requires-clause-rule : goal.absorb-requires-clause-rule
absorb-requires-clause-rule g c = merges g.K.Kind.fits _ _ _ _ c.self.invariant.1

pub len_as-requires : goal.len_as-requires
len_as-requires g c = learns g.K.Kind.fits _ _
