use Rattle.std.proofs.Common.{[], ◌∷◌}
use Rattle.cfn_rota.proofs.Moves.{pushes}
use Rattle.cfn_rota.proofs.lane.Lane.push.Goals as goal

pub push_as-requires-clause-pushes : goal.push_as-requires-clause-pushes
push_as-requires-clause-pushes g c = pushes g.K.Kind.fits _ _ (c.args.task ∷ []) c.self.invariant.1 (c.requires.fits, tt)
