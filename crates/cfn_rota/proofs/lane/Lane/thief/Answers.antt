use Rattle.std.proofs.Common.{ap, arith}
use Rattle.cfn_rota.proofs.Moves.{forks}
use Rattle.cfn_rota.proofs.lane.Lane.thief.Goals as goal

pub another-pass-requires : goal.another-pass-requires
another-pass-requires g c = forks g.K.Kind.fits _ _ (let parts = ap (λ v. v.parts) c.self.view_is in omega (arith, parts, c.requires.parts))
