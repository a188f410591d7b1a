use Rattle.std.proofs.Common.{ap, arith}
use Rattle.cfn_rota.proofs.Moves.{takes}
use Rattle.cfn_rota.proofs.thief.Thief.steal.Goals as goal

pub steal_as-requires-clause-takes : goal.steal_as-requires-clause-takes
steal_as-requires-clause-takes g c = takes g.K.Kind.fits _ _ (let parts = ap (λ v. v.parts) c.loop.invariant.known in omega (arith, parts))
