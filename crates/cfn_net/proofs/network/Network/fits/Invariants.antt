use Rattle.std.proofs.Common.{ℕ, ◌<◌, get_or}
use Rattle.cfn_net.proofs.network.Network.fits.Given as goal

abbrev pub invariant-loop-x : goal.invariant-loop-x
invariant-loop-x l = (y : ℕ) → y < l.x → get_or l.values y 0 < get_or l.self.sizes y 0
