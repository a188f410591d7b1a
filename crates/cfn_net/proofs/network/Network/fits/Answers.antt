use Rattle.std.proofs.Common.{refl, arith}
use Rattle.cfn_net.proofs.Cells.{Fits-length, Fits-at, Fits-from_each}
use Rattle.cfn_net.proofs.network.Network.fits.Goals as goal

pub returns-then-values-len-clause-fits : goal.returns-then-values-len-clause-fits
returns-then-values-len-clause-fits c =
    (λ e. absurd (cc e), λ k. let same = Fits-length c.args.self.now.sizes c.args.values.now k in absurd (grind arith))

pub returns-then-values-x-clause-fits : goal.returns-then-values-x-clause-fits
returns-then-values-x-clause-fits c =
    (λ e. absurd (cc e), λ k. let below = Fits-at c.args.self.now.sizes c.args.values.now c.loop-x.x k (grind arith) in absurd (grind arith))

pub returns-clause-fits : goal.returns-clause-fits
returns-clause-fits c =
    (λ e. Fits-from_each c.args.self.now.sizes c.args.values.now (grind arith) (λ i l. c.loop-x.invariant i (grind arith)), λ k. refl)
