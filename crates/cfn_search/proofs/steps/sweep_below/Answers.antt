use Rattle.std.proofs.Common.{refl, arith}
use Rattle.cfn_search.proofs.steps.sweep_below.Goals as goal

pub returns-then-fallen-clause-sweeps : goal.returns-then-fallen-clause-sweeps
returns-then-fallen-clause-sweeps g c = let less = c.if-fallen.true in let is = c.seen.ensures in record { falls = λ h. c.sweep.ensures.sweeps; stays = λ h. absurd (omega (arith, h, less, is)) }

pub returns-else-fallen-clause-sweeps : goal.returns-else-fallen-clause-sweeps
returns-else-fallen-clause-sweeps g c = let most = c.if-fallen.false in let is = c.seen.ensures in record { falls = λ h. absurd (omega (arith, h, most, is)); stays = λ h. refl }
