use Rattle.std.proofs.Common.{◌∙◌, subst}
use Rattle.std.specs.Prelude.{IfSome, IsTrue, is_some}
use Rattle.cfn_replay.proofs.Judged.{price_same}
use Rattle.cfn_replay.proofs.judging.threshold.Goals as goal

pub returns-in-Some : goal.returns-in-Some
returns-in-Some c = rw c.in-Some.is (c.price.ensures ∙ price_same c.in-Some.scored.network.upper c.args.network.now.upper c.in-Some.scored.held (subst (λ b. IfSome b (λ scored. IsTrue (is_some scored.held))) c.in-Some.is c.requires))
