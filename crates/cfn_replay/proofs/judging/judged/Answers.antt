use Rattle.std.proofs.Common.{subst}
use Rattle.std.proofs.lemmas.Result.{IfOk-weaker}
use Rattle.std.specs.Prelude.{option_map}
use Rattle.cfn_proof.specs.Certificates.{solution_of}
use Rattle.cfn_replay.specs.Judging.{TellsBest}
use Rattle.cfn_replay.proofs.Judged.{judged}
use Rattle.cfn_replay.proofs.judging.judged.Goals as goal

pub returns : goal.returns
returns c = IfOk-weaker c.good_text.result _ _ (λ text good pool best is told.
    let tells = subst (λ t. TellsBest c.args.network.now t best) c.in-Best.is told in
    judged c.args.network.now c.law_limits.ensures pool c.args.leaves is best (solution_of c.in-Best.best) c.in_ok-certificate.certificate tells.0 c.in_ok-certificate.ensures.is (option_map (λ t. t.items) text) c.in_ok-certificate.ensures.spelled good) c.good_text.ensures
