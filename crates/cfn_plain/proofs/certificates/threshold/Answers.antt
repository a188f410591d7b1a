use Rattle.std.proofs.Common.{◌≡◌, ℕ, Option, Some, None, refl, ap, ◌∙◌, sym}
use Rattle.std.specs.Prelude.{IsTrue, is_some}
use Rattle.std.proofs.lemmas.Bool.{false≢true}
use Rattle.cfn_model.specs.Certificate.{Solution, threshold_of}
use Rattle.cfn_proof.specs.Certificates.{solution_of}
use Rattle.cfn_plain.proofs.certificates.threshold.Goals as goal

-- where a best is held, its cost is the threshold, whatever the upper bound is
threshold_of-held : (one other : ℕ) (held : Option Solution) → IsTrue (is_some held) → threshold_of one held ≡ threshold_of other held
threshold_of-held one other None held = absurd (false≢true held)
threshold_of-held one other (Some best) held = refl

pub returns-in-Some : goal.returns-in-Some
returns-in-Some c =
    let certificate = c.args.certificate.now in
    let scored = c.in-Some.scored in
    c.price.ensures
    ∙ threshold_of-held scored.network.upper certificate.upper scored.held (certificate.best_is_held scored c.in-Some.is)
    ∙ ap (λ best. threshold_of certificate.upper (solution_of best)) (sym c.in-Some.is)
