use Rattle.std.proofs.Common.{sym, ap, ◌∙◌}
use Rattle.cfn_proof.specs.Certificates.{solution_of}
use Rattle.cfn_check.specs.Checking.{cost_of}
use Rattle.cfn_app.proofs.Merges.{cost_held}
use Rattle.cfn_app.proofs.commands.merging.best_cost.Goals as goal

pub returns-in-Some : goal.returns-in-Some
returns-in-Some c =
    let best = c.in-Some.best in
    cost_held best.held best.network.upper c.price.result (c.args.certificate.now.best_is_held best c.in-Some.is) c.price.ensures ∙ ap (λ o. cost_of (solution_of o)) (sym c.in-Some.is)
