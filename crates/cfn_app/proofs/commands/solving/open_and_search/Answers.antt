use Rattle.std.proofs.Common.{sym, subst, ◌∙◌}
use Rattle.cfn_proof.specs.Certificates.{certificate_of, solution_of}
use Rattle.cfn_cli.specs.Request.Solving.{spoken_solve}
use Rattle.cfn_low.specs.Outcome.{IsSearched, timed_nodes}
use Rattle.cfn_search.specs.Beginning.{start_of}
use Rattle.cfn_app.specs.Runs.Solving.{limits_of, word_of}
use Rattle.cfn_app.proofs.Causes.{promised}
use Rattle.cfn_app.proofs.Ends.{searched_behind}
use Rattle.cfn_app.proofs.commands.solving.open_and_search.Goals as goal

pub returns-in-Ok : goal.returns-in-Ok
returns-in-Ok g c =
    let o = c.in-Ok.found.outcome in
    let k = certificate_of o.certificate in
    searched_behind c.args.network.now (start_of c.args.network.now c.args.begin) (spoken_solve c.args.ask.now) _ _ _ c.open_out.result c.put_out.result o.nodes k o.rows.items (word_of o.stop (solution_of o.certificate.best))
    (sym c.is_err.ensures.value ∙ c.if-is_err.false) (rw c.as_str.ensures.value at c.open_out.ensures.called)
    (promised c.args.network.now (start_of c.args.network.now c.args.begin) (limits_of (spoken_solve c.args.ask.now)) o.nodes k o.rows.items o.stop c.law_limits.ensures
    (subst (λ timed. IsSearched c.args.network.now (start_of c.args.network.now c.args.begin) (timed_nodes c.args.ask.now.budget timed) o.nodes k o.rows.items o.stop) c.requires.halt c.in-Ok.ensures.outcome))
    (rw c.from-workers.ensures at c.put_out.ensures)
