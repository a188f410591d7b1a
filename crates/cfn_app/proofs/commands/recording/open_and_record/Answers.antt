use Rattle.std.proofs.Common.{sym, subst, ◌∙◌}
use Rattle.cfn_proof.specs.Certificates.{certificate_of, solution_of}
use Rattle.cfn_certwrite.specs.Records as records
use Rattle.cfn_cli.specs.Request.Recording.{spoken_recorded}
use Rattle.cfn_low.specs.Outcome.{IsSearched, fresh, timed_nodes}
use Rattle.cfn_app.specs.Runs.Solving.{limits_of, word_of}
use Rattle.cfn_app.proofs.Causes.{promised}
use Rattle.cfn_app.proofs.Recordings.{is_record, searched_behind}
use Rattle.cfn_app.proofs.commands.recording.open_and_record.Goals as goal

pub returns-in-Some : goal.returns-in-Some
returns-in-Some g c =
    let P = c.args.network.now in
    let ask = spoken_recorded c.args.ask.now in
    let o = c.in-Ok.found.outcome in
    let k = certificate_of o.certificate in
    let is = subst (λ start. IsSearched P start (timed_nodes c.args.ask.now.solve.budget (g.H.Halt.limited c.args.halt.now)) o.nodes k o.rows.items o.stop) c.requires.start c.in-Ok.ensures.outcome in
    searched_behind P ask _ _ _ c.open_out.result c.put_both.result o.nodes k o.rows.items (word_of o.stop (solution_of o.certificate.best)) (records.recorded c.in-Some.history o.certificate)
    (sym c.is_err.ensures.value ∙ c.if-is_err.false) (rw c.as_str.ensures.value at c.open_out.ensures.called)
    (promised P (fresh P) (limits_of ask.solve) o.nodes k o.rows.items o.stop c.law_limits.ensures
    (subst (λ timed. IsSearched P (fresh P) (timed_nodes c.args.ask.now.solve.budget timed) o.nodes k o.rows.items o.stop) c.requires.halt is))
    (is_record P c.args.ask.now.solve.budget o.certificate c.in-Some.history (rw c.in-Some.is at c.in-Ok.ensures.history) is.good is.lower c.law_spelled.ensures)
    (rw (c.as_str-in-Some.ensures.value, c.from-workers.ensures) at c.put_both.ensures)
