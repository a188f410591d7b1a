use Rattle.cfn_model.specs.declared.limits.TheConstants.{GREATEST}
use Rattle.std.proofs.Common.{subst}
use Rattle.cfn_proof.specs.Certificates.{certificate_of}
use Rattle.cfn_low.specs.Outcome.{IsSearched, fresh, nodes_alone}
use Rattle.cfn_low.specs.declared.outcome.Stop.TheVariants.{Done}
use Rattle.cfn_app.proofs.Causes.{promised}
use Rattle.cfn_app.proofs.LeastCost.{least_when_done}
use denote.Param.Send.{sendable}
use Rattle.cfn_explore.proofs.CallerLemmas.{never_sync}
use Rattle.cfn_app.proofs.commands.trying.least_cost.Goals as goal

pub search-requires-sync-H : goal.search-requires-sync-H
search-requires-sync-H g c κs within = search (sendable, never_sync) depth 40

pub returns-in-Done : goal.returns-in-Done
returns-in-Done g c =
    let o = c.in_ok-found.found.outcome in
    let P = c.args.network.now in
    let k = certificate_of o.certificate in
    least_when_done P (fresh P) _ o.nodes k o.rows.items
    (promised P (fresh P) _ o.nodes k o.rows.items Done c.law_limits.ensures (subst (λ stop. IsSearched P (fresh P) (nodes_alone GREATEST) o.nodes k o.rows.items stop) c.in-Done.is (subst (λ start. IsSearched P start (nodes_alone GREATEST) o.nodes k o.rows.items o.stop) c.in_ok-begin.ensures.start c.in_ok-found.ensures.outcome)))
    c.requires.allowed
