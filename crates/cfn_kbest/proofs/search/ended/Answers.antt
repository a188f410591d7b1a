use Rattle.std.proofs.Common.{eqb, eq-eqb, sym, ap, ◌∙◌, subst}
use Rattle.std.proofs.lemmas.Bool.{eqb-true}
use Rattle.std.specs.Prelude.{◌≤◌, is_some}
use Rattle.cfn_ranking.specs.Certificates.{list_certificate_of}
use Rattle.cfn_ranking.specs.Trees.{open_leaves}
use Rattle.cfn_ranking.specs.Finished.{IsListOf}
use Rattle.cfn_kbest.specs.Searching.{HasListCause, word_of}
use Rattle.cfn_kbest.proofs.Words.{has_cause}
use Rattle.cfn_kbest.proofs.search.ended.Goals as goal

pub returns : goal.returns
returns c =
    let r = c.args.ranking in
    let budget = c.args.budget in
    let spent = c.spent-spent.result in
    let certificate = list_certificate_of c.finish-finished.result.certificate in
    let within = subst (λ n. n ≤ budget) (sym c.spent-spent.ensures) c.requires.spent in
    record {
      list = subst (λ n. IsListOf c.args.network.now r.count n certificate) (sym c.spent-spent.ensures) c.finish-finished.ensures.list;
      within = within;
      cause = subst (HasListCause budget (is_some c.args.past) spent (open_leaves certificate.tree)) (sym (c.word_of.ensures ∙ ap (word_of c.finish-finished.result.is_open (eqb spent budget)) c.is_some.ensures))
          (has_cause c.finish-finished.result.is_open (eqb spent budget) (is_some c.args.past) budget spent (open_leaves certificate.tree) within c.finish-finished.ensures.open (eqb-true spent budget) (eq-eqb spent budget));
    }
