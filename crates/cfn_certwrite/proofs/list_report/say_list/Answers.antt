use Rattle.cfn_line.proofs.CallerLemmas.{go_on, halt}
use Rattle.cfn_certwrite.proofs.ListLines.{text_item}
use Rattle.cfn_ranking.specs.Certificates.{solution_of}
use Rattle.cfn_certwrite.specs.ListTexts.{cost_words}
use Rattle.cfn_certwrite.proofs.list_report.say_list.Goals as goal

pub returns-in_err-say_listed : goal.returns-in_err-say_listed
returns-in_err-say_listed g c =
    halt _ c.from_residual.ensures.0 _ (text_item (λ listed. cost_words (solution_of listed)) c.args.list.now c.loop-listed.listed-index _ c.listed-item.is c.loop-listed-test.true) c.loop-listed.invariant c.in_err-say_listed.ensures

pub loop-listed-preserved : goal.loop-listed-preserved
loop-listed-preserved g c =
    go_on _ (text_item (λ listed. cost_words (solution_of listed)) c.args.list.now c.loop-listed.listed-index _ c.listed-item.is c.loop-listed-test.true) c.loop-listed.invariant c.in_ok-say_listed.ensures
