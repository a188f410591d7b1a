use Rattle.cfn_line.proofs.CallerLemmas.{go_on, halt}
use Rattle.cfn_certwrite.proofs.ListLines.{text_item}
use Rattle.cfn_certwrite.specs.ListLines.{listed_words}
use Rattle.cfn_certwrite.proofs.list.put_list.Goals as goal

pub returns-in_err-put_listed : goal.returns-in_err-put_listed
returns-in_err-put_listed g c =
    halt _ c.from_residual.ensures.0 _ (text_item listed_words c.args.list.now c.loop-listed.listed-index _ c.listed-item.is c.loop-listed-test.true) c.loop-listed.invariant c.in_err-put_listed.ensures

pub loop-listed-preserved : goal.loop-listed-preserved
loop-listed-preserved g c =
    go_on _ (text_item listed_words c.args.list.now c.loop-listed.listed-index _ c.listed-item.is c.loop-listed-test.true) c.loop-listed.invariant c.in_ok-put_listed.ensures
