use Rattle.cfn_app.proofs.Causes.{word_of_best}
use Rattle.cfn_app.proofs.output.result_word.Goals as goal

pub returns-in-Some : goal.returns-in-Some
returns-in-Some c =
    word_of_best c.args.outcome.now.stop c.args.outcome.now.certificate.best c.in-Some.field-0 c.in-Done.is c.in-Some.is (c.args.outcome.now.certificate.best_is_held c.in-Some.field-0 c.in-Some.is)
