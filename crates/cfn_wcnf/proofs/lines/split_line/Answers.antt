use Rattle.cfn_wcnf.proofs.FirstLines.{split, whole}
use Rattle.cfn_wcnf.proofs.lines.split_line.Goals as goal

pub returns-in-Some-clause-words : goal.returns-in-Some-clause-words
returns-in-Some-clause-words c = split c.args.text.now c.in-Some.end c.in-Some.ensures

pub returns-in-None-clause-words : goal.returns-in-None-clause-words
returns-in-None-clause-words c = whole c.args.text.now c.requires c.in-None.ensures
