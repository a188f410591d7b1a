use Rattle.std.proofs.Common.{sym}
use Rattle.cfn_certtext.proofs.Words.{word_to_space, word_to_end}
use Rattle.cfn_certtext.proofs.fields.Fields.word.Goals as goal

pub returns-in-Some-clause-gives : goal.returns-in-Some-clause-gives
returns-in-Some-clause-gives c = rw (← c.self.view_is) (rw c.if-self.false (word_to_space c.self.inside.bytes.now c.in-Some.space (sym c.in-Some.ensures)))

pub returns-in-None-clause-gives : goal.returns-in-None-clause-gives
returns-in-None-clause-gives c = rw (← c.self.view_is) (rw c.if-self.false (word_to_end c.self.inside.bytes.now (sym c.in-None.ensures)))
