use Rattle.std.proofs.Common.{sym, ap, subst, ◌∙◌}
use Rattle.cfn_fault.specs.Decoding.{word_from, words_in}
use Rattle.cfn_certtext.specs.Giving.{Gives}
use Rattle.cfn_replay.specs.Said.{line_of_said}
use Rattle.cfn_replay.proofs.Words.{line_said_from}
use Rattle.cfn_replay.proofs.said.parse.Goals as goal

pub returns-clause-gives : goal.returns-clause-gives
returns-clause-gives c =
    subst (Gives line_of_said c.parse_behind.result) (sym (line_said_from (words_in c.args.front.now) c.in_ok-word.word.now c.word.new.self (ap word_from (sym c.of-fields.ensures) ∙ c.in_ok-word.ensures.gives))) c.parse_behind.ensures.gives
