use Rattle.cfn_replay.specs.Said.{line_of_said}
use Rattle.cfn_replay.proofs.Reading.{none_without_end, none_in_words, none_there, line_there}
use Rattle.cfn_replay.proofs.lines.Lines.next.Goals as goal

pub returns-in_err-end-clause-tells : goal.returns-in_err-end-clause-tells
returns-in_err-end-clause-tells c = rw (c.from_residual.ensures, ← c.self.view_is) (none_there c.self.inside.text.now c.self.inside.at (none_without_end _ c.in_err-end.ensures))

pub returns-in_err-said-clause-tells : goal.returns-in_err-said-clause-tells
returns-in_err-said-clause-tells c = rw (c.from_residual-in_err-said.ensures, ← c.self.view_is) (none_there c.self.inside.text.now c.self.inside.at (none_in_words _ c.in_ok-end.end c.in_ok-end.ensures c.in_err-said.ensures.gives))

pub returns-clause-tells : goal.returns-clause-tells
returns-clause-tells c = rw (← c.self.view_is) (line_there c.self.inside.text.now c.self.inside.at c.self.inside.count c.in_ok-end.end (line_of_said c.in_ok-said.said) c.in_ok-end.ensures c.in_ok-said.ensures.gives)
