use Rattle.cfn_replay.proofs.Reading.{over_iff}
use Rattle.cfn_replay.proofs.lines.Lines.is_over.Goals as goal

pub returns : goal.returns
returns c = rw (← c.self.view_is) (over_iff c.self.inside.text.now c.self.inside.at c.self.invariant.1)
