use Rattle.std.proofs.Common.{◌≡◌, ◌≤◌, length}
use Rattle.cfn_wcnf.specs.Places.{words_left, bytes_left}
use Rattle.cfn_wcnf.proofs.lines.Lines.word.Given as goal

abbrev pub invariant-loop-word : goal.invariant-loop-word
invariant-loop-word l = (words_left l.self ≡ words_left l.fn.self) × (bytes_left l.self ≤ bytes_left l.fn.self)

abbrev pub decreases-loop-word : goal.decreases-loop-word
decreases-loop-word l = length l.self.rest.now
