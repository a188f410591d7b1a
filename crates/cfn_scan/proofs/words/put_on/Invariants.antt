use Rattle.std.proofs.Common.{◌≡◌, ◌++◌, map, take, drop}
use Rattle.cfn_scan.specs.Words.{more}
use Rattle.cfn_scan.proofs.words.put_on.Given as goal

-- the words so far are changed, and the others are as they were
abbrev pub invariant-loop-word : goal.invariant-loop-word
invariant-loop-word l = l.words ≡ map (more l.amount) (take l.word-index l.initial.words) ++ drop l.word-index l.initial.words
