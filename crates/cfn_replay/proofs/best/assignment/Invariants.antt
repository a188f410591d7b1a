use Rattle.std.proofs.Common.{◌∷◌, length}
use Rattle.cfn_certtext.specs.Stages.{values_of}
use Rattle.cfn_check.specs.Assigning.{IsTold}
use Rattle.cfn_replay.proofs.best.assignment.Given as goal

-- the values so far are told, and those of the words that are left are not
abbrev pub invariant-loop-word : goal.invariant-loop-word
invariant-loop-word l = IsTold l.fn.network l.told (l.fn.first ∷ values_of l.fn.others) (values_of l.words)

abbrev pub decreases-loop-word : goal.decreases-loop-word
decreases-loop-word l = length l.words
