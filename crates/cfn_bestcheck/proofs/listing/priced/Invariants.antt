use Rattle.std.proofs.Common.{length}
use Rattle.cfn_certtext.specs.Stages.{values_of}
use Rattle.cfn_check.specs.Assigning.{IsTold}
use Rattle.cfn_bestcheck.proofs.listing.priced.Given as goal

-- the values of the words so far were told
abbrev pub invariant-loop-word : goal.invariant-loop-word
invariant-loop-word l = IsTold l.network l.told (values_of l.fn.words) (values_of l.words)

abbrev pub decreases-loop-word : goal.decreases-loop-word
decreases-loop-word l = length l.words
