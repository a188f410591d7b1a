use Rattle.cfn_leaves.proofs.Sweeps.{SweepsOn}
use Rattle.cfn_leaves.proofs.leaves.Leaves.sweep.Given as goal

abbrev pub invariant-loop-place : goal.invariant-loop-place
invariant-loop-place l = SweepsOn l.word l.initial.self-inside l.self-inside l.place
