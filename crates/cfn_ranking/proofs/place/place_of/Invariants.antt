use Rattle.std.proofs.Common.{ℕ, ◌<◌}
use Rattle.std.specs.Prelude.{slice_index_or}
use Rattle.cfn_model.specs.Certificate.{Solution}
use Rattle.cfn_best.specs.List.{IsBefore}
use Rattle.cfn_ranking.specs.Certificates.{solutions_of}
use Rattle.cfn_ranking.proofs.place.place_of.Given as goal

-- the ones so far come before it
abbrev pub invariant-loop-i : goal.invariant-loop-i
invariant-loop-i l = (j : ℕ) (other : Solution) → j < l.i → IsBefore (slice_index_or (solutions_of l.list) j other) (record { cost = l.cost; values = l.values })
