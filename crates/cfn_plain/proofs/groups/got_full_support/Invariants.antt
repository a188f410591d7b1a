use Rattle.std.proofs.Common.{ℕ, ◌<◌}
use Rattle.cfn_plain.specs.Groups.{GotFullSupportWith}
use Rattle.cfn_plain.proofs.groups.got_full_support.Given as goal

-- the value got none with regard to the variables at the smaller places
abbrev pub invariant-loop-other : goal.invariant-loop-other
invariant-loop-other l = (j : ℕ) → j < l.other → GotFullSupportWith l.network l.start l.end l.spot.function l.spot.place j l.spot.value → ⊥
