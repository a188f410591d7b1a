use Rattle.std.proofs.Common.{ℕ, ◌<◌}
use Rattle.cfn_ranking.specs.Ranked.{Waits}
use Rattle.cfn_ranking.proofs.ranking.Ranking.has_open.Given as goal

-- none so far waits
abbrev pub invariant-loop-i : goal.invariant-loop-i
invariant-loop-i l = (j : ℕ) → j < l.i → Waits l.self j → ⊥
