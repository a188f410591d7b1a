use Rattle.std.proofs.Common.{◌≡◌, ℕ, ◌<◌, ◌≤◌, get_or, pos, ◌+ℤ◌}
use Rattle.cfn_tables.proofs.domain.add_to_each.Given as goal

-- the costs before the index have the amount, and the others are as before
abbrev pub invariant-loop-cost : goal.invariant-loop-cost
invariant-loop-cost l = record {
  done : (b : ℕ) → b < l.cost-index → get_or l.costs b (pos 0) ≡ (l.amount +ℤ get_or l.fn.costs b (pos 0));
  rest : (b : ℕ) → l.cost-index ≤ b → get_or l.costs b (pos 0) ≡ get_or l.fn.costs b (pos 0);
}
