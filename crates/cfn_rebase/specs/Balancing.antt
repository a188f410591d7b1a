-- A cost as two sums.
use Rattle.std.specs.Prelude.{ℕ, ◌*◌, ◌≤◌, ◌^◌, ℤ, pos, neg_ℤ, ◌+ℤ◌}
use Rattle.cfn_rebase.specs.declared.balance.Balance.{Balance}

-- The cost that a balance stands for.
abbrev pub worth : Balance → ℤ
worth b = pos b.more +ℤ neg_ℤ (pos b.less)

-- Neither sum is more than so many amounts come to.
pub record IsLight (n : ℕ) (b : Balance) : Type 0 where
  pub more : b.more ≤ n * 2 ^ 64
  pub less : b.less ≤ n * 2 ^ 64
