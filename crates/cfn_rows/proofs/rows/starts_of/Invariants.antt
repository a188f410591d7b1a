use Rattle.std.proofs.Common.{◌≡◌, ◌+◌, ◌∷◌, ◌≤◌, length, take, vec_len, vec_capacity}
use Rattle.std.specs.List.{sum_by}
use Rattle.cfn_rows.specs.Jagged.{ends_from}
use Rattle.cfn_rows.proofs.rows.starts_of.Given as goal

-- a start for each row so far and one behind, and where the last of them ends
abbrev pub invariant-loop-length : goal.invariant-loop-length
invariant-loop-length l = record {
  starts : l.starts.items ≡ 0 ∷ ends_from 0 (take l.length-index l.lengths);
  end : l.end ≡ sum_by (λ n. n) (take l.length-index l.lengths);
  count : vec_len l.starts ≡ l.length-index + 1;
  room : length l.lengths + 1 ≤ vec_capacity l.starts;
}
