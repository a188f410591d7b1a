use Rattle.std.proofs.Common.{◌≡◌, ◌+◌, ◌≤◌, length, All, vec_capacity}
use Rattle.cfn_machine.specs.Word.{all_shares}
use Rattle.cfn_search.proofs.team.split.Given as goal

-- the parts so far have a share each, and the part that is split keeps what it kept
abbrev pub invariant-loop : goal.invariant-loop
invariant-loop g l = record {
  count : length l.parts.items ≡ l.counter;
  room : l.workers ≤ vec_capacity l.parts;
  ones : All (λ part. part.shares ≡ 1) l.parts.items;
  shares : l.holder.shares + length l.parts.items ≡ all_shares;
  held : l.holder.held ≡ l.fn.holder.held;
  seen : l.holder.seen ≡ l.fn.holder.seen;
}
