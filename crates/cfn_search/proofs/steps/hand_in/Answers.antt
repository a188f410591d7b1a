use Rattle.std.proofs.Common.{ℕ, subst}
use Rattle.cfn_pool.specs.Views.{pool}
use Rattle.cfn_search.specs.Searching.{SweepsBelow}
use Rattle.cfn_search.proofs.steps.hand_in.Goals as goal

pub returns-in-Ok-clause-steps : goal.returns-in-Ok-clause-steps
returns-in-Ok-clause-steps g c = record {
  given = pool c.give.new.held;
  gives = c.in-Ok.ensures.gives;
  noted = pool c.note.new.held;
  notes = c.note.ensures.notes;
  sweeps = subst (λ (n : ℕ). SweepsBelow g.M.Incumbent.network n (pool c.note.new.held) (pool c.sweep_below.new.held)) c.seen-before.ensures c.sweep_below.ensures.sweeps;
}
