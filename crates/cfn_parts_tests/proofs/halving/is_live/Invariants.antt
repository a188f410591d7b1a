use Rattle.std.proofs.Common.{reverse}
use Rattle.std.specs.Prelude.{IsTrue}
use Rattle.cfn_model.specs.Sums.{is_live}
use Rattle.cfn_parts_tests.proofs.halving.is_live.Given as goal

-- none of the events so far takes the value
abbrev pub invariant-loop-event : goal.invariant-loop-event
invariant-loop-event l = IsTrue (is_live (reverse l.yielded) l.x l.a)
