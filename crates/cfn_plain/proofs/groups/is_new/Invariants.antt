use Rattle.std.proofs.Common.{drop}
use Rattle.std.specs.Prelude.{◌↔◌}
use Rattle.cfn_consistency.specs.Groups.{IsNew}
use Rattle.cfn_plain.proofs.groups.is_new.Given as goal

-- the step repeats none where it repeats none of those that are left
abbrev pub invariant-loop-other : goal.invariant-loop-other
invariant-loop-other l = IsNew (drop l.other-index l.group) l.step ↔ IsNew l.group l.step
