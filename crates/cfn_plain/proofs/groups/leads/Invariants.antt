use Rattle.std.proofs.Common.{◌≡◌, [], drop}
use Rattle.std.specs.Prelude.{◌↔◌}
use Rattle.cfn_consistency.specs.Groups.{begun, LeadTo}
use Rattle.cfn_plain.specs.Groups.{Ends, Tells}
use Rattle.cfn_plain.proofs.groups.leads.Given as goal

-- the steps are groups where those that are left go on with the group so far; and of these it is told
abbrev pub invariant-loop-i : goal.invariant-loop-i
invariant-loop-i l = record {
  on : LeadTo l.network (Ends l.unfinished) (record { start = l.start; steps = l.group.items }) l.history.items (drop l.i l.steps) ↔ LeadTo l.network (Ends l.unfinished) (begun l.start) l.start l.steps;
  told : Tells l.network (Ends l.unfinished) l.history.items (drop l.i l.steps) (drop l.i l.told);
  begun : l.group.items ≡ [] → l.history.items ≡ l.start;
}
