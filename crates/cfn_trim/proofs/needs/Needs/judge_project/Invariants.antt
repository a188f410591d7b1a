use Rattle.std.proofs.Common.{◌≡◌, length}
use Rattle.cfn_trim.proofs.needs.Needs.judge_project.Given as goal

abbrev pub invariant-loop-y : goal.invariant-loop-y
invariant-loop-y l = record {
  network : l.self-inside.network.now ≡ l.fn.self;
  lifts : length l.self-inside.lifts.items ≡ length l.fn.self.sizes;
  costs : l.self-inside.costs ≡ l.fn.self;
  all_costs : l.self-inside.all_costs ≡ length l.fn.self.sizes;
  cuts : l.self-inside.cuts ≡ length l.fn.self.sizes;
  functions : l.self-inside.functions ≡ length l.fn.self.functions;
}
