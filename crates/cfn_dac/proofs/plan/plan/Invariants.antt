use Rattle.std.proofs.Common.{◌≡◌, length}
use Rattle.cfn_store.specs.Standing.{history}
use Rattle.cfn_dac.proofs.Planning.{ArePlanned}
use Rattle.cfn_dac.proofs.plan.plan.Given as goal

abbrev pub invariant-loop-value : goal.invariant-loop-value
invariant-loop-value l = record {
  same : length l.moves ≡ length l.initial.moves;
  planned : ArePlanned l.store.network (history l.store) l.pair l.alpha l.moves l.value l.some;
}
