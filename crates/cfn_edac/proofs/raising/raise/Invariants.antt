use Rattle.std.proofs.Common.{◌≡◌, length}
use Rattle.cfn_store.specs.Standing.{history}
use Rattle.cfn_gain.specs.Calls.{Passing}
use Rattle.cfn_edac.proofs.Existing.{AreFullTo}
use Rattle.cfn_edac.proofs.Owing.{IsRaising}
use Rattle.cfn_edac.proofs.raising.raise.Given as goal

abbrev pub invariant-loop-pair : goal.invariant-loop-pair
invariant-loop-pair l = record {
  passing : Passing l.initial.store l.store l.limits (AreFullTo l.initial.store.network (history l.initial.store) l.pairs l.alpha l.pair-index);
  raising : IsRaising l.initial.store l.store l.x l.pairs l.alpha l.pair-index;
  same : length l.moves ≡ length l.initial.moves;
}
