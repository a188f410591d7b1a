use Rattle.std.proofs.Common.{◌≡◌, ◌+◌, ◌-◌, ◌<◌}
use Rattle.std.specs.Prelude.{slice_index, IsTrue}
use Rattle.cfn_model.specs.Sums.{is_live}
use Rattle.cfn_rows.specs.Sets.{live_below}
use Rattle.cfn_store.specs.Standing.{history}
use Rattle.cfn_branch.specs.Choosing.{choices}
use Rattle.cfn_branch.specs.Fewest.{half_of}
use Rattle.cfn_branch.proofs.fewest.middle.Given as goal

abbrev pub invariant-loop-rest : goal.invariant-loop-rest
invariant-loop-rest l = record {
  there : l.value < slice_index l.store.network.sizes l.x;
  passed : live_below (history l.store) l.x (l.value + 1) + l.rest ≡ half_of (choices l.store l.x);
  live : l.rest ≡ 0 → IsTrue (is_live (history l.store) l.x l.value);
}

abbrev pub decreases-loop-rest : goal.decreases-loop-rest
decreases-loop-rest l = slice_index l.store.network.sizes l.x - l.value
