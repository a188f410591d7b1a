use Rattle.std.proofs.Common.{◌≡◌, ℕ, ◌+◌, ◌<◌, ◌≤◌, length, map, take, slice_index_or}
use Rattle.cfn_rota.specs.Values.{IsOneOf, own_lanes, lanes_of}
use Rattle.cfn_search.specs.Accounts.{least_of, reach}
use Rattle.cfn_search.proofs.worker.Worker.gather.Given as goal

-- the workers from a place on have met this one, whose thieves are those of the lanes before that place
abbrev pub invariant-loop-left : goal.invariant-loop-left
invariant-loop-left g l = record {
  count : length l.others ≡ length l.fn.others;
  least : l.self.least ≡ l.fn.self.least;
  leasts : map least_of l.others ≡ map least_of l.fn.others;
  within : l.left ≤ length l.fn.others;
  own : l.self.ends.lane.lane ≡ l.fn.self.ends.lane.lane;
  parts : l.self.ends.lane.parts + l.left ≡ 128;
  thieves : lanes_of l.self.ends.thieves ≡ take l.left (own_lanes (map reach l.fn.others));
  lanes : own_lanes (map reach l.others) ≡ own_lanes (map reach l.fn.others);
  before : (k : ℕ) (d : _) → k < l.left → slice_index_or l.others k d ≡ slice_index_or l.fn.others k d;
  met : (k : ℕ) (d : _) → l.left ≤ k → k < length l.fn.others → IsOneOf (own_lanes (map reach l.fn.others)) (reach (slice_index_or l.others k d));
}

abbrev pub decreases-loop-left : goal.decreases-loop-left
decreases-loop-left g l = l.left
