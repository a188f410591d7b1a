use Rattle.std.proofs.Common.{◌≡◌, ℕ, ◌≤◌, ◌+◌, ◌<◌, ◌++◌, [], ◌∷◌, length, slice_index_or}
use Rattle.cfn_rota.specs.Values.{lanes_of}
use Rattle.cfn_rota.proofs.ends.add_thieves.Given as goal

abbrev pub invariant-loop-theirs : goal.invariant-loop-theirs
invariant-loop-theirs g l = record {
  parts : l.lane.parts + l.theirs-index ≡ 128;
  lane : l.lane ≡ record l.fn.lane { parts = l.lane.parts };
  thieves : length l.thieves ≡ length l.fn.thieves;
  known : (k : ℕ) (d : _) → k < l.theirs-index → lanes_of (slice_index_or l.thieves k d).items ≡ lanes_of (slice_index_or l.fn.thieves k d).items ++ l.fn.lane.lane ∷ [];
  others : (k : ℕ) (d : _) → l.theirs-index ≤ k → slice_index_or l.thieves k d ≡ slice_index_or l.fn.thieves k d;
}
