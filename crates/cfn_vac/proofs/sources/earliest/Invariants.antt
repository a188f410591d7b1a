use Rattle.std.proofs.Common.{◌≡◌, ℕ, List}
use Rattle.cfn_model.specs.Network.{Fits, cell, dims_at}
use Rattle.cfn_vac.proofs.Gathering.{IsEarliest}
use Rattle.cfn_vac.proofs.sources.earliest.Given as goal

abbrev pub invariant-loop-place : goal.invariant-loop-place
invariant-loop-place l = (tuple : List ℕ) → Fits (dims_at l.network l.target.function) tuple → cell (dims_at l.network l.target.function) tuple ≡ l.number
    → IsEarliest l.network l.positions l.target.function l.target.place l.end l.place l.first tuple l.found
