use Rattle.std.proofs.Common.{◌≡◌, ◌++◌, drop}
use Rattle.cfn_proof.specs.Nodes.{all_steps}
use Rattle.cfn_proof.specs.Packing.{IsPacked, unpacked}
use Rattle.cfn_proof.proofs.tree.joined.Given as goal

-- the bytes so far are those of the first nodes
abbrev pub invariant-loop-node-2 : goal.invariant-loop-node-2
invariant-loop-node-2 l = IsPacked l.bytes.items × (unpacked l.bytes.items ++ all_steps (drop l.node-index l.nodes) ≡ all_steps l.nodes)
