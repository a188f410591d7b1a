use Rattle.std.proofs.Common.{◌≡◌, subst}
use Rattle.cfn_proof.specs.Nodes as nodes
use Rattle.cfn_machine.specs.Pool.{tree_of}
use Rattle.cfn_leaves.specs.Value.{Holding, pool_tree}
use Rattle.cfn_leaves.proofs.Bounds.{plain_is}
use Rattle.cfn_leaves.proofs.Insides.{value}
use Rattle.cfn_leaves.proofs.leaves.Leaves.finish.Goals as goal

pub returns-clause-tree : goal.returns-clause-tree
returns-clause-tree c =
    let m = value c.self.inside in
    subst (λ (old : Holding). nodes.tree_of c.self.inside.tree ≡ tree_of (pool_tree old)) c.self.view_is (plain_is m.network m.tree m.table (pool_tree m) c.self.invariant.body.are)
