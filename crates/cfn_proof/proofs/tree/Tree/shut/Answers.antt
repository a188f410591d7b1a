use Rattle.cfn_proof.proofs.Written.{shut_tree}
use Rattle.cfn_proof.proofs.tree.Tree.shut.Goals as goal

pub invariant_of-self : goal.invariant_of-self
invariant_of-self c = shut_tree _ _ _ _ c.self.view_is c.self.invariant c.requires.there c.requires.free c.index_mut-node.ensures.value
