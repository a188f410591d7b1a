use Rattle.cfn_proof.proofs.Grafted.{graft_law, count_graft, splits_graft}
use Rattle.cfn_proof.proofs.laws.law_grafted_tree.Goals as goal

pub returns-clause-tree : goal.returns-clause-tree
returns-clause-tree c = graft_law

pub returns-clause-count : goal.returns-clause-count
returns-clause-count c = count_graft

pub returns-clause-splits : goal.returns-clause-splits
returns-clause-splits c = splits_graft
