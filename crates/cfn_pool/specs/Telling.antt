-- What is told of the pool while a search runs.
use Rattle.std.specs.Prelude.{◌≡◌}
use Rattle.cfn_model.specs.Network.{Network}
use Rattle.cfn_model.specs.Tree.{open_leaves}
use Rattle.cfn_machine.specs.Pool.{Pool, row_of, tree_of}
use Rattle.cfn_explore.specs.declared.news.News.{News}

-- Its row of bounds now, how many nodes were made, and how many leaves are open.
pub record IsNews (P : Network) (pool : Pool) (news : News) : Type 0 where
  pub bounds : news.bounds ≡ row_of P (tree_of pool.tree) pool.view.seen
  pub nodes : news.nodes ≡ pool.nodes
  pub leaves : news.leaves ≡ open_leaves (tree_of pool.tree)
