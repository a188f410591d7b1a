-- What the crates above cite of the proofs here.
pub use Rattle.cfn_ranking.proofs.Paths.{before_runs, before_tame, small_end}
pub use Rattle.cfn_ranking.proofs.TreeLemmas.{listed_at_is}
pub use Rattle.cfn_ranking.proofs.WholeTree.{plain_law, valid_law, open_below_law, bound_from_law, bound_at_law, bound_most, none_open_law, some_open_law, spelled_law, numbers_law}
pub use Rattle.cfn_ranking.proofs.Spelled.{length-solutions_of}
