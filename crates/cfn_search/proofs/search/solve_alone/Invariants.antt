use Rattle.cfn_search.specs.Beginning.{start_of}
use Rattle.cfn_search.proofs.search.solve_alone.Given as goal

abbrev pub ghosts-search : goal.ghosts-search
ghosts-search g a = record { table = a.unnamed.table; network = a.unnamed.network; start = start_of a.unnamed.network a.begin }
