use Rattle.cfn_search.specs.Beginning.{start_of}
use Rattle.cfn_search.proofs.team.solve_from.Given as goal

abbrev pub ghosts-search-M-Incumbent : goal.ghosts-search-M-Incumbent
ghosts-search-M-Incumbent g a = record { table = a.unnamed.table; network = a.unnamed.network; start = start_of a.unnamed.network a.begin }

abbrev pub ghosts-search-M-Crew : goal.ghosts-search-M-Crew
ghosts-search-M-Crew g a = record { budget = a.budget; workers = a.workers; recorded = a.begin.recorded }
