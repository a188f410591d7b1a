use Rattle.std.proofs.Common.{false}
use Rattle.cfn_low.specs.Outcome.{fresh}
use Rattle.cfn_search_tests.proofs.lanes.in_two.Given as goal

abbrev pub ghosts-asked-M-Incumbent : goal.ghosts-asked-M-Incumbent
ghosts-asked-M-Incumbent g a = record { table = a.unnamed.table; network = a.unnamed.network; start = fresh a.unnamed.network }

abbrev pub ghosts-asked-M-Crew : goal.ghosts-asked-M-Crew
ghosts-asked-M-Crew g a = record { budget = 1000; workers = 1; recorded = false }
