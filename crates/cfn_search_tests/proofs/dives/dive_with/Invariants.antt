use Rattle.cfn_low.specs.Outcome.{fresh}
use Rattle.cfn_search_tests.proofs.dives.dive_with.Given as goal

abbrev pub ghosts-dive : goal.ghosts-dive
ghosts-dive a = record { table = a.unnamed.table; network = a.unnamed.network; start = fresh a.unnamed.network }
