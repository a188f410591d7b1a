use Rattle.cfn_low.specs.Outcome.{fresh}
use Rattle.cfn_search_tests.proofs.threads.sights.Given as goal

abbrev pub ghosts-lower_and_look : goal.ghosts-lower_and_look
ghosts-lower_and_look g a = record { table = a.unnamed.table; network = a.unnamed.network; start = fresh a.unnamed.network }
