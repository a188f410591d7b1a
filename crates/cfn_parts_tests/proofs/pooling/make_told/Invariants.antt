use Rattle.cfn_low.specs.Outcome.{fresh}
use Rattle.cfn_parts_tests.proofs.pooling.make_told.Given as goal

abbrev pub ghosts-begin : goal.ghosts-begin
ghosts-begin a = record { table = a.unnamed.table; network = a.unnamed.network; start = fresh a.unnamed.network }
