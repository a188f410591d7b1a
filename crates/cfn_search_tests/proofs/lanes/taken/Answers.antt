use Rattle.cfn_pool.specs.Views.{pool}
use Rattle.cfn_search.proofs.CallerLemmas.{goes_taken}
use Rattle.cfn_search_tests.proofs.lanes.taken.Goals as goal

pub returns-in-Given-clause-goes : goal.returns-in-Given-clause-goes
returns-in-Given-clause-goes g c =
    goes_taken g.M.Incumbent.network g.M.Incumbent.start (pool c.args.held.now) (pool c.take.new.self) c.args.worker 1 c.in-Given.task.task c.law_kept.ensures.pool c.in-Given.ensures.takes.1 c.requires.search
