use Rattle.cfn_pool.specs.Views.{pool}
use Rattle.cfn_search.proofs.Keeping.{goes_swept}
use Rattle.cfn_search.proofs.steps.sweep.Goals as goal

pub returns-clause-goes : goal.returns-clause-goes
returns-clause-goes g c = goes_swept g.M.Incumbent.network g.M.Incumbent.start (pool c.args.held.now) (pool c.sweep.new.self) c.law_kept.ensures.pool c.sweep.ensures.sweeps c.requires.search
