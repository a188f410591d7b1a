use Rattle.cfn_pool.specs.Views.{pool}
use Rattle.cfn_search.proofs.Noted.{noted, noted_nodes}
use Rattle.cfn_search.proofs.steps.note.Goals as goal

pub returns-clause-goes : goal.returns-clause-goes
returns-clause-goes g c = noted g.M.Incumbent.network g.M.Incumbent.start (pool c.args.held.now) (pool c.note.new.self) c.note.ensures.notes c.requires.search

pub returns-clause-nodes : goal.returns-clause-nodes
returns-clause-nodes g c = noted_nodes g.M.Incumbent.network (pool c.args.held.now) (pool c.note.new.self) c.note.ensures.notes
