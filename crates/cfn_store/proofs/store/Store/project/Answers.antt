use Rattle.cfn_store.proofs.Stores.{exact_project}
use Rattle.cfn_store.proofs.store.Store.project.Goals as goal

pub make-requires-clause-exact : goal.make-requires-clause-exact
make-requires-clause-exact c = exact_project c.args.self.now c.args.f c.args.place c.args.value c.args.amount c.law_exact.ensures c.requires.fits
